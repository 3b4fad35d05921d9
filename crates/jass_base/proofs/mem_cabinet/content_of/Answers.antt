use Rattle.shared_lemmas.proofs.Common.{Some, sym, ap, ◌∙◌, option_map}
use Rattle.jass_base.proofs.FilesOf.{get-files_of}
use Rattle.jass_base.proofs.mem_cabinet.content_of.Goals as goal

pub returns-in-Some : goal.returns-in-Some
returns-in-Some c = ap Some c.as_slice.ensures.value ∙ ap (option_map (λ v. v.items)) c.in-Some.ensures.value ∙ sym (get-files_of c.args.files.now c.args.name.now)

pub returns-in-None : goal.returns-in-None
returns-in-None c = ap (option_map (λ v. v.items)) c.in-None.ensures.value ∙ sym (get-files_of c.args.files.now c.args.name.now)
