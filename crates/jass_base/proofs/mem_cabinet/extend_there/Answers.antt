use Rattle.shared_lemmas.proofs.Common.{sym, ap, ◌∙◌, option_copied_mut}
use Rattle.jass_base.proofs.FilesOf.{files_of-grown, files_of-kept}
use Rattle.jass_base.proofs.mem_cabinet.extend_there.Goals as goal

pub returns-in-Ok-clause-ok : goal.returns-in-Ok-clause-ok
returns-in-Ok-clause-ok c =
    files_of-grown c.args.files.now (c.get_mut.follows.lender c.extend_from_slice.new.self) c.args.name.now c.args.bytes.now c.unwrap.result.now c.extend_from_slice.new.self
    (sym c.get_mut.ensures.value ∙ ap option_copied_mut c.unwrap.ensures) c.in-Ok.ensures.items ((c.get_mut.follows.holds c.extend_from_slice.new.self).3 c.requires)

pub returns-in-Err-clause-err : goal.returns-in-Err-clause-err
returns-in-Err-clause-err c =
    files_of-kept c.args.files.now (c.get_mut.follows.lender c.extend_from_slice.new.self) c.args.name.now c.unwrap.result.now c.extend_from_slice.new.self
    (sym c.get_mut.ensures.value ∙ ap option_copied_mut c.unwrap.ensures) c.in-Err.ensures.items ((c.get_mut.follows.holds c.extend_from_slice.new.self).3 c.requires)
