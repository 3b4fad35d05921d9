use Rattle.shared_lemmas.proofs.Common.{List, ℕ, ◌++◌, sym, ap, ◌∙◌, insert}
use Rattle.jass_base.specs.FilesOf.{files_of}
use Rattle.jass_base.proofs.FilesOf.{content_missing}
use Rattle.jass_base.proofs.mem_cabinet.put_behind.Goals as goal

pub returns-in_ok-set-clause-ok : goal.returns-in_ok-set-clause-ok
returns-in_ok-set-clause-ok c =
    c.in_ok-set.ensures.ok ∙ ap (λ (xs : List ℕ). insert (files_of c.args.files.now) c.args.name.now (xs ++ c.args.bytes.now)) (sym (content_missing c.args.files.now c.args.name.now (sym c.contains_key.ensures ∙ c.if-contains_key.false)))
