use Rattle.shared_lemmas.proofs.Common.{List, ℕ, ap, ◌∙◌, insert, string_bytes}
use Rattle.jass_base.specs.FilesOf.{files_of}
use Rattle.jass_base.proofs.FilesOf.{files_of-set, files_of-same}
use Rattle.jass_base.proofs.mem_cabinet.set.Goals as goal

pub returns-in-Ok-insert-clause-ok : goal.returns-in-Ok-insert-clause-ok
returns-in-Ok-insert-clause-ok c =
    files_of-set c.args.files.now c.insert.new.self (string_bytes c.in-Ok.key) c.args.bytes.now c.in-Ok-from_slice.content c.in-Ok-from_slice.ensures.items c.in-Ok-insert.ensures.updates
    ∙ ap (λ (bs : List ℕ). insert (files_of c.args.files.now) bs c.args.bytes.now) c.in-Ok.ensures.ok

pub returns-clause-err : goal.returns-clause-err
returns-clause-err c = files_of-same c.args.files.now c.insert.new.self c.in-Err.ensures.err
