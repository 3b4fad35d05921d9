use Rattle.std.proofs.Common.{◌≡◌, sym, subst, ◌∙◌}
use Rattle.jass_top.proofs.Below.{read_index, Fails, FileView, NoMemory, Refused}
use Rattle.jass_top.proofs.MemoryFiles.{view_is, never_fails}
use Rattle.jass_top.proofs.memory_file.open_text.Goals as goal

pub unreachable-requires : goal.unreachable-requires
unreachable-requires c =
    let only : c.in-Err-Refused.field-0 ≡ NoMemory
    = never_fails c.texts_are_files.ensures c.files_are_read.ensures.found c.args.bytes c.requires.0 c.requires.1 c.in-Err-Refused.field-0 c.in-Err-Refused.ensures.exact in
    (let is : Refused c.in-Err-Refused.field-0-0 ≡ NoMemory = sym c.in-Err-Refused.field-0-is ∙ only in cc)

pub unreachable-requires-in-Err-ReadFault : goal.unreachable-requires-in-Err-ReadFault
unreachable-requires-in-Err-ReadFault c = absurd (subst (λ f. Fails {Y = FileView} f (read_index c.args.bytes)) c.in-Err-ReadFault.field-0-is c.in-Err-ReadFault.ensures.exact)

pub returns-in-Ok-clause-file : goal.returns-in-Ok-clause-file
returns-in-Ok-clause-file c = λ index text. view_is c.texts_are_files.ensures c.files_are_read.ensures.found c.args.bytes index text c.in-Ok.file c.in-Ok.ensures.exact
