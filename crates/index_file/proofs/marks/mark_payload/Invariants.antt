use Rattle.std.proofs.Common.{◌+◌, slice_range}
use Rattle.index_file.proofs.Below.{Gives, docs_in}
use Rattle.index_file.specs.Parts.{told}
use Rattle.index_file.proofs.MarkLists.{Left}
use Rattle.index_file.proofs.marks.mark_payload.Given as goal

abbrev pub invariant-parts : goal.invariant-parts
invariant-parts l = Left (Gives l.cursor (slice_range l.bytes l.from (l.from + l.fn.head.size))) l.now l.fn.docs l.left (docs_in l.bytes l.fn.docs (told l.fn.head) l.from) l.fn.marks l.marks

abbrev pub decreases-parts : goal.decreases-parts
decreases-parts l = l.left
