use Rattle.std.proofs.Common.{◌≡◌, drop}
use Rattle.max_score.specs.Cursors.{left_of, postings_from}
use Rattle.max_score.proofs.cursor.TermCursor.head.Given as goal

abbrev pub invariant-loop-doc : goal.invariant-loop-doc
invariant-loop-doc l = postings_from l.doc (drop l.doc l.self-inside.impacts.items) ≡ left_of l.self
