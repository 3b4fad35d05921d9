use Rattle.std.proofs.Common.{◌≡◌, ◌+◌, ◌*◌, ◌<◌, ◌==◌, ℕ, take, length, get_or, count_by}
use Rattle.run_audit.proofs.adding.add_segment.Given as goal

abbrev pub invariant-loop-doc : goal.invariant-loop-doc
invariant-loop-doc l = (d : ℕ) → d < length l.fn.scores → get_or l.scores d 0 ≡ get_or l.fn.scores d 0 + l.segment.weight * count_by (λ x. x == d) (take l.doc-index l.segment.docs)
