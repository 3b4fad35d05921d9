use Rattle.std.proofs.Common.{◌≡◌, length, take, sum_by}
use Rattle.index_write.proofs.Below.{Segment, TermSegments}
use Rattle.index_write.proofs.sums.terms_postings.Given as goal

abbrev pub invariant-loop-term : goal.invariant-loop-term
invariant-loop-term l = l.postings ≡ sum_by (λ (t : TermSegments). sum_by (λ (s : Segment). length s.docs) t.segments) (take l.term-index l.terms)
