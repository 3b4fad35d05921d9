use Rattle.std.proofs.Common.{drop, length, nat_cmp}
use Rattle.std.specs.Cmp.Lexicographic.{slice_cmp}
use Rattle.impact_segments.proofs.Below.{PostingsList, sorted, entry_cmp}
use Rattle.impact_segments.specs.Private.Weighed.{list_entries}
use Rattle.impact_segments.proofs.OneTerm.{Built}
use Rattle.impact_segments.proofs.terms.terms_of.Given as goal

abbrev pub invariant-loop-list : goal.invariant-loop-list
invariant-loop-list l = Built (λ (p : PostingsList). sorted (entry_cmp (slice_cmp nat_cmp)) (list_entries l.weigher.rule l.weigher.docs.now l.bits l.range p)) (length l.weigher.docs.now) l.lists l.terms (drop l.list-index l.lists)
