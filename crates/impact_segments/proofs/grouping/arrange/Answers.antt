-- The sort leaves the pairs in order, and pairs that tie are equal.
use Rattle.std.proofs.Common.{arith, rules, is_lt}
use Rattle.std.proofs.lemmas.List.Sorted.{answers_always}
use Rattle.ranking_model.proofs.Sorting.{sort_is_sorted}
use Rattle.impact_segments.specs.Pairs.{pair_cmp}
use Rattle.impact_segments.specs.declared.doc_impact.DocImpact.{DocImpact}
use Rattle.impact_segments.proofs.Orders.{pair_total, pair_same, pair_less}
use Rattle.impact_segments.proofs.Grouped.{sorted_few}
use Rattle.impact_segments.proofs.grouping.arrange.Goals as goal

pub returns-then-pairs-gt1 : goal.returns-then-pairs-gt1
returns-then-pairs-gt1 c = sort_is_sorted pair_cmp pair_total pair_same c.args.pairs.now c.sort_unstable_by.new.self
    c.sort_unstable_by.ensures.permutation
    (c.sort_unstable_by.ensures.sorted (λ (a b : DocImpact). is_lt (pair_cmp a b)) pair_less (answers_always _ _ _ (λ f a r f' called. search rules)))

pub returns-else-pairs-gt1 : goal.returns-else-pairs-gt1
returns-else-pairs-gt1 c = sorted_few c.args.pairs.now (omega (arith, c.if-pairs-gt1.false))
