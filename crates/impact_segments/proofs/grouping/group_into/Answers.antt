-- The pairs in order follow one another.
use Rattle.std.proofs.Common.{◌≤◌, List, sym, subst, All, AllPairs}
use Rattle.impact_segments.specs.Private.Pairs.{Follows}
use Rattle.impact_segments.specs.declared.doc_impact.DocImpact.{DocImpact}
use Rattle.impact_segments.proofs.Grouped.{sorted_order, sorted_some}
use Rattle.impact_segments.proofs.grouping.group_into.Goals as goal

pub cut-requires-clause-order : goal.cut-requires-clause-order
cut-requires-clause-order c =
    subst (λ (l : List DocImpact). AllPairs Follows l) (sym c.arrange.ensures) (sorted_order c.args.pairs.now c.requires.rising)

pub cut-requires-clause-positive : goal.cut-requires-clause-positive
cut-requires-clause-positive c =
    subst (λ (l : List DocImpact). All (λ (p : DocImpact). 1 ≤ p.impact) l) (sym c.arrange.ensures) (sorted_some c.args.pairs.now c.requires.positive)
