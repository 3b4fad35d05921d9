use Rattle.std.proofs.Common.{◌≡◌, ◌≤◌, count_by, take}
use Rattle.std.specs.Ordering.{is_lt}
use Rattle.ranking_model.specs.Scores.{rank_cmp}
use Rattle.certain_hits.specs.Private.Reach.{hit_of}
use Rattle.certain_hits.proofs.certainty.count_before.Given as goal

abbrev pub invariant-loop-hit : goal.invariant-loop-hit
invariant-loop-hit l = (l.count ≡ count_by (λ hit. is_lt (rank_cmp hit (hit_of l.rival))) (take l.hit-index l.hits)) × (l.count ≤ l.hit-index)
