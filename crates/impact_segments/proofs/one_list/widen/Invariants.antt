use Rattle.std.proofs.Common.{◌≡◌, drop, fold, length, map}
use Rattle.weights.specs.Quantizing.{widened}
use Rattle.impact_segments.specs.Collections.{weight_in, weights_in}
use Rattle.impact_segments.proofs.one_list.widen.Given as goal

abbrev pub invariant-loop-place : goal.invariant-loop-place
invariant-loop-place g l =
    fold widened l.range (map (weight_in l.fn.rule l.fn.lengths l.fn.total (length (g.P.PostingsByPlace.postings l.list))) (drop l.place (g.P.PostingsByPlace.postings l.list)))
    ≡ fold widened l.fn.range (weights_in l.fn.rule l.fn.lengths l.fn.total (g.P.PostingsByPlace.postings l.list))
