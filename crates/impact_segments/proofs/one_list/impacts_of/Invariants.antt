use Rattle.std.proofs.Common.{◌≡◌, ◌≤◌, ◌++◌, drop, length, map, take, All}
use Rattle.impact_segments.proofs.Below.{Posting, impact_of}
use Rattle.impact_segments.specs.Collections.{weight_in, weights_in}
use Rattle.impact_segments.specs.OneList.{outside, pairs_in}
use Rattle.impact_segments.specs.Pairs.{with_impact}
use Rattle.impact_segments.specs.declared.doc_impact.DocImpact.{DocImpact}
use Rattle.impact_segments.proofs.one_list.impacts_of.Given as goal

abbrev pub invariant-loop-place : goal.invariant-loop-place
invariant-loop-place g l = record {
  pairs : take l.place l.pairs ++ map (λ (p : Posting). with_impact (impact_of l.bits l.range (weight_in l.fn.rule l.fn.lengths l.fn.total (length (g.P.PostingsByPlace.postings l.list)) p)) p.doc)
      (drop l.place (g.P.PostingsByPlace.postings l.list))
      ≡ pairs_in l.fn.rule l.fn.lengths l.fn.total l.bits l.range (g.P.PostingsByPlace.postings l.list);
  positive : All (λ (p : DocImpact). 1 ≤ p.impact) (take l.place l.pairs);
  greatest : All (λ (p : DocImpact). p.impact ≤ l.greatest) (take l.place l.pairs);
  judged : outside l.bits l.range (map (weight_in l.fn.rule l.fn.lengths l.fn.total (length (g.P.PostingsByPlace.postings l.list))) (drop l.place (g.P.PostingsByPlace.postings l.list)))
      ≡ outside l.bits l.range (weights_in l.fn.rule l.fn.lengths l.fn.total (g.P.PostingsByPlace.postings l.list));
  count : length l.pairs ≡ length (g.P.PostingsByPlace.postings l.list);
}
