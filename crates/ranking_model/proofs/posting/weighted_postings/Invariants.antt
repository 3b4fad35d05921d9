use Rattle.std.proofs.Common.{◌≡◌, ◌++◌, drop}
use Rattle.ranking_model.specs.Postings.{weighted_from, weighted_postings}
use Rattle.ranking_model.specs.Programs.{AreLight}
use Rattle.ranking_model.proofs.posting.weighted_postings.Given as goal

abbrev pub invariant-loop-term_place : goal.invariant-loop-term_place
invariant-loop-term_place l = record {
  postings : l.postings ++ weighted_from l.term_place (drop l.term_place l.terms) l.entries ≡ weighted_postings l.entries l.terms;
  light : AreLight l.postings;
}
