use Rattle.std.proofs.Common.{◌≡◌, ◌++◌, drop}
use Rattle.ranking_model.specs.Postings.{weighted_at}
use Rattle.ranking_model.specs.Programs.{AreLight}
use Rattle.ranking_model.proofs.posting.weigh.Given as goal

abbrev pub invariant-loop-entry : goal.invariant-loop-entry
invariant-loop-entry l = record {
  postings : l.postings ++ weighted_at l.term_place l.named (drop l.entry-index l.entries) ≡ l.fn.postings ++ weighted_at l.term_place l.named l.entries;
  light : AreLight l.fn.postings → AreLight l.postings;
}
