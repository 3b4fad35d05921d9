use Rattle.std.proofs.Common.{◌≡◌, ◌++◌, ◌≤◌, take, drop, length}
use Rattle.ranking_model.specs.Scores.{hits_from}
use Rattle.run_audit.proofs.standing.note_hits.Given as goal

abbrev pub invariant-loop-doc : goal.invariant-loop-doc
invariant-loop-doc l = record {
  few : l.count ≤ l.doc;
  room : length l.hits ≡ length l.fn.hits;
  hits : take l.count l.hits ++ hits_from l.doc (drop l.doc l.scores) ≡ hits_from 0 l.scores;
}
