use Rattle.std.proofs.Common.{◌≡◌, ◌++◌, drop}
use Rattle.ranking_model.specs.Scores.{hits_from}
use Rattle.ranking_model.proofs.rank.hits_of.Given as goal

abbrev pub invariant-loop-doc : goal.invariant-loop-doc
invariant-loop-doc l = l.hits ++ hits_from l.doc (drop l.doc l.scores) ≡ hits_from 0 l.scores
