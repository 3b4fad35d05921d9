use Rattle.std.proofs.Common.{◌≡◌, map, take}
use Rattle.ranking_model.specs.Scores.{hits_from}
use Rattle.session_scores.specs.Scores.{scores_of}
use Rattle.certain_hits.specs.Private.Foremost.{Holds}
use Rattle.certain_hits.specs.Private.Reach.{hit_of}
use Rattle.certain_hits.specs.Private.Room.{HasRoom}
use Rattle.certain_hits.specs.Rule.{reaches}
use Rattle.certain_hits.proofs.certainty.offer_all.Given as goal

abbrev pub invariant-loop-doc : goal.invariant-loop-doc
invariant-loop-doc g l = Holds l.best.count l.best.floor (map hit_of l.best.kept.items) (hits_from 0 (take l.doc (reaches (g.L.Limits.limits l.limits) (scores_of l.scores l.pool)))) × (l.best.count ≡ l.fn.best.count) × HasRoom l.best
