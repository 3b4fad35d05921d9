use Rattle.std.proofs.Common.{◌≡◌, ℕ, ◌<◌, true, slice_index}
use Rattle.session_scores.specs.Scores.{scores_of}
use Rattle.sharp_search.specs.Deciding.{limits_of, stays_out}
use Rattle.sharp_search.proofs.deciding.none_enters.Given as goal

abbrev pub invariant-loop-doc : goal.invariant-loop-doc
invariant-loop-doc l = (d : ℕ) → d < l.doc → stays_out (slice_index (limits_of l.masks.masks l.weights)) (scores_of l.scores l.pool) l.last d ≡ true
