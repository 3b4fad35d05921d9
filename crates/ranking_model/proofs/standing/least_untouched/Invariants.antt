use Rattle.shared_lemmas.proofs.Common.{◌≡◌, ℕ, ◌<◌, false, get_or, ◌==◌}
use Rattle.ranking_model.proofs.standing.least_untouched.Given as goal

abbrev pub invariant-loop-doc : goal.invariant-loop-doc
invariant-loop-doc l = (k : ℕ) → k < l.doc → (get_or l.scores k 0 == 0) ≡ false
