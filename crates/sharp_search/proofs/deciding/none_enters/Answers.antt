use Rattle.shared_lemmas.proofs.Common.{◌≡◌, ◌∙◌, ℕ, true, sym, subst, arith, inl, inr, cases_eq, slice_index}
use Rattle.session_scores.specs.Scores.{scores_of}
use Rattle.sharp_search.specs.Deciding.{limits_of, stays_out}
use Rattle.sharp_search.proofs.deciding.none_enters.Goals as goal

pub loop-doc-preserved : goal.loop-doc-preserved
loop-doc-preserved c = λ d below. elim (cases_eq d c.loop-doc.doc) [
  | inl e ↦ subst (λ n. stays_out (slice_index (limits_of c.args.masks.now.masks c.args.weights.now)) (scores_of c.args.scores.now c.args.pool.now) c.args.last n ≡ true) (sym e) (sym c.stays_out.ensures ∙ c.if-not-stays_out.false)
  | inr apart ↦ c.loop-doc.invariant d (omega (arith, below, apart))
]
