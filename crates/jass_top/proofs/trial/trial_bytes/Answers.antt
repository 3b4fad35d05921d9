use Rattle.shared_lemmas.proofs.Common.{◌≡◌, [], ◌∷◌, refl, ap, subst, inl, inr, arith, codes}
use Rattle.jass_top.proofs.Below.{IndexData, index_data, Totals}
use Rattle.jass_top.specs.IndexJudging.{fitting}
use Rattle.jass_top.specs.Judging.{Accepted, Refuses}
use Rattle.jass_top.specs.TrialMeaning.{countable, judge_trial}
use Rattle.jass_top.specs.declared.stop.Place.TheVariants.{Byte}
use Rattle.jass_top.specs.Private.Causes.{Unheld}
use Rattle.jass_top.proofs.Behind.{unheld_first}
use Rattle.jass_top.proofs.Trying.{accepted, too_many}
use Rattle.jass_top.proofs.trial.trial_bytes.Goals as goal

pub returns-in-Err-text_in_memory-clause-unmade : goal.returns-in-Err-text_in_memory-clause-unmade
returns-in-Err-text_in_memory-clause-unmade c =
    subst (λ (made : IndexData). Unheld (codes "trial" ∷ []) (judge_trial made) c.in-Err-text_in_memory.stop) c.in-Ok.ensures.index
    (unheld_first (codes "trial" ∷ []) (fitting (codes "trial") (index_data c.in-Ok.made.0)) (countable (codes "trial")) c.in-Err-text_in_memory.stop c.in-Err-text_in_memory.ensures.unmade)

pub returns-then-totals-gt-MOST_POSTINGS-clause-unmade : goal.returns-then-totals-gt-MOST_POSTINGS-clause-unmade
returns-then-totals-gt-MOST_POSTINGS-clause-unmade c =
    let count = ap (λ (t : Totals). t.postings) c.totals.ensures in
    let large = c.if-totals-gt-MOST_POSTINGS.true in (
      inl refl,
      inr (subst (λ (made : IndexData). judge_trial made ≡ Refuses (codes "trial") 48 (Byte 24)) c.in-Ok.ensures.index (too_many (index_data c.in-Ok.made.0) c.in-Ok-text_in_memory.ensures.fits (omega arith))),
    )

pub returns-clause-accepted : goal.returns-clause-accepted
returns-clause-accepted c =
    let count = ap (λ (t : Totals). t.postings) c.totals.ensures in
    let small = c.if-totals-gt-MOST_POSTINGS.false in
    subst (λ (made : IndexData). judge_trial made ≡ Accepted made) c.in-Ok.ensures.index (accepted (index_data c.in-Ok.made.0) c.in-Ok-text_in_memory.ensures.fits (omega arith))
