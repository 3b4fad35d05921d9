-- A report keeps what it promises: its numbers are the plan's, and its grade is for all gains up to the bound.
use Rattle.shared_lemmas.proofs.Common.{◌≡◌, ℕ, ◌≤◌, List, take, drop, sym, ap, subst, ◌∙◌, IsPermutation, AllByRecursion, nat_cmp, IsPermutation-refl}
use Rattle.jass_base.specs.declared.answer.Report.{Report}
use Rattle.jass_base.specs.declared.query_term.QueryTerm.{QueryTerm}
use Rattle.ranking_model.specs.declared.entry.Entry.{Entry}
use Rattle.ranking_model.specs.declared.plan_segment.PlanSegment.{PlanSegment}
use Rattle.ranking_model.specs.Flat.{IsFlat}
use Rattle.ranking_model.specs.Postings.{weighted_postings}
use Rattle.ranking_model.specs.Plan.{plan_of}
use Rattle.ranking_model.specs.Scores.{scores_after, bound_after}
use Rattle.ranking_model.specs.Finality.{first_documents, GainsUpTo, IsSettled, IsKept, IsGrade}
use Rattle.ranking_model.specs.Report.{IsReport}
use Rattle.ranking_model.specs.Promises.{IsPromised}
use Rattle.ranking_model.proofs.Parting.{scored, unscored, parted, heaviest}
use Rattle.ranking_model.proofs.Rest.{later_scores}

pub settled_later : (scores later : List ℕ) (k bound : ℕ) → GainsUpTo bound scores later → IsSettled scores k bound → first_documents later k ≡ first_documents scores k
settled_later scores later k bound g settled = ap (λ s. first_documents s k) (sym g.reach) ∙ settled g.gains g.within

pub kept_later : (scores later : List ℕ) (k bound : ℕ) → GainsUpTo bound scores later → IsKept scores k bound → IsPermutation (first_documents scores k) (first_documents later k)
kept_later scores later k bound g kept = subst (λ s. IsPermutation (first_documents scores k) (first_documents s k)) g.reach (kept g.gains g.within)

pub settled_is_kept : (scores : List ℕ) (k bound : ℕ) → IsSettled scores k bound → IsKept scores k bound
settled_is_kept scores k bound settled gains are = subst (IsPermutation (first_documents scores k)) (sym (settled gains are)) (IsPermutation-refl (first_documents scores k))

pub promised : (docs n k : ℕ) (flat : List (Entry ℕ)) (terms : List QueryTerm) (report : Report) → IsFlat nat_cmp docs flat
    → IsReport n (plan_of docs flat terms) k report → IsPromised (weighted_postings flat terms) n (plan_of docs flat terms) k report
unfolding plan_of
promised docs n k flat terms report is_flat is = record {
  scored = subst (λ cutoff. AllByRecursion (λ (segment : PlanSegment). cutoff ≤ segment.weight) (take n (plan_of docs flat terms).segments)) (sym (ap (λ (r : Report). r.cutoff) is.numbers)) (scored (weighted_postings flat terms) n);
  unscored = subst (λ next. AllByRecursion (λ (segment : PlanSegment). segment.weight ≤ next) (drop n (plan_of docs flat terms).segments)) (sym (ap (λ (r : Report). r.next) is.numbers)) (unscored (weighted_postings flat terms) n);
  parted = λ some. subst (λ (r : Report). r.next ≤ r.cutoff) (sym is.numbers) (parted (weighted_postings flat terms) n (subst (λ segments. 1 ≤ segments) (ap (λ (r : Report). r.segments) is.numbers) some));
  heaviest = λ choice size. heaviest n (weighted_postings flat terms) choice (size ∙ ap (λ (r : Report). r.postings) is.numbers);
  final_stands = λ final m more. settled_later _ _ k _ (later_scores docs n m terms flat is_flat more) (subst (IsGrade (scores_after n (plan_of docs flat terms)) k (bound_after n (plan_of docs flat terms))) final is.graded);
  set_stands = λ set m more. kept_later _ _ k _ (later_scores docs n m terms flat is_flat more) (subst (IsGrade (scores_after n (plan_of docs flat terms)) k (bound_after n (plan_of docs flat terms))) set is.graded).0;
}
