-- A report by its fields.
use Rattle.shared_lemmas.proofs.Common.{◌≡◌, ℕ, List, length, ◌∙◌, Option}
use Rattle.session_engine.proofs.Below.{Grade, Hit, Report, QueryPlan, cutoff_after, next_after, size_of_first, bound_after, first_ranked, least_untouched, runner_up, scores_after, grade_by, report_by}

pub reported : (n : ℕ) (plan : QueryPlan) (k postings of cutoff next bound : ℕ) (grade : Grade) (hits : List Hit) (up : Option Hit) (untouched : Option ℕ)
    → postings ≡ size_of_first n plan.segments → of ≡ length plan.segments → cutoff ≡ cutoff_after n plan.segments → next ≡ next_after n plan.segments → bound ≡ bound_after n plan
    → grade ≡ grade_by k bound (record { hits = hits; runner_up = up; least_untouched = untouched })
    → hits ≡ first_ranked (scores_after n plan) k → up ≡ runner_up (scores_after n plan) k → untouched ≡ least_untouched (scores_after n plan)
    → (let r : Report = record { postings = postings; segments = n; of = of; cutoff = cutoff; next = next; bound = bound; grade = grade } in r) ≡ report_by n plan k
reported n plan k postings of cutoff next bound grade hits up untouched p o c x b g h u l =
    let graded = g ∙ (λ i. grade_by k (b i) (record { hits = h i; runner_up = u i; least_untouched = l i })) in
    (λ i. record { postings = p i; segments = n; of = o i; cutoff = c i; next = x i; bound = b i; grade = graded i })
