-- What a report promises of the answer beside it. Parting by weight and the heaviest prefix are those of anytime ranking (Lin
-- and Trotman, ICTIR 2015); the statements, and what a grade stands for, are this project's.
use Rattle.std.specs.Prelude.{◌≡◌, ℕ, ◌≤◌, Bool, List, length, take, drop, sum_by, IsPermutation}
use Rattle.std.specs.List.{AllByRecursion, items_where_true}
use Rattle.jass_base.specs.declared.answer.Grade.TheVariants.{Final, Set}
use Rattle.jass_base.specs.declared.answer.Report.{Report}
use Rattle.ranking_model.specs.declared.posting.WeightedPosting.{WeightedPosting}
use Rattle.ranking_model.specs.declared.plan.QueryPlan.{QueryPlan}
use Rattle.ranking_model.specs.Scores.{scores_after}
use Rattle.ranking_model.specs.Finality.{first_documents}
use Rattle.ranking_model.specs.Heaviest.{weight_of_first}

-- of a query with these postings and this plan, after the first n segments: the cutoff parts the scored weights from the
-- unscored ones, no equally many postings weigh more than the scored ones, and where the grade is final (set) the first k
-- documents are the same in the same order (in some order) after all later segments
pub record IsPromised (postings : List WeightedPosting) (n : ℕ) (plan : QueryPlan) (k : ℕ) (report : Report) : Type 0 where
  pub scored : AllByRecursion (λ segment. report.cutoff ≤ segment.weight) (take n plan.segments)
  pub unscored : AllByRecursion (λ segment. segment.weight ≤ report.next) (drop n plan.segments)
  pub parted : 1 ≤ report.segments → report.next ≤ report.cutoff
  pub heaviest : (choice : List Bool) → length (items_where_true choice postings) ≡ report.postings → sum_by (λ p. p.weight) (items_where_true choice postings) ≤ weight_of_first n plan.segments
  pub final_stands : report.grade ≡ Final → (m : ℕ) → n ≤ m → first_documents (scores_after m plan) k ≡ first_documents (scores_after n plan) k
  pub set_stands : report.grade ≡ Set → (m : ℕ) → n ≤ m → IsPermutation (first_documents (scores_after n plan) k) (first_documents (scores_after m plan) k)
