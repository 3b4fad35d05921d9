-- When what is unseen can change nothing, and where a search that asks for no more may stop. This project's: by all gains of all
-- documents, never by neighbouring hits.
use Rattle.std.specs.Prelude.{◌≡◌, ◌≢◌, ℕ, ◌<◌, ◌≤◌, List}
use Rattle.jass_base.specs.declared.answer.Grade.{Grade}
use Rattle.jass_base.specs.declared.answer.Report.{Report}
use Rattle.ranking_model.specs.declared.plan.QueryPlan.{QueryPlan}
use Rattle.ranking_model.specs.Plan.{prefix_within}
use Rattle.ranking_model.specs.Scores.{scores_after}
use Rattle.ranking_model.specs.Report.{report_of}
use Rattle.ranking_model.specs.Finality.{AreGainsWithin, raised, first_documents, IsSettledWithin, IsSet, IsGradeOf}
use Rattle.sharp_bounds.specs.Unseen.{unseen_bounds}

-- the answer after the first n segments is sharply final: no gains within what each document is unseen in change its documents or
-- their order
abbrev pub IsSharpFinal : ℕ → QueryPlan → ℕ → Type 0
IsSharpFinal n plan k = IsSettledWithin (scores_after n plan) k (unseen_bounds n plan)

-- gains within these limits that change the first k documents or their order
pub record IsChangedWithin (scores : List ℕ) (k : ℕ) (limits : List ℕ) : Type 0 where
  pub gains : List ℕ
  pub within : AreGainsWithin limits scores gains
  pub differ : first_documents (raised scores gains) k ≢ first_documents scores k

-- where to stop: at the first prefix whose answer is sharply final, and at that of the budget where none before it is
pub record IsStop (budget : ℕ) (plan : QueryPlan) (k n : ℕ) : Type 0 where
  pub within : n ≤ prefix_within budget plan.segments
  pub none_before : (m : ℕ) → m < n → ¬ IsSharpFinal m plan k
  pub final : n < prefix_within budget plan.segments → IsSharpFinal n plan k

-- the grade of such an answer: final where it is sharply final, set where it isn't and the bound keeps its documents, else open
abbrev pub IsSharpGrade : ℕ → QueryPlan → ℕ → Grade → Type 0
IsSharpGrade n plan k grade = IsGradeOf (IsSharpFinal n plan k) (IsSet n plan k) grade

-- its report: the numbers of the prefix with this grade
pub record IsSharpReport (n : ℕ) (plan : QueryPlan) (k : ℕ) (report : Report) : Type 0 where
  pub numbers : report ≡ report_of n plan report.grade
  pub graded : IsSharpGrade n plan k report.grade
