-- What is said of an answer, and the texts. Run lines are TREC's six columns; the report line is this project's.
use Rattle.std.specs.Prelude.{◌≡◌, ℕ, ◌+◌, List, [], ◌∷◌, ◌++◌, length, decimal, codes, ◌==◌, if◌then◌else◌}
use Rattle.std.specs.List.{slice_index_or}
use Rattle.jass_base.specs.declared.answer.Hit.{Hit}
use Rattle.jass_base.specs.declared.answer.Report.{Report}
use Rattle.jass_base.specs.declared.answer.Grade.{Grade}
use Rattle.jass_base.specs.declared.answer.Grade.TheVariants.{Final, Set, Open}
use Rattle.ranking_model.specs.declared.plan.QueryPlan.{QueryPlan}
use Rattle.ranking_model.specs.Plan.{size_of_first, cutoff_after, next_after}
use Rattle.ranking_model.specs.Scores.{scores_after, bound_after}
use Rattle.ranking_model.specs.Finality.{IsGrade}

-- the report after the first n segments, with the grade that it is given
abbrev pub report_of : ℕ → QueryPlan → Grade → Report
report_of n plan grade = record { postings = size_of_first n plan.segments; segments = n; of = length plan.segments; cutoff = cutoff_after n plan.segments; next = next_after n plan.segments; bound = bound_after n plan; grade = grade }

-- the report of the first k after the first n segments
pub record IsReport (n : ℕ) (plan : QueryPlan) (k : ℕ) (report : Report) : Type 0 where
  pub numbers : report ≡ report_of n plan report.grade
  pub graded : IsGrade (scores_after n plan) k (bound_after n plan) report.grade

abbrev pub grade_word : Grade → List ℕ
grade_word Final = codes "final"
grade_word Set = codes "set"
grade_word Open = codes "open"

-- `ID postings P segments S of O cutoff C next X bound B unknown U GRADE`
abbrev pub report_line : List ℕ → Report → ℕ → List ℕ
report_line id report unknown = id ++ (codes " postings " ++ (decimal report.postings ++ (codes " segments " ++ (decimal report.segments ++ (codes " of " ++ (decimal report.of ++ (codes " cutoff " ++ (decimal report.cutoff
    ++ (codes " next " ++ (decimal report.next ++ (codes " bound " ++ (decimal report.bound ++ (codes " unknown " ++ (decimal unknown ++ (codes " " ++ (grade_word report.grade ++ codes "\n"))))))))))))))))

-- `ID Q0 NAME RANK SCORE TAG`
abbrev pub run_line : List ℕ → List ℕ → List ℕ → ℕ → ℕ → List ℕ
run_line id name tag rank score = id ++ (codes " Q0 " ++ (name ++ (codes " " ++ (decimal rank ++ (codes " " ++ (decimal score ++ (codes " " ++ (tag ++ codes "\n"))))))))

-- the tag of a part of a run: the tag alone for part 0, else with a point and the part's number
abbrev pub tag_of : List ℕ → ℕ → List ℕ
tag_of tag part = if part == 0 then tag else tag ++ (codes "." ++ decimal part)

-- the lines of an answer; the first of the hits has this rank
abbrev pub run_lines : List (List ℕ) → List ℕ → List ℕ → ℕ → List Hit → List ℕ
run_lines names id tag rank [] = []
run_lines names id tag rank (hit ∷ hits) = run_line id (slice_index_or names hit.doc []) tag rank hit.score ++ run_lines names id tag (rank + 1) hits
