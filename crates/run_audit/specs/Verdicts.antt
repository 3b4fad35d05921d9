-- What is said of a run and of reports, beside those that a search leaves. This project's.
use Rattle.std.specs.Prelude.{ℕ, ◌≡◌, ◌≢◌, ◌+◌, ◌==◌, List, take, slice_get, count_by}
use Rattle.trec_run.specs.declared.run_line.RunLine.{RunLine}
use Rattle.run_audit.specs.declared.verdict.Verdict.{Verdict}
use Rattle.run_audit.specs.declared.verdict.Verdict.TheVariants.{Yes, Report, Run}

-- where two lists part: so many items are equal, and then the items differ, or only one list goes on
pub record PartAt {A : Type 0} (n : ℕ) (first second : List A) : Type 0 where
  pub before : take n first ≡ take n second
  pub there : slice_get first n ≢ slice_get second n

-- how many line feeds a text has
abbrev pub line_feeds : List ℕ → ℕ
line_feeds text = count_by (λ b. b == 10) text

-- the lists part so many items from the front
abbrev pub Parts : {A : Type 0} → List A → List A → (ℕ → Type 0) → Type 0
Parts first second Where = (n : ℕ) × PartAt n first second × Where n

-- beside these rows and this text: yes where the run has the rows and the reports have the text; else the line of the
-- reports in which the texts part, counted from 1; else the first row that differs or is missing, counted from 1
abbrev pub IsVerdict : List RunLine → List ℕ → List RunLine → List ℕ → Verdict → Type 0
IsVerdict rows text run reports Yes = (reports ≡ text) × (run ≡ rows)
IsVerdict rows text run reports (Report line) = Parts text reports (λ n. line ≡ line_feeds (take n text) + 1)
IsVerdict rows text run reports (Run line) = (reports ≡ text) × Parts rows run (λ n. line ≡ n + 1)
