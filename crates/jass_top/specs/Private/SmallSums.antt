-- What keeps the sums of a trial within their types.
use Rattle.std.specs.Prelude.{ℕ, ◌*◌, ◌^◌, ◌≤◌}
use Rattle.jass_top.specs.declared.trial_sums.BudgetSum.{BudgetSum}
use Rattle.jass_top.specs.declared.trial_sums.TrialSums.{TrialSums}

-- sums over at most so many queries, of whose postings there are fewer than 2^32, and of whose hits ten with scores below it
abbrev pub IsSmallSum : ℕ → BudgetSum → Type 0
IsSmallSum n sum = (sum.postings ≤ n * 2 ^ 32) × (sum.finals ≤ n) × (sum.scores ≤ n * (10 * 2 ^ 32))

abbrev pub AreSmallSums : ℕ → TrialSums → Type 0
AreSmallSums n sums = IsSmallSum n sums.first × IsSmallSum n sums.second × IsSmallSum n sums.last
