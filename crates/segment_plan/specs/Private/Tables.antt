-- The tables that a plan keeps beside its segments.
use Rattle.std.specs.Prelude.{ℕ, ◌≡◌, ◌≤◌, ◌<◌, ◌+◌, ◌^◌, List, length, take, slice_index}
use Rattle.segment_plan.specs.declared.entry.PlanEntry.{PlanEntry}
use Rattle.segment_plan.specs.Entries.{PlanView, postings_of, rest_bound}

-- the number of postings after each number of segments from a first one on
pub record AreSums (sums : List ℕ) (entries : List PlanEntry) : Type 0 where
  pub one_more : length sums ≡ length entries + 1
  pub each : (n : ℕ) → n ≤ length entries → slice_index sums n ≡ postings_of (take n entries)

-- the bound after each number of segments from a first one on
pub record AreBoundsFrom (first : ℕ) (bounds : List ℕ) (plan : PlanView) : Type 0 where
  pub one_more : length bounds ≡ length plan.entries + 1
  pub each : (n : ℕ) → first ≤ n → n ≤ length plan.entries → slice_index bounds n ≡ rest_bound n plan

pub record HasTables (plan : PlanView) (sums bounds : List ℕ) : Type 0 where
  pub few : length plan.entries < 2 ^ 32
  pub summed : AreSums sums plan.entries
  pub bounded : AreBoundsFrom 0 bounds plan
