use Rattle.std.proofs.Common.{ℕ, ◌≡◌, ◌≤◌, ◌+◌, ◌*◌, length, take, get_or}
use Rattle.segment_plan.specs.Entries.{postings_of}
use Rattle.segment_plan.proofs.tables.sums_of.Given as goal

abbrev pub invariant-loop-i : goal.invariant-loop-i
invariant-loop-i l = (l.sum ≡ postings_of (take l.i l.entries)) × (l.sum ≤ 4294967295 * l.i) × (length l.sums.items ≡ length l.entries + 1) × ((n : ℕ) → n ≤ l.i → get_or l.sums.items n 0 ≡ postings_of (take n l.entries))
