use Rattle.std.proofs.Common.{◌≡◌, ◌++◌, ◌+◌, ◌-◌, ◌≤◌, ℕ, List, length}
use Rattle.index_file.specs.Giving.{Gives}
use Rattle.index_file.specs.Places.{segment_at}
use Rattle.run_audit.proofs.reading.read_docs.Given as goal

abbrev pub invariant-blocks-2 : goal.invariant-blocks-2
invariant-blocks-2 g l = (rest : List ℕ) × Gives l.index l.cursor rest
    × (l.docs ++ rest ≡ (segment_at l.index.index.terms l.t l.s).docs)
    × (l.steps + length rest ≡ l.fn.steps + length (segment_at l.index.index.terms l.t l.s).docs)
    × (l.fn.steps ≤ l.steps)

abbrev pub decreases-blocks-2 : goal.decreases-blocks-2
decreases-blocks-2 g l = l.fn.steps + length (segment_at l.index.index.terms l.t l.s).docs - l.steps
