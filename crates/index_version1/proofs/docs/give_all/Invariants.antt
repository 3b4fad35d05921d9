use Rattle.std.proofs.Common.{ℕ, ◌≡◌, ◌-◌, ◌^◌, ◌++◌, List, length}
use Rattle.segment_codecs.specs.Giving.{Gives}
use Rattle.index_version1.proofs.docs.give_all.Given as goal

abbrev pub invariant-pieces : goal.invariant-pieces
invariant-pieces l = (docs : List ℕ) → Gives l.fn.from l.payload docs → (rest : List ℕ) × Gives l.cursor l.payload rest × (l.docs ++ rest ≡ docs)

abbrev pub decreases-pieces : goal.decreases-pieces
decreases-pieces l = 2 ^ 64 - length l.docs
