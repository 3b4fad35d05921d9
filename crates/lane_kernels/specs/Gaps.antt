-- Gaps between rising numbers, as postings lists keep them.
use Rattle.std.specs.Prelude.{ℕ, ◌+◌, List, [], ◌∷◌}

-- the rising numbers with these gaps: each is its gap above the least number it may be,
-- which is `before` at first and then one above the number before it
abbrev pub running : ℕ → List ℕ → List ℕ
running before [] = []
running before (gap ∷ gaps) = (before + gap) ∷ running (before + gap + 1) gaps
