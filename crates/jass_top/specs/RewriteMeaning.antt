-- What `rewrite` means: the canonical spelling of a CIFF file in another file.
use Rattle.std.specs.Prelude.{◌≡◌, List, ℕ, [], ◌∷◌, Some, false}
use Rattle.jass_base.specs.Ciff.{CollectionData}
use Rattle.jass_base.specs.CiffText.{canonical_ciff}
use Rattle.jass_top.specs.Judging.{judge_ciff}
use Rattle.jass_top.specs.Meanings.{Output, Meaning, reading_meaning}
use Rattle.jass_top.specs.Standing.{FilePart}

abbrev pub rewritten : CollectionData → Output
rewritten collection = record { content = canonical_ciff collection; text = []; steps = 0 }

abbrev pub rewrite_meaning : List ℕ → List ℕ → Meaning
rewrite_meaning from to =
    record (reading_meaning (from ∷ []) (judge_ciff from) (λ collection output. output ≡ rewritten collection)
    (λ collection. FilePart to (rewritten collection))) { file = Some to; prints = false }
