-- Why a command stops.
use Rattle.std.specs.Prelude.{◌≡◌, ℕ, List, [], ◌∷◌, Some, ◌⊎◌, IsTrue, codes}
use Rattle.jass_base.specs.Outside.{Rose}
use Rattle.jass_top.specs.Judging.{Judged, Missing}
use Rattle.jass_top.specs.Meanings.{Meaning}
use Rattle.jass_top.specs.Worlds.{Outer}

-- the name is one of these
abbrev pub IsOneOf : List (List ℕ) → List ℕ → Type 0
IsOneOf [] name = ⊥
IsOneOf (first ∷ rest) name = (name ≡ first) ⊎ IsOneOf rest name

-- a fault was counted of the output of a command that prints, or of the file that the command writes, which is so named
abbrev pub WriteFailed : Meaning → Outer → Outer → List ℕ → Type 0
WriteFailed m before after name =
    (IsTrue m.prints × (name ≡ codes "output") × Rose before.out_faults after.out_faults)
    ⊎ ((m.file ≡ Some name) × Rose before.write_faults after.write_faults)

-- a read fault was counted, or the first input that isn't accepted is missing and has this name
abbrev pub ReadFailed : {A : Type 0} → Judged A → ℕ → ℕ → List ℕ → Type 0
ReadFailed judged before after name = Rose before after ⊎ (judged ≡ Missing name)
