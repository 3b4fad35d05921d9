-- How an input that was read is judged.
use Rattle.std.specs.Prelude.{◌≡◌, ◌⊎◌}
use Rattle.jass_top.specs.Judging.{Judged, Accepted, Untold, Shows}

-- a value of which P holds is accepted, where that is told
abbrev pub AcceptsSuch : {A : Type 0} → Judged A → (A → Type 0) → Type 0
AcceptsSuch {A} judged P = (judged ≡ Untold) ⊎ ((x : A) × (judged ≡ Accepted x) × P x)

-- P holds of a value, and this is accepted, where that is told
pub record HasInput {A : Type 0} (judged : Judged A) (P : A → Type 0) : Type 0 where
  pub input : A
  pub accepted : Shows judged (Accepted input)
  pub holds : P input
