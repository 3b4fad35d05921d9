-- How far a list agrees with one that is known piece by piece.
use Rattle.std.specs.Prelude.{ℕ, ◌≡◌, ◌<◌, ◌≤◌, Bool, true, false, List, ◌++◌, length, take}
use Rattle.run_audit.specs.declared.given.Given.{Given}
use Rattle.run_audit.specs.declared.given.Places.{Places}
use Rattle.run_audit.specs.declared.place.Place.{Place}
use Rattle.run_audit.specs.Verdicts.{PartAt}

-- what is known so far is the front of the given list up to the place; or they part at the place
abbrev pub AgreesAs : {A : Type 0} → List A → List A → ℕ → Bool → Type 0
AgreesAs known given at true = (at ≤ length given) × (known ≡ take at given)
AgreesAs known given at false = (at < length known) × PartAt at known given

abbrev pub Agrees : {A : Type 0} → List A → List A → Place → Type 0
Agrees known given place = AgreesAs known given place.at place.same

-- what a piece more makes of a place
abbrev pub Advances : {A : Type 0} → List A → Place → Place → List A → Type 0
Advances given old new piece = (known : List _) → Agrees known given old → Agrees (known ++ piece) given new

-- a part of the whole has advanced a place, and this part is left
abbrev pub AdvancesTo : {A : Type 0} → List A → Place → Place → List A → List A → Type 0
AdvancesTo given old new whole left = (done : List _) × Advances given old new done × (done ++ left ≡ whole)

-- both places are within what is checked
pub record AreWithin (given : Given) (places : Places) : Type 0 where
  pub run : places.run.at ≤ length given.run.now
  pub reports : places.reports.at ≤ length given.reports.now
