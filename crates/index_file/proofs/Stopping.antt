-- A fault that stops the check.
use Rattle.shared_lemmas.proofs.Common.{◌≡◌, Result, ap, ◌∙◌}
use Rattle.index_layout.specs.declared.refusal.OpenFault.{OpenFault}
use Rattle.index_layout.specs.declared.refusal.OpenFault.TheVariants as faults
use Rattle.index_layout.specs.declared.refusal.OpenRefusal.{OpenRefusal}
use Rattle.index_layout.specs.Refusals.{◌>>=◌}
use Rattle.index_file.specs.Answers.{Stops}

-- a step that stops makes the whole stop
pub stops_on : {A B : Type 0} (fault : OpenFault) (read : Result A OpenRefusal) (f : A → Result B OpenRefusal) → Stops fault read → Stops fault (read >>= f)
stops_on (faults.Refused refusal) read f is = ap (λ r. r >>= f) is
stops_on faults.ReadFault read f is = tt
stops_on faults.NoMemory read f is = tt

pub stops_as : {A : Type 0} (fault : OpenFault) (x y : Result A OpenRefusal) → x ≡ y → Stops fault y → Stops fault x
stops_as (faults.Refused refusal) x y same is = same ∙ is
stops_as faults.ReadFault x y same is = tt
stops_as faults.NoMemory x y same is = tt
