-- Bytes that go to a sink by way of a buffer.
use Rattle.std.specs.Prelude.{ℕ, ◌≡◌, List, ◌++◌, take, Option, Result, MatchResult}
use Rattle.std.specs.Io.KnownBytes.{Appends}
use Rattle.jass_base.specs.Outside.{Rest, HasCause}

-- some bytes went to the sink: these and what is gathered now are what was gathered before and the text; after a failure a prefix of that went
abbrev pub GatherBytes : {T E : Type 0} → Option (List ℕ) → Option (List ℕ) → List ℕ → List ℕ → List ℕ → Result T E → Type 0
GatherBytes old new before after text result = MatchResult result (λ _. (sent : List ℕ) × Appends old new sent × (sent ++ after ≡ before ++ text)) (λ _. (n : ℕ) × Appends old new (take n (before ++ text)))

-- a text was put behind what was gathered before; the count of faults rose where that failed, and nothing else changed
pub record Gathers {S T E : Type 0} (written : S → Option (List ℕ)) (faults : S → ℕ) (rest : S → Rest) (old new : S) (before after text : List ℕ) (result : Result T E) : Type 0 where
  pub bytes : GatherBytes (written old) (written new) before after text result
  pub cause : HasCause (faults old) (faults new) result
  pub rest_stays : rest new ≡ rest old
