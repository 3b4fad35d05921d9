-- One of two outputs whose calls share a result.
use Rattle.std.specs.Prelude.{ℕ, ◌≡◌, ◌≤◌, List, Option, Result, IfErr}
use Rattle.jass_base.specs.Outside.{Rest, Rose, Puts}
use Rattle.gathered_text.specs.Gathering.{GatherBytes}

-- a text was gathered on this output; after a failure a prefix went, and where the failure is this output's own its
-- count of faults rose
pub record Side {S T E : Type 0} (written : S → Option (List ℕ)) (faults : S → ℕ) (rest : S → Rest)
    (mine : E) (old new : S) (before after text : List ℕ) (result : Result T E) : Type 0 where
  pub bytes : GatherBytes (written old) (written new) before after text result
  pub later : faults old ≤ faults new
  pub failed : IfErr result (λ e. e ≡ mine → Rose (faults old) (faults new))
  pub rest_stays : rest new ≡ rest old

-- the same once nothing is left in a buffer
pub record WroteSide {S T E : Type 0} (written : S → Option (List ℕ)) (faults : S → ℕ) (rest : S → Rest)
    (mine : E) (old new : S) (text : List ℕ) (result : Result T E) : Type 0 where
  pub bytes : Puts (written old) (written new) text result
  pub later : faults old ≤ faults new
  pub failed : IfErr result (λ e. e ≡ mine → Rose (faults old) (faults new))
  pub rest_stays : rest new ≡ rest old
