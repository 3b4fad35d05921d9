-- A file that is made and written while another output may fail.
use Rattle.std.specs.Prelude.{ℕ, ◌≡◌, ◌≤◌, List, Option, Some, Result, MatchResult, IfErr}
use Rattle.jass_base.specs.Outside.{Files, Rose, Sets, Puts, content_there, others_told}
use Rattle.jass_top.specs.Standing.{LeavesFront}

-- a file was made the text; after a failure it is as before or holds a prefix, and where the failure is its own the count of
-- write faults rose
pub record WroteFile {S T E : Type 0} (told : S → Option Files) (faults : S → ℕ)
    (mine : E) (old new : S) (name text : List ℕ) (result : Result T E) : Type 0 where
  pub content : MatchResult result (λ _. Sets (told old) (told new) name text)
      (λ _. LeavesFront (Some name) (told old) (told new) text)
  pub later : faults old ≤ faults new
  pub failed : IfErr result (λ e. e ≡ mine → Rose (faults old) (faults new))

-- a text was put behind the content of a file that is there
pub record WroteBehind {S T E : Type 0} (told : S → Option Files) (faults : S → ℕ)
    (mine : E) (old new : S) (name text : List ℕ) (result : Result T E) : Type 0 where
  pub put : Puts (content_there (told old) name) (content_there (told new) name) text result
  pub others : others_told (told new) name ≡ others_told (told old) name
  pub later : faults old ≤ faults new
  pub failed : IfErr result (λ e. e ≡ mine → Rose (faults old) (faults new))
