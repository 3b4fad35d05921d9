-- The outside: what it holds where it tells, and why a call on it fails.
use Rattle.std.specs.Prelude.{ℕ, ◌≡◌, ◌<◌, ◌≤◌, ◌+◌, ◌-◌, ◌^◌, min, List, [], ◌++◌, length, take, drop, Option, Some, None, Result, ◌⊎◌, ⊤, OnErr, MatchResult, IsSomeAnd, IfSome, unwrap_or}
use Rattle.std.specs.Option.{option_map}
use Rattle.std.specs.FinMap.{FinMap, get, insert}
use Rattle.std.specs.Cmp.Lexicographic.{slice_cmp}
use Rattle.std.specs.Ordering.{nat_cmp}
use Rattle.std.specs.Io.KnownBytes.{Appends}

-- contents by the bytes of their names
abbrev pub Files : Type 0
Files = FinMap (slice_cmp nat_cmp) (List ℕ)

-- a count of faults rose in a call, or stands at its last value
abbrev pub Rose : ℕ → ℕ → Type 0
Rose before now = min (before + 1) (2 ^ 64 - 1) ≤ now

-- the count never falls, and it rose where the call failed
pub record HasCause {T E : Type 0} (before now : ℕ) (result : Result T E) : Type 0 where
  pub later : before ≤ now
  pub failed : OnErr result (Rose before now)

-- the contents are told, and the name isn't among them
abbrev pub IsMissing : Option Files → List ℕ → Type 0
IsMissing None name = ⊥
IsMissing (Some files) name = get files name ≡ None

-- where the contents are told, the name is among them and its content has P
abbrev pub OnContent : Option Files → List ℕ → (List ℕ → Type 0) → Type 0
OnContent None name P = ⊤
OnContent (Some files) name P = IsSomeAnd (get files name) P

-- where the contents are told and the name is among them, its content has P
abbrev pub ForContent : Option Files → List ℕ → (List ℕ → Type 0) → Type 0
ForContent None name P = ⊤
ForContent (Some files) name P = IfSome (get files name) P

-- the count never falls; the call failed only where it rose or the name is missing
pub record ReadCause {T E : Type 0} (files : Option Files) (name : List ℕ) (before now : ℕ) (result : Result T E) : Type 0 where
  pub later : before ≤ now
  pub failed : OnErr result (Rose before now ⊎ IsMissing files name)

-- the first n bytes of the buffer are those of the content at a place; n is 0 only for an empty buffer or at the end
pub record AreBytesAt (content : List ℕ) (at n : ℕ) (buf : List ℕ) : Type 0 where
  pub bytes : take n buf ≡ take n (drop at content)
  pub within : n ≤ length (drop at content)
  pub end : n ≡ 0 → 0 < length buf → length content ≤ at

-- what a read that succeeds gives, where the contents are told
abbrev pub GivesBytes : {E : Type 0} → Option Files → List ℕ → ℕ → Result ℕ E → List ℕ → Type 0
GivesBytes files name at result buf = MatchResult result (λ n. OnContent files name (λ content. AreBytesAt content at n buf)) (λ _. ⊤)

-- the content of the name, or nothing where it is missing
abbrev pub content_or_empty : Files → List ℕ → List ℕ
content_or_empty files name = unwrap_or (get files name) []

-- where the contents are told, the name has the content afterwards and every other name stays; untold they stay untold
abbrev pub Sets : Option Files → Option Files → List ℕ → List ℕ → Type 0
Sets None new name content = new ≡ None
Sets (Some old) None name content = ⊥
Sets (Some old) (Some new) name content = new ≡ insert old name content

-- the same with the old content followed by bytes
abbrev pub Extends : Option Files → Option Files → List ℕ → List ℕ → Type 0
Extends None new name bytes = new ≡ None
Extends (Some old) None name bytes = ⊥
Extends (Some old) (Some new) name bytes = new ≡ insert old name (content_or_empty old name ++ bytes)

-- the name was made empty; after a failure it is as before or empty
abbrev pub Creates : {T E : Type 0} → Option Files → Option Files → List ℕ → Result T E → Type 0
Creates old new name result = MatchResult result (λ _. Sets old new name []) (λ _. (new ≡ old) ⊎ Sets old new name [])

-- the bytes were put behind the content; after a failure nothing changed, or a prefix of them was put there
abbrev pub Appended : {T E : Type 0} → Option Files → Option Files → List ℕ → List ℕ → Result T E → Type 0
Appended old new name bytes result = MatchResult result (λ _. Extends old new name bytes) (λ _. (new ≡ old) ⊎ ((n : ℕ) × Extends old new name (take n bytes)))

-- the bytes were put; after a failure a prefix of them was
abbrev pub Puts : {T E : Type 0} → Option (List ℕ) → Option (List ℕ) → List ℕ → Result T E → Type 0
Puts old new bytes result = MatchResult result (λ _. Appends old new bytes) (λ _. (n : ℕ) × Appends old new (take n bytes))

-- what no put on a sink changes: the place that it writes to, and the named contents beside that, where they are told
pub record Rest : Type 0 where
  pub place : List ℕ
  pub files : Option Files

-- a text was put on a sink; after a failure a prefix of it was
pub record Wrote {S T E : Type 0} (written : S → Option (List ℕ)) (faults : S → ℕ) (rest : S → Rest) (old new : S) (text : List ℕ) (result : Result T E) : Type 0 where
  pub bytes : Puts (written old) (written new) text result
  pub cause : HasCause (faults old) (faults new) result
  pub rest_stays : rest new ≡ rest old

-- the content of one name, where the contents are told and the name is among them
abbrev pub content_there : Option Files → List ℕ → Option (List ℕ)
content_there None name = None
content_there (Some files) name = get files name

-- the other names, beside this one with nothing in it, where the contents are told
abbrev pub others_told : Option Files → List ℕ → Option Files
others_told files name = option_map (λ (told : Files). insert told name []) files
