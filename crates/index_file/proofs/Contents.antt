-- A file whose front is read: a longer one is refused whatever it holds.
use Rattle.shared_lemmas.proofs.Common.{◌≡◌, ◌<◌, ◌^◌, ℕ, List, length, take, true, nat_lt, Option, Some, None, Result, Ok, Err, ap, sym, ◌∙◌, refl, arith, inl, inr, IsSomeAnd, get, cases_lt, take_all, length-take-le}
use Rattle.index_file.proofs.Below.{Files, OnContent, OpenFault, OpenRefusal, Limit, Answers, FileView}
use Rattle.index_layout.specs.declared.refusal.OpenFault.TheVariants as faults
use Rattle.index_layout.specs.Reading.{front_checks, read_front, read_index}
use Rattle.std.specs.Prelude.{⊤}
use Rattle.index_file.specs.Answers.{IsThere, Stops}
use Rattle.index_file.specs.Contents.{IsContent}
use Rattle.index_file.specs.declared.front.Front.{Front}
use Rattle.index_file.proofs.Reading.{front_not}
use Rattle.index_file.specs.Opening.{Opens}

abbrev too_long : Result FileView OpenRefusal
too_long = Err (record { at = 2 ^ 32; why = Limit })

long_refused : (bytes : List ℕ) → 2 ^ 32 < length bytes → read_index bytes ≡ too_long
unfolding read_index read_front front_checks
long_refused bytes long = let over : nat_lt (2 ^ 32) (length bytes) ≡ true = grind (arith) in rw over refl

-- the front of so many bytes is read as the whole
pub front_tells : (content : List ℕ) → read_index (take 4294967297 content) ≡ read_index content
front_tells content = elim (cases_lt (2 ^ 32) (length content)) [
  | inl l ↦ (let e = length-take-le 4294967297 content (omega (arith, l)) in long_refused (take 4294967297 content) (omega (arith, e)) ∙ sym (long_refused content l))
  | inr g ↦ ap read_index (take_all 4294967297 content (omega (arith, g)))
]

-- where the content of a name has P, it has Q, if each content with P that may be told has Q
pub on_each : (files : Option Files) (name : List ℕ) (P Q : List ℕ → Type 0) → ((content : List ℕ) → IsContent files name content → P content → Q content) → OnContent files name P → OnContent files name Q
on_each None name P Q each there = tt
on_each (Some files) name P Q each there = at (get files name) refl there
  where
    at : (o : Option (List ℕ)) → get files name ≡ o → IsSomeAnd o P → IsSomeAnd o Q
    at None is there = there
    at (Some content) is there = each content is there

pub opens_front : (files : Option Files) (name row : List ℕ) (result : Result FileView OpenFault) → OnContent files name (λ content. row ≡ take 4294967297 content) → Answers (λ file. file) result (read_index row) → Opens files name result
opens_front files name row (Ok file) there read =
    on_each files name (λ content. row ≡ take 4294967297 content) (λ content. read_index content ≡ Ok file)
    (λ content told is. sym (front_tells content) ∙ ap read_index (sym is) ∙ read) there
opens_front files name row (Err (faults.Refused refusal)) there read =
    on_each files name (λ content. row ≡ take 4294967297 content) (λ content. read_index content ≡ Err refusal)
    (λ content told is. sym (front_tells content) ∙ ap read_index (sym is) ∙ read) there
opens_front files name row (Err faults.ReadFault) there read = tt
opens_front files name row (Err faults.NoMemory) there read = tt

-- a front that is refused
pub opens_refused : (files : Option Files) (name : List ℕ) (fault : OpenFault) → (let first : Result Front OpenFault = Err fault in IsThere files name first)
    → ((content : List ℕ) → IsContent files name content → Stops fault (read_front content)) → (let result : Result FileView OpenFault = Err fault in Opens files name result)
opens_refused files name (faults.Refused refusal) there stops =
    on_each files name (λ content. ⊤) (λ content. read_index content ≡ Err refusal) (λ content is any. front_not content (faults.Refused refusal) (stops content is)) there
opens_refused files name faults.ReadFault there stops = tt
opens_refused files name faults.NoMemory there stops = tt
