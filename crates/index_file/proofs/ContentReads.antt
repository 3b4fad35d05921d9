-- What calls that read a content by its name give together.
use Rattle.shared_lemmas.proofs.Common.{◌≡◌, ◌≤◌, ◌⊎◌, inl, inr, ℕ, List, [], length, take, drop, Option, Some, None, IfSome, Result, Ok, Err, ap, sym, ◌∙◌, subst, arith, refl, length-take-le, take-take}
use Rattle.std.specs.Prelude.{⊤}
use Rattle.whole_files.specs.Windows.{AreFrom}
use Rattle.whole_files.proofs.Windows.{none_from}
use Rattle.jass_base.specs.Outside.{Files, ForContent, IsMissing, OnContent, Rose}
use Rattle.index_layout.specs.declared.refusal.OpenFault.{OpenFault}
use Rattle.index_layout.specs.declared.refusal.OpenFault.TheVariants as faults
use Rattle.index_layout.specs.declared.refusal.OpenRefusal.{OpenRefusal}
use Rattle.index_file.specs.Contents.{IsContent, Outside, Reads}
use Rattle.index_file.specs.Answers.{IsNotRefused, IsThere, Stops}

-- what holds of the content where it is told holds of this one
pub given : (files : Option Files) (name content : List ℕ) (P : List ℕ → Type 0) → ForContent files name P → IsContent files name content → P content
given None name content P p is = absurd is
given (Some files) name content P p is = subst (λ (o : Option (List ℕ)). IfSome o P) is p

-- nothing is a part of each content
pub nothing_from : (content bytes : List ℕ) (start : ℕ) → bytes ≡ [] → AreFrom content start bytes
nothing_from content bytes start is = subst (AreFrom content start) (sym is) (none_from content start)

-- the first bytes of a part are a part from the same place on
pub first_from : (content bytes : List ℕ) (start count : ℕ) → AreFrom content start bytes → count ≤ length bytes → AreFrom content start (take count bytes)
first_from content bytes start count is inside =
    let size = length-take-le count bytes inside in
    record {
      front = ap (take count) is.front ∙ take-take count (length bytes) (drop start content) inside ∙ ap (λ n. take n (drop start content)) (sym size);
      within = (let e = is.within in omega (arith, size, inside, e));
    }

-- the content carries over a call that changes nothing told
pub content_same : (told then : Option Files) (name content : List ℕ) → told ≡ then → IsContent told name content → IsContent then name content
content_same told then name content same is = subst (λ (files : Option Files). IsContent files name content) same is

-- a name that is there is so for each answer
pub there_as : {A : Type 0} (files : Option Files) (name : List ℕ) (result : Result A OpenFault) → OnContent files name (λ content. ⊤) → IsThere files name result
there_as files name (Ok x) is = is
there_as files name (Err (faults.Refused refusal)) is = is
there_as files name (Err faults.ReadFault) is = tt
there_as files name (Err faults.NoMemory) is = tt

-- a fault that refuses nothing stops any reading
pub stops_unread : {A : Type 0} (fault : OpenFault) (read : Result A OpenRefusal) → IsNotRefused fault → Stops fault read
stops_unread (faults.Refused refusal) read is = absurd is
stops_unread faults.ReadFault read is = tt
stops_unread faults.NoMemory read is = tt

-- a fault that refuses nothing tells nothing of a name
pub there_unread : (A : Type 0) (files : Option Files) (name : List ℕ) (fault : OpenFault) → IsNotRefused fault → (let result : Result A OpenFault = Err fault in IsThere files name result)
there_unread A files name (faults.Refused refusal) is = absurd is
there_unread A files name faults.ReadFault is = tt
there_unread A files name faults.NoMemory is = tt

-- nothing was read
pub reads_none : {T : Type 0} (before : Outside) (name : List ℕ) (x : T) → (let result : Result T OpenFault = Ok x in Reads before before name result)
reads_none before name x = record {
  stays = refl;
  later = omega arith;
  others = omega arith;
  fault = λ is. (let bad : ⊥ = cc in absurd bad);
}

-- a fault that isn't one of reading comes behind a call that succeeded
pub reads_else : {S T : Type 0} (before after : Outside) (name : List ℕ) (x : S) (fault : OpenFault) → ¬ (fault ≡ faults.ReadFault) → (let result : Result S OpenFault = Ok x in Reads before after name result) → (let result : Result T OpenFault = Err fault in Reads before after name result)
reads_else before after name x fault other is = record {
  stays = is.stays;
  later = is.later;
  others = is.others;
  fault = λ same. absurd (other cc);
}

rose_later : (a b c : ℕ) → a ≤ b → Rose b c → Rose a c
rose_later a b c first rose = omega (arith, first, rose)

rose_before : (a b c : ℕ) → b ≤ c → Rose a b → Rose a c
rose_before a b c then rose = omega (arith, then, rose)

-- a call, where another that succeeded came before it
pub reads_then : {S T : Type 0} (a b c : Outside) (name : List ℕ) (x : S) (result : Result T OpenFault) → (let first : Result S OpenFault = Ok x in Reads a b name first) → Reads b c name result → Reads a c name result
reads_then a b c name x result first then = record {
  stays = then.stays ∙ first.stays;
  later = omega (arith, first.later, then.later);
  others = omega (arith, first.others, then.others);
  fault = λ is. on (then.fault is);
}
  where
    on : (Rose b.read_faults c.read_faults ⊎ IsMissing b.told name) → Rose a.read_faults c.read_faults ⊎ IsMissing a.told name
    on (inl rose) = inl (rose_later a.read_faults b.read_faults c.read_faults first.later rose)
    on (inr missing) = inr (subst (λ (files : Option Files). IsMissing files name) first.stays missing)

-- the same for a value of another type
pub there_else : (S T : Type 0) (files : Option Files) (name : List ℕ) (fault : OpenFault) → (let first : Result S OpenFault = Err fault in IsThere files name first) → (let result : Result T OpenFault = Err fault in IsThere files name result)
there_else S T files name (faults.Refused refusal) is = is
there_else S T files name faults.ReadFault is = tt
there_else S T files name faults.NoMemory is = tt
