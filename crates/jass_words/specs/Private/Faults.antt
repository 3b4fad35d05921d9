-- Words that are read, and words at fault, place by place.
use Rattle.std.specs.Prelude.{ℕ, zero, ◌≡◌, ◌<◌, ◌≤◌, ◌+◌, suc, List, [], ◌∷◌, ◌++◌, length, take, drop, Option, Some, None, IsSomeAnd, slice_get, ◌⊎◌}
use Rattle.jass_words.specs.Slots.{Slot, File, Value, Values, Says, files_with, Tail, Extra, IsTail, IsForm}

-- words that stand before others have it
abbrev pub Begins : (List (List ℕ) → Type 0) → List (List ℕ) → Type 0
Begins Is words = (rest : List (List ℕ)) × Is (words ++ rest)

-- the words don't have it, and the first of them, counted from 1, such that no words that begin so have it
pub record IsBad (Is : List (List ℕ) → Type 0) (words : List (List ℕ)) (which : ℕ) : Type 0 where
  pub none : ¬ Is words
  pub before : (n : ℕ) → n < which → Begins Is (take n words)
  pub here : which ≤ length words → ¬ Begins Is (take which words)
  pub there : which ≤ length words + 1

abbrev pub IsSomeTail : Tail → List (List ℕ) → Type 0
IsSomeTail tail words = (extra : Extra tail) × IsTail tail words extra

abbrev pub IsSomeForm : List Slot → Tail → List (List ℕ) → List (List ℕ) → Type 0
IsSomeForm slots tail before words =
    (values : Values slots) × (extra : Extra tail) × IsForm slots tail before words values extra

-- the word at a place says the value, or none
abbrev pub SaidAt : (slot : Slot) → List (List ℕ) → ℕ → List (List ℕ) → Value slot → Type 0
SaidAt slot before place words value = IsSomeAnd (slice_get words place) (λ word. Says slot before word value)

abbrev pub NoneAt : Slot → List (List ℕ) → ℕ → List (List ℕ) → Type 0
NoneAt slot before place words = (word : List ℕ) (value : Value slot)
    → slice_get words place ≡ Some word → ¬ Says slot before word value

abbrev pub Finds : (slot : Slot) → List (List ℕ) → ℕ → List (List ℕ) → Option (Value slot) → Type 0
Finds slot before place words (Some value) = SaidAt slot before place words value
Finds slot before place words None = NoneAt slot before place words

-- the words from a place on say values and a rest, which make the result
abbrev pub IsRead : {R : Type 0} → (slots : List Slot) (tail : Tail) → List (List ℕ) → ℕ → List (List ℕ)
    → (Values slots → Extra tail → R) → R → Type 0
IsRead [] tail before place words made result =
    (extra : Extra tail) × IsTail tail (drop place words) extra × (result ≡ made tt extra)
IsRead (slot ∷ slots) tail before place words made result =
    (value : Value slot) × SaidAt slot before place words value
    × IsRead slots tail (files_with slot value before) (suc place) words
    (λ values extra. made (value, values) extra) result

-- a word behind the fixed ones is at fault
abbrev pub IsTailFault : Tail → ℕ → List (List ℕ) → ℕ → Type 0
IsTailFault tail place words which = (n : ℕ) × (which ≡ place + n) × IsBad (IsSomeTail tail) (drop place words) n

-- the first slot whose word says nothing of its kind, or a fault behind all of them
abbrev pub IsFault : List Slot → Tail → List (List ℕ) → ℕ → List (List ℕ) → ℕ → Type 0
IsFault [] tail before place words which = IsTailFault tail place words which
IsFault (slot ∷ slots) tail before place words which =
    (NoneAt slot before place words × (which ≡ place + 1))
    ⊎ ((value : Value slot) × SaidAt slot before place words value
    × IsFault slots tail (files_with slot value before) (suc place) words which)

-- the word so many behind a place is a file, behind the files between
pub record IsNextFile (place n : ℕ) (words : List (List ℕ)) : Type 0 where
  pub file : List ℕ
  pub said : SaidAt File (take n (drop place words)) (place + n) words file
  pub longer : take (n + 1) (drop place words) ≡ take n (drop place words) ++ file ∷ []

-- so many files are said from a place on, each in its slot, behind these files
abbrev pub SaysFiles : ℕ → List (List ℕ) → ℕ → List (List ℕ) → List (List ℕ) → Type 0
SaysFiles zero before place words files = files ≡ []
SaysFiles (suc n) before place words [] = ⊥
SaysFiles (suc n) before place words (file ∷ files) =
    SaidAt File before place words file × SaysFiles n (before ++ file ∷ []) (suc place) words files
