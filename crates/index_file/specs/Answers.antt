-- What a part of a check or of an opening answers, where it reads a content by its name.
use Rattle.std.specs.Prelude.{ℕ, ◌≡◌, ⊤, List, length, Option, Result, Ok, Err}
use Rattle.jass_base.specs.Outside.{Files, OnContent}
use Rattle.index_layout.specs.Bytes.{u32_in, u64_in}
use Rattle.index_layout.specs.Reading.{read_front}
use Rattle.index_layout.specs.declared.refusal.OpenFault.{OpenFault}
use Rattle.index_layout.specs.declared.refusal.OpenFault.TheVariants as faults
use Rattle.index_layout.specs.declared.refusal.OpenRefusal.{OpenRefusal}
use Rattle.index_file.specs.declared.front.Front.{Front}

-- a refusal is the one that reading gives; a read fault or want of memory may come instead
abbrev pub Stops : {A : Type 0} → OpenFault → Result A OpenRefusal → Type 0
Stops (faults.Refused refusal) read = read ≡ Err refusal
Stops faults.ReadFault read = ⊤
Stops faults.NoMemory read = ⊤

-- the front is the one of a content, with its size and totals; or a fault stops as reading its front does
abbrev pub AnswersFront : List ℕ → Result Front OpenFault → Type 0
AnswersFront content (Ok front) =
    (read_front content ≡ Ok (record { docs = front.docs; terms = front.terms }))
    × (front.size ≡ length content) × (front.postings ≡ u64_in content 24) × (front.greatest ≡ u32_in content 32)
AnswersFront content (Err fault) = Stops fault (read_front content)

-- a file that was read is there, where the contents are told
abbrev pub IsThere : {A : Type 0} → Option Files → List ℕ → Result A OpenFault → Type 0
IsThere files name (Ok x) = OnContent files name (λ content. ⊤)
IsThere files name (Err (faults.Refused refusal)) = OnContent files name (λ content. ⊤)
IsThere files name (Err faults.ReadFault) = ⊤
IsThere files name (Err faults.NoMemory) = ⊤

-- reading failed, or memory was wanting: no refusal
abbrev pub IsNotRefused : OpenFault → Type 0
IsNotRefused (faults.Refused refusal) = ⊥
IsNotRefused faults.ReadFault = ⊤
IsNotRefused faults.NoMemory = ⊤
