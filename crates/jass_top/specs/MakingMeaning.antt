-- What a command means that makes an index file of its input, and prints the totals.
use Rattle.std.specs.Prelude.{◌≡◌, List, ℕ, [], ◌∷◌, Option, Some, ◌⊎◌}
use Rattle.jass_base.specs.Outside.{Files}
use Rattle.index_model.specs.Index.{IndexData}
use Rattle.index_layout.specs.Totals.{totals_of}
use Rattle.index_layout.specs.View.{index_text}
use Rattle.trec_run.specs.Totals.{totals_line}
use Rattle.jass_top.specs.IndexJudging.{fitting}
use Rattle.jass_top.specs.Judging.{Judged, behind}
use Rattle.jass_top.specs.Meanings.{Output, Meaning, reading_meaning}
use Rattle.jass_top.specs.Standing.{FilePart, FileThenPart}
use Rattle.jass_top.specs.Worlds.{Outer}

-- an index's text in the file, and its totals line
abbrev pub made_output : IndexData → Output
made_output index = record { content = index_text index; text = totals_line (totals_of index); steps = 0 }

-- the index that is made of an input must fit a file
abbrev pub judge_made : {A : Type 0} → List ℕ → (Option Files → Judged A) → (A → IndexData) → Option Files → Judged IndexData
judge_made input judge made told = behind (judge told) (λ x. fitting input (made x))

-- of an input that is judged so an index is made, of which an output is one, and a part of one stands after a write fault
abbrev pub on_made : {A : Type 0} → List ℕ → (Option Files → Judged A) → (A → IndexData)
    → (IndexData → Output → Type 0) → (IndexData → Outer → Outer → Type 0) → Meaning
on_made input judge made IsOutput part = reading_meaning (input ∷ []) (judge_made input judge made) IsOutput part

-- the index becomes a file: a prefix of it stands, or all of it and a prefix of the totals
abbrev pub SavesPart : List ℕ → IndexData → Outer → Outer → Type 0
SavesPart file index before after =
    FilePart file (made_output index) before after ⊎ FileThenPart file (made_output index) before after

abbrev pub making_meaning : {A : Type 0} → List ℕ → List ℕ → (Option Files → Judged A) → (A → IndexData) → Meaning
making_meaning input file judge made =
    record (on_made input judge made (λ index output. output ≡ made_output index) (SavesPart file)) { file = Some file }
