-- What the check of an index file by its name answers.
use Rattle.std.specs.Prelude.{ℕ, ◌≡◌, ⊤, List, Option, Result, Ok, Err}
use Rattle.jass_base.specs.Outside.{Files, OnContent}
use Rattle.jass_base.specs.declared.answer.Totals.{Totals}
use Rattle.index_layout.specs.declared.refusal.OpenFault.{OpenFault}
use Rattle.index_layout.specs.declared.refusal.OpenFault.TheVariants.{Refused, ReadFault, NoMemory}
use Rattle.index_layout.specs.Reading.{read_index}
use Rattle.index_layout.specs.Totals.{totals_of}
use Rattle.index_layout.specs.View.{FileView}

-- the totals are those of the file that reading gives of the whole content, or the refusal is what reading gives of it;
-- why a read fails is said by itself
abbrev pub Checks : Option Files → List ℕ → Result Totals OpenFault → Type 0
Checks files name (Ok totals) =
    (file : FileView) × (totals ≡ totals_of file.index)
    × OnContent files name (λ content. read_index content ≡ Ok file)
Checks files name (Err (Refused refusal)) = OnContent files name (λ content. read_index content ≡ Err refusal)
Checks files name (Err ReadFault) = ⊤
Checks files name (Err NoMemory) = ⊤
