-- What opening an index file by its name answers.
use Rattle.std.specs.Prelude.{ℕ, ◌≡◌, ⊤, List, Option, Result, Ok, Err}
use Rattle.jass_base.specs.Outside.{Files, OnContent}
use Rattle.index_layout.specs.declared.refusal.OpenFault.{OpenFault}
use Rattle.index_layout.specs.declared.refusal.OpenFault.TheVariants.{Refused, ReadFault, NoMemory}
use Rattle.index_layout.specs.Reading.{read_index}
use Rattle.index_layout.specs.View.{FileView}

-- a file, or a refusal, is what reading gives of the whole content; why a read fails is said by itself
abbrev pub Opens : Option Files → List ℕ → Result FileView OpenFault → Type 0
Opens files name (Ok file) = OnContent files name (λ content. read_index content ≡ Ok file)
Opens files name (Err (Refused refusal)) = OnContent files name (λ content. read_index content ≡ Err refusal)
Opens files name (Err ReadFault) = ⊤
Opens files name (Err NoMemory) = ⊤
