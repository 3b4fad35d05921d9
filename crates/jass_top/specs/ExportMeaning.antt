-- What `export` means: the collection of an index, with impacts as term frequencies, as a CIFF file.
use Rattle.std.specs.Prelude.{◌≡◌, List, ℕ, [], ◌∷◌, Some, false}
use Rattle.jass_base.specs.CiffText.{canonical_ciff}
use Rattle.index_layout.specs.View.{FileView, index_postings}
use Rattle.index_export.specs.Exports.{export_of}
use Rattle.jass_top.specs.IndexJudging.{judge_index}
use Rattle.jass_top.specs.Meanings.{Output, Meaning, reading_meaning}
use Rattle.jass_top.specs.Standing.{FilePart, StepsAlone}

-- a step is a posting
abbrev pub exported : FileView → Output
exported view = record { content = canonical_ciff (export_of view.index); text = []; steps = index_postings view.index }

-- it counts before it takes its last memory
abbrev pub export_meaning : List ℕ → List ℕ → Meaning
export_meaning index ciff =
    record (reading_meaning (index ∷ []) (judge_index index) (λ view output. output ≡ exported view)
    (λ view. FilePart ciff (exported view))) {
      file = Some ciff;
      prints = false;
      AtMemory = λ view. StepsAlone (exported view);
    }
