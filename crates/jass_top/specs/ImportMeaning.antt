-- What `import` means: the index file of a CIFF file, and its totals on the output.
use Rattle.std.specs.Prelude.{List, ℕ}
use Rattle.weights.specs.declared.weighting.Rule.{Rule}
use Rattle.weights.specs.declared.quantizing.Bits.{Bits}
use Rattle.impact_segments.specs.Collections.{collection_index}
use Rattle.jass_top.specs.Judging.{judge_ciff}
use Rattle.jass_top.specs.MakingMeaning.{made_output, making_meaning}
use Rattle.jass_top.specs.Meanings.{Meaning}
use Rattle.jass_top.specs.Standing.{FilePart}

-- it writes while it still reads and takes memory
abbrev pub import_meaning : List ℕ → List ℕ → Rule → Bits → Meaning
import_meaning ciff index rule bits =
    record (making_meaning ciff index (judge_ciff ciff) (collection_index rule bits)) {
      AtMemory = λ made. FilePart index (made_output made);
      AtReadFault = λ made. FilePart index (made_output made);
    }
