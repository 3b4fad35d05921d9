-- What `check` means: the totals of an index file on the output.
use Rattle.std.specs.Prelude.{◌≡◌, List, ℕ, [], ◌∷◌}
use Rattle.index_layout.specs.Totals.{totals_of}
use Rattle.index_layout.specs.View.{FileView}
use Rattle.trec_run.specs.Totals.{totals_line}
use Rattle.jass_top.specs.IndexJudging.{judge_index}
use Rattle.jass_top.specs.Meanings.{Output, Meaning, reading_meaning}
use Rattle.jass_top.specs.Standing.{TextPart}

abbrev pub totals_output : FileView → Output
totals_output view = record { content = []; text = totals_line (totals_of view.index); steps = 0 }

abbrev pub check_meaning : List ℕ → Meaning
check_meaning index = reading_meaning (index ∷ []) (judge_index index) (λ view output. output ≡ totals_output view)
    (λ view. TextPart (totals_output view))
