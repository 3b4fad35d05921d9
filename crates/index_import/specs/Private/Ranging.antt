-- The range of the weights of the lists of a file that was judged.
use Rattle.std.specs.Prelude.{ℕ, ◌≡◌, ◌≤◌, ◌⊎◌, List, Option, false, fold, length}
use Rattle.jass_base.specs.Ciff.{FitsList, ListData}
use Rattle.jass_base.specs.Outside.{Files, ForContent}
use Rattle.weights.specs.declared.quantizing.Bits.{Bits}
use Rattle.weights.specs.declared.quantizing.Bits.TheVariants.{Raw, Of}
use Rattle.weights.specs.declared.quantizing.Range.{Range}
use Rattle.weights.specs.Quantizing.{empty_range, widened}
use Rattle.weights.specs.declared.weighting.Rule.{Rule}
use Rattle.impact_segments.specs.Bounds.{can_widen}
use Rattle.impact_segments.specs.Collections.{weights_in}
use Rattle.impact_segments.specs.ListTerms.{widened_by}
use Rattle.index_import.specs.Private.Outlining.{list_there, lists_there}
use Rattle.index_import.specs.declared.list_entry.ListEntry.{ListEntry}
use Rattle.index_import.specs.declared.passed_sizes.ListSize.{ListSize}
use Rattle.index_import.specs.declared.weighing.Weighing.{Weighing}

-- the range of the weights of all lists that entries name
abbrev pub widened_there : List ℕ → ℕ → Weighing → List ListEntry → Range
widened_there content docs w lists = widened_by w.rule w.lengths.now w.total empty_range (lists_there content docs lists)

-- the range that impacts of these bits are places in; raw ones ask for none
abbrev pub range_there : List ℕ → ℕ → Weighing → Bits → List ListEntry → Range
range_there content docs w Raw lists = empty_range
range_there content docs w (Of b) lists = widened_there content docs w lists

-- the second range is the first, widened by a list that fits; where the content is told, its postings are those of the list at a place
pub record IsWidenedBy (files : Option Files) (name : List ℕ) (docs : ℕ) (w : Weighing) (at : ℕ) (before after : Range) : Type 0 where
  pub list : ListData
  pub fits : FitsList (length w.lengths.now) list
  pub range_is : after ≡ fold widened before (weights_in w.rule w.lengths.now w.total list.postings)
  pub there : ForContent files name (λ content. list.postings ≡ (list_there content docs at).postings)

-- no list of this size, in so many documents with these ends of their norms, can widen the range
abbrev pub CannotWiden : Rule → ℕ → Range → Range → ListSize → Type 0
CannotWiden rule docs norms range size = 1 ≤ size.count → can_widen rule docs size.count size.most norms range ≡ false

-- the ends of a range are in order, unless no weight widened it
abbrev pub HasOrder : Range → Type 0
HasOrder range = (range.least ≤ range.greatest) ⊎ (range ≡ empty_range)
