-- The segments of one list, where the documents' lengths and the range of all weights are known.
use Rattle.std.specs.Prelude.{ℕ, ◌≡◌, ◌+◌, ◌-◌, ◌≤◌, ◌<◌, ◌^◌, ◌&&◌, ⊤, Bool, List, [], ◌∷◌, length, map, min, All, Option, Some, None, if◌then◌else◌, nat_le}
use Rattle.std.specs.List.Sorted.{IsStrictlyIncreasing}
use Rattle.jass_base.specs.Lists.{HasDocsBelow}
use Rattle.jass_base.specs.Postings.{HasTfInRange, docs_of}
use Rattle.jass_base.specs.declared.posting.Posting.{Posting}
use Rattle.jass_base.specs.declared.postings_list.PostingsList.{PostingsList}
use Rattle.weights.specs.declared.weighting.Rule.{Rule}
use Rattle.weights.specs.declared.quantizing.Bits.{Bits}
use Rattle.weights.specs.declared.quantizing.Bits.TheVariants.{Raw, Of}
use Rattle.weights.specs.declared.quantizing.Range.{Range}
use Rattle.weights.specs.Quantizing.{impact_of}
use Rattle.weights.specs.Weighting.{length_norm}
use Rattle.impact_segments.specs.Collections.{total_of, weight_in}
use Rattle.impact_segments.specs.declared.doc_impact.DocImpact.{DocImpact}
use Rattle.impact_segments.specs.declared.one_list.SegmentsFault.{SegmentsFault}
use Rattle.impact_segments.specs.declared.one_list.SegmentsFault.TheVariants.{Outside, NoMemory}
use Rattle.jass_base.specs.declared.limits.TheConstants.{MOST_DOCUMENTS}

-- a list with postings, of documents that have these lengths and so many terms in all
pub record IsListOf (lengths : List ℕ) (terms : ℕ) (list : PostingsList) : Type 0 where
  pub few : length lengths ≤ MOST_DOCUMENTS
  pub small : All (λ n. n < 2 ^ 31) lengths
  pub total : terms ≡ total_of lengths
  pub some : 1 ≤ length list.postings
  pub below : HasDocsBelow (length lengths) list

-- the same of postings alone: it also says what a list keeps by itself, that they rise by their documents and that
-- their frequencies are in range
pub record ArePostingsOf (lengths : List ℕ) (terms : ℕ) (postings : List Posting) : Type 0 where
  pub few : length lengths ≤ MOST_DOCUMENTS
  pub small : All (λ n. n < 2 ^ 31) lengths
  pub total : terms ≡ total_of lengths
  pub some : 1 ≤ length postings
  pub rising : IsStrictlyIncreasing (docs_of postings)
  pub below : All (λ doc. doc < length lengths) (docs_of postings)
  pub tf : All HasTfInRange postings

-- how far each length slows the growth of a weight, cut off where no weight is above 1
abbrev pub norms_in : List ℕ → ℕ → List ℕ
norms_in lengths total = map (λ n. min (length_norm (length lengths) total n) (2 ^ 63)) lengths

-- a range that ends low enough for impacts of these bits
abbrev pub EndsLow : Bits → Range → Type 0
EndsLow Raw range = ⊤
EndsLow (Of b) range = range.greatest ≤ 2 ^ 40

-- the documents of postings with their impacts
abbrev pub pairs_in : Rule → List ℕ → ℕ → Bits → Range → List Posting → List DocImpact
pairs_in rule lengths total bits range postings =
    map (λ (p : Posting). record { doc = p.doc; impact = impact_of bits range (weight_in rule lengths total (length postings) p) }) postings

-- how far two numbers lie apart
abbrev pub distance : ℕ → ℕ → ℕ
distance a b = (a - b) + (b - a)

-- the end of a range that lies nearer to a weight
abbrev pub nearer_end : Range → ℕ → ℕ
nearer_end range w = if nat_le (distance w range.least) (distance w range.greatest) then range.least else range.greatest

abbrev pub has_weight : Range → ℕ → Bool
has_weight range w = nat_le range.least w && nat_le w range.greatest

-- the first of some weights that lies outside a range, behind the end that lies nearer
abbrev pub first_outside : Range → List ℕ → Option (ℕ × ℕ)
first_outside range [] = None
first_outside range (w ∷ weights) = if has_weight range w then first_outside range weights else Some (nearer_end range w, w)

-- the same where impacts are places in the range; raw ones ask for none
abbrev pub outside : Bits → Range → List ℕ → Option (ℕ × ℕ)
outside Raw range weights = None
outside (Of b) range weights = first_outside range weights

-- a fault: a weight outside the range, or memory was refused
abbrev pub Unmade : Option (ℕ × ℕ) → SegmentsFault → Type 0
Unmade found (Outside kept w) = found ≡ Some (kept, w)
Unmade found NoMemory = ⊤
