-- What a part of the check answers, where it reads a piece of a content.
use Rattle.std.specs.Prelude.{ℕ, ◌≡◌, ◌+◌, ◌++◌, Bool, true, false, List, length}
use Rattle.std.specs.Prelude.{Option, Some, None, Result, Ok, Err}
use Rattle.std.specs.List.{sum_by}
use Rattle.jass_base.specs.declared.answer.Totals.{Totals}
use Rattle.index_model.specs.Index.{SegmentData}
use Rattle.index_layout.specs.Heads.{HeadData, TermHeads, all_heads, head_postings}
use Rattle.index_layout.specs.Reading.{HeadsRead, IndexRead, SegmentsRead, TermsRead}
use Rattle.index_layout.specs.View.{FileView, term_postings}
use Rattle.index_layout.specs.declared.refusal.OpenFault.{OpenFault}
use Rattle.index_layout.specs.declared.refusal.OpenRefusal.{OpenRefusal}
use Rattle.index_file.specs.Answers.{Stops}
use Rattle.index_file.specs.Sums.{AreSums}
use Rattle.index_file.specs.declared.sums.Sums.{Sums}

-- a place in a piece that begins at another place, or a refusal there, as they stand in the whole
abbrev pub moved : ℕ → Result ℕ OpenRefusal → Result ℕ OpenRefusal
moved by (Ok place) = Ok (by + place)
moved by (Err refusal) = Err (record { at = by + refusal.at; why = refusal.why })

-- a place is where reading ends, or a fault stops as reading does
abbrev pub Ends : {A : Type 0} → (A → ℕ) → Result ℕ OpenFault → Result A OpenRefusal → Type 0
Ends end_of (Ok place) read = (x : _) × (read ≡ Ok x) × (end_of x ≡ place)
Ends end_of (Err fault) read = Stops fault read

-- a place is the one that reading gives
abbrev pub Places : Result ℕ OpenFault → Result ℕ OpenRefusal → Type 0
Places (Ok place) read = read ≡ Ok place
Places (Err fault) read = Stops fault read

-- the same, with the number of a term's heads beside the place
abbrev pub PlacesTerm : Result (ℕ × ℕ) OpenFault → Result ℕ OpenRefusal → Type 0
PlacesTerm (Ok x) read = read ≡ Ok x.0
PlacesTerm (Err fault) read = Stops fault read

-- a place is where the segments of heads end, which have as many documents as the heads count
abbrev pub EndsSegments : List HeadData → Result ℕ OpenFault → Result SegmentsRead OpenRefusal → Type 0
EndsSegments heads (Ok place) read =
    (x : SegmentsRead) × (read ≡ Ok x) × (x.end ≡ place)
    × (sum_by (λ (s : SegmentData). length s.docs) x.segments ≡ sum_by (λ (h : HeadData). h.count) heads)
EndsSegments heads (Err fault) read = Stops fault read

-- the same for all terms
abbrev pub EndsIndex : List TermHeads → Result ℕ OpenFault → Result IndexRead OpenRefusal → Type 0
EndsIndex terms (Ok place) read =
    (x : IndexRead) × (read ≡ Ok x) × (x.end ≡ place) × (sum_by term_postings x.terms ≡ head_postings terms)
EndsIndex terms (Err fault) read = Stops fault read

-- a place is where heads end, which were added to sums
abbrev pub EndsHeads : Sums → Sums → Result ℕ OpenFault → Result HeadsRead OpenRefusal → Type 0
EndsHeads old new (Ok place) read =
    (x : HeadsRead) × (read ≡ Ok x) × (x.end ≡ place)
    × ((heads : List HeadData) → AreSums old heads → AreSums new (heads ++ x.heads))
EndsHeads old new (Err fault) read = Stops fault read

-- a place is where terms end, and these are the sums of their heads
abbrev pub EndsTerms : Result (Sums × ℕ) OpenFault → Result TermsRead OpenRefusal → Type 0
EndsTerms (Ok x) read = (y : TermsRead) × (read ≡ Ok y) × (y.end ≡ x.1) × AreSums x.0 (all_heads y.terms)
EndsTerms (Err fault) read = Stops fault read

-- the last checks of a view are passed, or a fault stops as they do
abbrev pub AnswersTotals : FileView → Result Totals OpenFault → Result FileView OpenRefusal → Type 0
AnswersTotals view (Ok totals) read = read ≡ Ok view
AnswersTotals view (Err fault) read = Stops fault read

-- the term before, where there is one
abbrev pub before_of : Bool → List ℕ → Option (List ℕ)
before_of true term = None
before_of false term = Some term
