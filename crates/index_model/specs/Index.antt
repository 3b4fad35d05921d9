-- An index as plain data (Lin and Trotman, "Anytime Ranking for Impact-Ordered Indexes", ICTIR 2015).
use Rattle.std.specs.Prelude.{ℕ, ◌<◌, ◌≤◌, List, length, All, AllPairs, Contains}
use Rattle.jass_base.specs.Gaps.{AreDocs}
use Rattle.jass_base.specs.Limits.{IsName, IsText}
use Rattle.jass_base.specs.Terms.{BytesRise}
use Rattle.jass_base.specs.declared.limits.TheConstants.{GREATEST_IMPACT, LONGEST_TERM, MOST_DOCUMENTS, MOST_TERMS}

-- all postings of a term that have the same impact: their documents, in rising order
pub record SegmentData : Type 0 where
  pub impact : ℕ
  pub docs : List ℕ

-- a term, and its segments by falling impact
pub record TermData : Type 0 where
  pub term : List ℕ
  pub segments : List SegmentData

-- the names of the documents by number, and the terms by rising bytes; a term's number is its place
pub record IndexData : Type 0 where
  pub names : List (List ℕ)
  pub terms : List TermData

-- a segment of an index of so many documents: an impact of 16 bits that isn't 0, and at least one document
pub record IsSegment (documents : ℕ) (segment : SegmentData) : Type 0 where
  pub impact : (1 ≤ segment.impact) × (segment.impact ≤ GREATEST_IMPACT)
  pub docs : AreDocs documents segment.docs

-- the impact is above that of a later segment
abbrev pub FallsTo : SegmentData → SegmentData → Type 0
FallsTo segment later = later.impact < segment.impact

-- no document stands in both segments
abbrev pub SharesNoDocument : SegmentData → SegmentData → Type 0
SharesNoDocument first second = (doc : ℕ) → Contains first.docs doc → ¬ Contains second.docs doc

-- a term of an index of so many documents: a text of at most 65,535 bytes with at least one segment; impacts fall, and a document stands at most once in it
pub record IsTerm (documents : ℕ) (term : TermData) : Type 0 where
  pub text : IsText term.term
  pub fits : length term.term ≤ LONGEST_TERM
  pub some : 1 ≤ length term.segments
  pub segments : All (IsSegment documents) term.segments
  pub falling : AllPairs FallsTo term.segments
  pub once : AllPairs SharesNoDocument term.segments

-- the bytes of the term are below those of a later one
abbrev pub RisesTo : TermData → TermData → Type 0
RisesTo term later = BytesRise term.term later.term

-- at most 2^26 names and any number of terms, each within its limits, and the terms rise by their bytes
pub record IsWellFormed (index : IndexData) : Type 0 where
  pub few_names : length index.names ≤ MOST_DOCUMENTS
  pub names : All IsName index.names
  pub names_are_text : All IsText index.names
  pub rising : AllPairs RisesTo index.terms
  pub terms : All (IsTerm (length index.names)) index.terms

-- at most 2^26 names and 2^24 terms, each within its limits, and the terms rise by their bytes
pub record IsIndex (index : IndexData) : Type 0 where
  pub few_names : length index.names ≤ MOST_DOCUMENTS
  pub names : All IsName index.names
  pub names_are_text : All IsText index.names
  pub few_terms : length index.terms ≤ MOST_TERMS
  pub rising : AllPairs RisesTo index.terms
  pub terms : All (IsTerm (length index.names)) index.terms
