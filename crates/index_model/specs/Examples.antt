-- Small indexes on which the definitions are run.
use Rattle.std.specs.Prelude.{ℕ, List, [], ◌∷◌, codes}
use Rattle.jass_base.specs.declared.query_term.QueryTerm.{QueryTerm}
use Rattle.ranking_model.specs.declared.entry.Entry.{Entry}
use Rattle.ranking_model.specs.declared.plan_segment.PlanSegment.{PlanSegment}
use Rattle.index_model.specs.Index.{SegmentData, TermData, IndexData}

abbrev pub flat_entry : {T : Type 0} → T → ℕ → ℕ → Entry T
flat_entry term doc impact = record { term = term; doc = doc; impact = impact }

abbrev pub plan_segment : ℕ → ℕ → List ℕ → PlanSegment
plan_segment term_place weight docs = record { term_place = term_place; weight = weight; docs = docs }

abbrev pub named : ℕ → ℕ → QueryTerm
named term times = record { term = term; times = times }

abbrev pub term_segment : ℕ → List ℕ → SegmentData
term_segment impact docs = record { impact = impact; docs = docs }

abbrev pub term : List ℕ → List SegmentData → TermData
term bytes segments = record { term = bytes; segments = segments }

-- three documents with one term
abbrev pub one_term : IndexData
one_term = record {
  names = codes "d0" ∷ codes "d1" ∷ codes "d2" ∷ [];
  terms = term (codes "a") (term_segment 9 (0 ∷ []) ∷ term_segment 5 (1 ∷ []) ∷ term_segment 1 (2 ∷ []) ∷ []) ∷ [];
}

-- four documents with two terms
abbrev pub two_terms : IndexData
two_terms = record {
  names = codes "d0" ∷ codes "d1" ∷ codes "d2" ∷ codes "d3" ∷ [];
  terms = term (codes "cat") (term_segment 3 (0 ∷ []) ∷ term_segment 1 (1 ∷ 3 ∷ []) ∷ []) ∷ term (codes "dog") (term_segment 3 (2 ∷ []) ∷ term_segment 2 (1 ∷ []) ∷ []) ∷ [];
}

-- two documents with two terms, of which the first example has one
abbrev pub more_terms : IndexData
more_terms = record {
  names = codes "e0" ∷ codes "e1" ∷ [];
  terms = term (codes "a") (term_segment 9 (1 ∷ []) ∷ term_segment 2 (0 ∷ []) ∷ []) ∷ term (codes "cat") (term_segment 5 (0 ∷ 1 ∷ []) ∷ []) ∷ [];
}

-- the first example and these as one
abbrev pub both_as_one : IndexData
both_as_one = record {
  names = codes "d0" ∷ codes "d1" ∷ codes "d2" ∷ codes "e0" ∷ codes "e1" ∷ [];
  terms = term (codes "a") (term_segment 9 (0 ∷ 4 ∷ []) ∷ term_segment 5 (1 ∷ []) ∷ term_segment 2 (3 ∷ []) ∷ term_segment 1 (2 ∷ []) ∷ [])
      ∷ term (codes "cat") (term_segment 5 (3 ∷ 4 ∷ []) ∷ []) ∷ [];
}

-- no documents, and no terms
abbrev pub nothing : IndexData
nothing = record { names = []; terms = [] }
