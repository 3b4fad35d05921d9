-- The plan of a query over an index, and what it needs of a pool of frames.
use Rattle.std.specs.Prelude.{ℕ, suc, ◌≡◌, ◌<◌, ◌≤◌, min, false, All, List, [], ◌∷◌, ◌++◌, length, slice_get, sum_by}
use Rattle.std.specs.Prelude.{Some}
use Rattle.std.specs.List.{slice_index_or}
use Rattle.jass_base.specs.declared.query_term.QueryTerm.{QueryTerm}
use Rattle.ranking_model.specs.declared.plan_segment.PlanSegment.{PlanSegment}
use Rattle.ranking_model.specs.declared.plan.QueryPlan.{QueryPlan}
use Rattle.ranking_model.specs.Plan.{plan_of, size_of_first}
use Rattle.ranking_model.specs.Postings.{AreTerms}
use Rattle.index_model.specs.Index.{SegmentData, TermData, IndexData, IsWellFormed}
use Rattle.index_model.specs.Flat.{numbered_flat}
use Rattle.index_model.specs.Querying.{segments_at}
use Rattle.index_file.specs.Places.{segment_at}
use Rattle.segment_plan.specs.declared.entry.PlanEntry.{PlanEntry}
use Rattle.segment_plan.specs.declared.entry.PlanHead.{PlanHead}
use Rattle.segment_plan.specs.Entries.{plan_with}
use Rattle.accumulator_pages.specs.Adding.{page_count}
use Rattle.frame_pool.specs.Pool.{PoolView, all_in_use}

-- the terms are numbers of the index's terms
abbrev pub AreKnown : IndexData → List QueryTerm → Type 0
AreKnown index terms = All (λ (n : QueryTerm). n.term < length index.terms) terms

-- the plan of a query with these terms over an index
unfoldable pub session_plan : IndexData → List QueryTerm → QueryPlan
session_plan index terms = plan_of (length index.names) (numbered_flat index) terms

-- the number of postings of all segments of a plan
abbrev pub plan_postings : QueryPlan → ℕ
plan_postings plan = size_of_first (length plan.segments) plan.segments

-- how many frames a query can use at the most: one for each page of 256 documents, and one for each posting of its plan
abbrev pub need_of : IndexData → List QueryTerm → ℕ
need_of index terms = min (page_count (length index.names)) (plan_postings (session_plan index terms))

-- a number for one chain more is free
abbrev pub HasFreeNumber : PoolView → Type 0
HasFreeNumber pool = all_in_use pool ≡ false

-- ---- the segments of a query's terms

-- the heads of a named term's segments from a segment on
abbrev pub heads_at : ℕ → ℕ → List SegmentData → List PlanHead
heads_at term_place segment [] = []
heads_at term_place segment (s ∷ segments) =
    record { term_place = term_place; segment = segment; impact = s.impact; count = length s.docs }
    ∷ heads_at term_place (suc segment) segments

-- the heads of named terms, of which the first has this place in the query
abbrev pub heads_from : ℕ → List QueryTerm → List TermData → List PlanHead
heads_from term_place [] terms = []
heads_from term_place (named ∷ query) terms =
    heads_at term_place 0 (segments_at terms named.term) ++ heads_from (suc term_place) query terms

abbrev pub query_heads : IndexData → List QueryTerm → List PlanHead
query_heads index query = heads_from 0 query index.terms

-- the number of the term at a place of a query
abbrev pub term_of : List QueryTerm → ℕ → ℕ
term_of terms term_place = (slice_index_or terms term_place (record { term = 0; times = 0 })).term

-- the documents of the segment that an entry of a plan names
abbrev pub docs_named : IndexData → List QueryTerm → PlanEntry → List ℕ
docs_named index terms entry = (segment_at index.terms (term_of terms entry.term_place) entry.segment).docs

-- the segment of the plan that an entry stands for
abbrev pub segment_named : IndexData → List QueryTerm → PlanEntry → PlanSegment
segment_named index terms entry =
    record { term_place = entry.term_place; weight = entry.weight; docs = docs_named index terms entry }

-- an entry of a plan names a segment of a term of the query, which has as many documents as it says, and a weight
pub record NamesSegment (index : IndexData) (terms : List QueryTerm) (entry : PlanEntry) : Type 0 where
  pub term_place : entry.term_place < length terms
  pub term : term_of terms entry.term_place < length index.terms
  pub segment : entry.segment < length (segments_at index.terms (term_of terms entry.term_place))
  pub count : entry.count ≡ length (docs_named index terms entry)
  pub some : 1 ≤ entry.count
  pub weight : 1 ≤ entry.weight

-- the plan of a query with known terms over the index has this entry at a place
pub record HasEntry (index : IndexData) (terms : List QueryTerm) (n : ℕ) (entry : PlanEntry) : Type 0 where
  pub is_well_formed : IsWellFormed index
  pub named : AreTerms terms
  pub known : AreKnown index terms
  pub at : slice_get (plan_with terms (query_heads index terms)).entries n ≡ Some entry

-- the number of postings of the term with a number
abbrev pub postings_at : List TermData → ℕ → ℕ
postings_at terms number = sum_by (λ (s : SegmentData). length s.docs) (segments_at terms number)

-- the number of postings of some terms
abbrev pub postings_of_terms : List TermData → List QueryTerm → ℕ
postings_of_terms terms query = sum_by (λ (n : QueryTerm). postings_at terms n.term) query
