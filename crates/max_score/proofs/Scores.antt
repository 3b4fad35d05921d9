-- The scores of a query's posting lists are those after all segments of its plan.
use Rattle.shared_lemmas.proofs.Common.{◌≡◌, ℕ, suc, ◌+◌, ◌*◌, ◌<◌, ◌==◌, List, [], ◌∷◌, length, get_or, sum_by, count_by, refl, sym, ap, ◌∙◌, arith, sum_by-cons, sum_by-append, take-length}
use Rattle.jass_base.specs.declared.query_term.QueryTerm.{QueryTerm}
use Rattle.ranking_model.specs.declared.plan.QueryPlan.{QueryPlan}
use Rattle.ranking_model.specs.declared.plan_segment.PlanSegment.{PlanSegment}
use Rattle.ranking_model.specs.Order.{sorted}
use Rattle.ranking_model.specs.Plan.{plan_cmp}
use Rattle.ranking_model.specs.Scores.{gain_of, scores_after}
use Rattle.ranking_model.proofs.Sorting.{sum_by-sorted}
use Rattle.ranking_model.proofs.Totals.{scores_are}
use Rattle.index_model.specs.Index.{IndexData, SegmentData, TermData}
use Rattle.index_model.specs.Querying.{query_segments, query_segments_at, query_segments_from, segments_at}
use Rattle.max_score.specs.Cursors.{impact_in}

-- what the query's term adds to a document's score
abbrev pub weight_of : List TermData → ℕ → QueryTerm → ℕ
weight_of terms doc named = impact_in (segments_at terms named.term) doc * named.times

gains_at : (place doc : ℕ) (named : QueryTerm) (segments : List SegmentData) → sum_by (gain_of doc) (query_segments_at place named segments) ≡ impact_in segments doc * named.times
gains_at place doc named [] = omega arith
gains_at place doc named (s ∷ segments) =
    let first : PlanSegment = record { term_place = place; weight = s.impact * named.times; docs = s.docs } in
    let a = sum_by-cons (gain_of doc) first (query_segments_at place named segments) in
    let b = sum_by-cons (λ (s : SegmentData). s.impact * count_by (λ d. d == doc) s.docs) s segments in
    let rest = gains_at place doc named segments in
    spread s.impact named.times (count_by (λ d. d == doc) s.docs) (impact_in segments doc) (impact_in (s ∷ segments) doc) (sum_by (gain_of doc) (query_segments_at place named segments)) (sum_by (gain_of doc) (query_segments_at place named (s ∷ segments))) a b rest
  where
    spread : (i t c later both sum total : ℕ) → total ≡ i * t * c + sum → both ≡ i * c + later → sum ≡ later * t → total ≡ both * t
    spread i t c later both sum total a b rest = rw (a, b, rest) (omega arith)

gains_from : (place doc : ℕ) (query : List QueryTerm) (terms : List TermData) → sum_by (gain_of doc) (query_segments_from place query terms) ≡ sum_by (weight_of terms doc) query
gains_from place doc [] terms = refl
gains_from place doc (named ∷ query) terms =
    let a = sum_by-append (gain_of doc) (query_segments_at place named (segments_at terms named.term)) (query_segments_from (suc place) query terms) in
    let b = sum_by-cons (weight_of terms doc) named query in
    let here = gains_at place doc named (segments_at terms named.term) in
    let rest = gains_from (suc place) doc query terms in
    omega arith

-- scores that add up the weights of a query's terms are those after all segments of its plan
pub all_scores : (index : IndexData) (query : List QueryTerm) (plan : QueryPlan) (scores : List ℕ) → plan.docs ≡ length index.names → plan.segments ≡ sorted plan_cmp (query_segments index query)
    → length scores ≡ length index.names → ((doc : ℕ) → doc < length index.names → get_or scores doc 0 ≡ sum_by (weight_of index.terms doc) query) → scores ≡ scores_after (length plan.segments) plan
all_scores index query plan scores docs segments long each =
    scores_are plan scores (length plan.segments) (long ∙ sym docs) (λ d inside.
    each d (omega arith) ∙ sym (gains_from 0 d query index.terms) ∙ sym (sum_by-sorted plan_cmp (gain_of d) (query_segments index query)) ∙ ap (sum_by (gain_of d)) (sym segments) ∙ ap (sum_by (gain_of d)) (sym (take-length plan.segments)))
