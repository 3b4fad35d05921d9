-- A search that has read its lists has the scores of its query's plan.
use Rattle.shared_lemmas.proofs.Common.{◌≡◌, ℕ, ◌*◌, ◌<◌, List, [], ◌∷◌, length, map, get_or, sum_by, refl, sym, ap, subst, ◌∙◌, arith, All, AllByRecursion, All-from_recursion, recursion_from_All, sum_by-cons, get_or-map-range_with_len, IsPermutation, All-permutation, sum_by-IsPermutation, length_permutation, length-map}
use Rattle.shared_lemmas.proofs.Lists.{all_unmap, all_weaker}
use Rattle.jass_base.specs.declared.answer.Hit.{Hit}
use Rattle.jass_base.specs.declared.query_term.QueryTerm.{QueryTerm}
use Rattle.ranking_model.specs.declared.plan.QueryPlan.{QueryPlan}
use Rattle.ranking_model.specs.Order.{sorted}
use Rattle.ranking_model.specs.Plan.{plan_cmp}
use Rattle.ranking_model.specs.Scores.{first_ranked, scores_after}
use Rattle.index_model.specs.Index.{IndexData}
use Rattle.index_model.specs.Querying.{query_segments, segments_at}
use Rattle.max_score.specs.Cursors.{CursorView, impact_in, postings_in}
use Rattle.max_score.specs.Searches.{AreKnown, query_postings}
use Rattle.max_score.specs.declared.candidates.Candidates.{Candidates}
use Rattle.max_score.specs.declared.term_list.TermList.{TermList}
use Rattle.max_score.specs.Private.Unread.{IsRead, named_by}
use Rattle.max_score.specs.Private.Lists.{score_in, scores_in, weight_in}
use Rattle.max_score.specs.Private.Standing.{Stands}
use Rattle.max_score.specs.Private.Walking.{HasMet}
use Rattle.max_score.proofs.Bounds.{score_at, scores_length}
use Rattle.max_score.proofs.Scores.{all_scores, weight_of}

-- the terms of lists are those of the query
pub all_known : (index : IndexData) (terms : List QueryTerm) (lists : List TermList) → IsPermutation terms (map named_by lists) → AreKnown index terms → AllByRecursion (λ (l : TermList). l.cursor.term < length index.terms) lists
all_known index terms lists same known = all_unmap (λ (n : QueryTerm). n.term < length index.terms) named_by lists
    (recursion_from_All (λ (n : QueryTerm). n.term < length index.terms) (map named_by lists) (All-permutation (λ (n : QueryTerm). n.term < length index.terms) terms (map named_by lists) same known))

pub same_postings : (index : IndexData) (terms : List QueryTerm) (lists : List TermList) → IsPermutation terms (map named_by lists) → query_postings index (map named_by lists) ≡ query_postings index terms
same_postings index terms lists same = sum_by-IsPermutation (λ (n : QueryTerm). postings_in (segments_at index.terms n.term)) terms (map named_by lists) same

pub as_many : (terms : List QueryTerm) (lists : List TermList) → IsPermutation terms (map named_by lists) → length lists ≡ length terms
as_many terms lists same = sym (length-map lists named_by) ∙ length_permutation terms (map named_by lists) same

pub covered : (index : IndexData) (docs : ℕ) (lists : List TermList) → docs ≡ length index.names → AllByRecursion (IsRead index) lists → All (λ (list : TermList). list.cursor.docs ≡ docs) lists
covered index docs lists same all = All-from_recursion (λ (list : TermList). list.cursor.docs ≡ docs) lists
    (all_weaker (IsRead index) (λ (list : TermList). list.cursor.docs ≡ docs) (λ list k. ap (λ (v : CursorView). v.docs) k.cursor ∙ sym same) lists all)

weight_is : (index : IndexData) (doc : ℕ) (list : TermList) → IsRead index list → doc < length index.names → weight_in doc list ≡ weight_of index.terms doc (named_by list)
weight_is index doc list is inside = ap (λ n. n * list.times)
    (ap (λ (v : CursorView). get_or v.impacts doc 0) is.cursor ∙ get_or-map-range_with_len (impact_in (segments_at index.terms list.cursor.term)) 0 (length index.names) doc doc 0 inside (omega arith))

score_is : (index : IndexData) (doc : ℕ) (lists : List TermList) → AllByRecursion (IsRead index) lists → doc < length index.names → score_in lists doc ≡ sum_by (weight_of index.terms doc) (map named_by lists)
score_is index doc [] all inside = refl
score_is index doc (x ∷ xs) all inside =
    let s = sum_by-cons (weight_in doc) x xs in
    let t = sum_by-cons (weight_of index.terms doc) (named_by x) (map named_by xs) in
    let here = weight_is index doc x all.0 inside in
    let rest = score_is index doc xs all.1 inside in
    omega arith

module _ (index : IndexData) (docs : ℕ) (terms : List QueryTerm) (plan : QueryPlan) (lists : List TermList) (same : docs ≡ length index.names) (named : IsPermutation terms (map named_by lists)) (read : AllByRecursion (IsRead index) lists)
    (plan_docs : plan.docs ≡ length index.names) (segments : plan.segments ≡ sorted plan_cmp (query_segments index terms)) where
  plan_scores : scores_in docs lists ≡ scores_after (length plan.segments) plan
  plan_scores = all_scores index terms plan (scores_in docs lists) plan_docs segments (scores_length docs lists ∙ same)
      (λ doc inside. score_at docs lists doc (omega (arith, same, inside)) ∙ score_is index doc lists read inside ∙ sum_by-IsPermutation (weight_of index.terms doc) terms (map named_by lists) named)

  pub finished : (k : ℕ) (best : Candidates) (hits : List Hit) → best.k ≡ k → HasMet docs lists docs best
      → ((scores : List ℕ) → Stands scores best.k (length scores) best.threshold best.hits.items → hits ≡ first_ranked scores best.k) → hits ≡ first_ranked (scores_after (length plan.segments) plan) k
  finished k best hits asked met ends =
      ends (scores_in docs lists) (subst (λ n. Stands (scores_in docs lists) best.k n best.threshold best.hits.items) (sym (scores_length docs lists)) met)
      ∙ ap (λ scores. first_ranked scores best.k) plan_scores ∙ ap (first_ranked (scores_after (length plan.segments) plan)) asked
