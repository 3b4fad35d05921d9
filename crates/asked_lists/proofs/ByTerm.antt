-- The lists of a collection that have postings, by rising terms: all of them, and those that some words ask for.
use Rattle.shared_lemmas.proofs.Common.{◌≡◌, ◌≢◌, ℕ, List, filter, map, length, false, refl, sym, ap, subst, ◌∙◌, nat_lt, flat_map, AllPairs, AllPairs-filter, IsPermutation-sym, IsTotalOrder, Ordering, Less, Equal, Greater, is_gt, is_lt, nat_cmp, slice_cmp}
use Rattle.shared_lemmas.proofs.Common.{nat_list_cmp_total, on_total, slice_cmp-IsAntisymmetric, nat_cmp-IsAntisymmetric}
use Rattle.shared_lemmas.proofs.Pairs.{pairs_both, pairs_by_places, pairs_by_recursion, pairs_map, pairs_weaker}
use Rattle.jass_base.specs.CiffViews.{list_data}
use Rattle.jass_base.specs.Lists.{DifferInTerm}
use Rattle.jass_base.specs.declared.postings_list.PostingsList.{PostingsList}
use Rattle.asked_lists.specs.Asked.{AnswerAlike, asked_lists, asked_of, is_asked}
use Rattle.asked_lists.proofs.Alike.{asked_term, asked_terms_answer_alike}
use Rattle.asked_lists.proofs.Below.{AreByTerm, Bits, BytesRise, CollectionData, DocData, IndexData, ListData, QueryTerm, Range, Raw, Rule, TermData, ascends_pairs, collection_index, empty_range, impact_of, index_of, index_with, lengths_of, list_term, lists_in_use}
use Rattle.asked_lists.proofs.Below.{numbered_flat, pairs_sorted, postings_of, query_segments, range_of, sorted, sorted_ascends, sorted_is_permutation, total_of, weighted_postings, weights_of}
use Rattle.asked_lists.proofs.Lists.{filter_mapped, filter_turned, sorted_filter}

abbrev text_of : ListData → List ℕ
text_of l = l.term

abbrev pub term_cmp : ListData → ListData → Ordering
term_cmp a b = slice_cmp nat_cmp a.term b.term

term_total : IsTotalOrder term_cmp
term_total = on_total text_of nat_list_cmp_total

abbrev pub Differ : ListData → ListData → Type 0
Differ a b = a.term ≢ b.term

-- the lists of a collection in memory
pub data_differ : (lists : List PostingsList) → AllPairs DifferInTerm lists → AllPairs Differ (map list_data lists)
data_differ lists differ = pairs_by_places Differ (map list_data lists) (pairs_map Differ list_data lists (pairs_by_recursion DifferInTerm lists differ))

abbrev pub by_term : List ListData → List ListData
by_term lists = sorted term_cmp (lists_in_use lists)

rises : (a b : ListData) → (is_gt (term_cmp a b) ≡ false) × Differ a b → BytesRise a.term b.term
rises a b h = step (term_cmp a b) refl h.0 where
  step : (r : Ordering) → term_cmp a b ≡ r → is_gt r ≡ false → BytesRise a.term b.term
  step Less e k = ap is_lt e
  step Equal e k = absurd (h.1 (slice_cmp-IsAntisymmetric nat_cmp-IsAntisymmetric a.term b.term e))
  step Greater e k = cc

pub are_by_term : (c : CollectionData) → AllPairs Differ c.lists → AreByTerm c (by_term c.lists)
are_by_term c differ = record {
  same = IsPermutation-sym (lists_in_use c.lists) (by_term c.lists) (sorted_is_permutation term_cmp (lists_in_use c.lists));
  rising = pairs_by_places (λ (a b : ListData). BytesRise a.term b.term) (by_term c.lists)
      (pairs_weaker (λ a b. (is_gt (term_cmp a b) ≡ false) × Differ a b) (λ a b. BytesRise a.term b.term) rises (by_term c.lists)
      (pairs_both (λ a b. is_gt (term_cmp a b) ≡ false) Differ (by_term c.lists)
      (ascends_pairs term_cmp (by_term c.lists) (sorted_ascends term_cmp term_total (lists_in_use c.lists)))
      (pairs_sorted term_cmp Differ (λ x y other same. other (sym same)) (lists_in_use c.lists)
      (pairs_by_recursion Differ (lists_in_use c.lists) (AllPairs-filter Differ (λ (l : ListData). nat_lt 0 (length l.postings)) c.lists differ)))));
}

asked_by_term : (words : List (List ℕ)) (lists : List ListData) → by_term (asked_lists words lists) ≡ asked_lists words (by_term lists)
asked_by_term words lists =
    ap (sorted term_cmp) (filter_turned (λ (l : ListData). nat_lt 0 (length l.postings)) (λ (l : ListData). is_asked words l.term) lists)
    ∙ sym (sorted_filter term_cmp term_total (λ (l : ListData). is_asked words l.term) (lists_in_use lists))

-- the terms of some lists, with raw impacts
abbrev terms_with : Rule → List DocData → List ListData → List TermData
terms_with rule docs lists = map (list_term rule (lengths_of docs) (total_of (lengths_of docs)) Raw empty_range) lists

module _ (made : (c : CollectionData) (rule : Rule) (bits : Bits) (range : Range) (names : List (List ℕ)) (lists : List ListData) → AreByTerm c lists
    → ((w : ℕ) → impact_of bits range w ≡ impact_of bits (range_of (weights_of c rule)) w)
    → index_with names (index_of c rule bits) ≡ record { names = names; terms = map (list_term rule (lengths_of c.docs) (total_of (lengths_of c.docs)) bits range) lists })
    (raw : (range other : Range) (w : ℕ) → impact_of Raw range w ≡ impact_of Raw other w)
    (weighs : (index : IndexData) (query : List QueryTerm) → weighted_postings (numbered_flat index) query ≡ flat_map postings_of (query_segments index query)) where
  made_by_term : (c : CollectionData) (rule : Rule) → AllPairs Differ c.lists
      → collection_index rule Raw c ≡ record { names = map (λ (d : DocData). d.name) c.docs; terms = terms_with rule c.docs (by_term c.lists) }
  made_by_term c rule differ = made c rule Raw empty_range (map (λ (d : DocData). d.name) c.docs) (by_term c.lists) (are_by_term c differ) (λ w. raw empty_range (range_of (weights_of c rule)) w)

  pub asked_answer_alike : (c : CollectionData) (rule : Rule) (words : List (List ℕ)) → AllPairs Differ c.lists → AnswerAlike words (collection_index rule Raw (asked_of c words)) (collection_index rule Raw c)
  asked_answer_alike c rule words differ =
      subst (λ (one : IndexData). AnswerAlike words one (collection_index rule Raw c)) (sym fewer)
      (subst (λ (other : IndexData). AnswerAlike words (record { names = names; terms = filter (asked_term words) terms }) other) (sym (made_by_term c rule differ))
      (asked_terms_answer_alike weighs words names terms))
    where
      names : List (List ℕ)
      names = map (λ (d : DocData). d.name) c.docs

      terms : List TermData
      terms = terms_with rule c.docs (by_term c.lists)

      fewer : collection_index rule Raw (asked_of c words) ≡ record { names = names; terms = filter (asked_term words) terms }
      fewer = made_by_term (asked_of c words) rule (AllPairs-filter Differ (λ (l : ListData). is_asked words l.term) c.lists differ)
          ∙ ap (λ (ts : List TermData). (let index : IndexData = record { names = names; terms = ts } in index))
          (ap (terms_with rule c.docs) (asked_by_term words c.lists) ∙ sym (filter_mapped (asked_term words) (list_term rule (lengths_of c.docs) (total_of (lengths_of c.docs)) Raw empty_range) (by_term c.lists)))
