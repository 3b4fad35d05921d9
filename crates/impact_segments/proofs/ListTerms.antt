-- The terms of lists make the index of their collection.
use Rattle.shared_lemmas.proofs.Common.{◌≡◌, ℕ, ◌≤◌, List, [], map, length, Bool, true, sym, ap, ◌∙◌, arith, AllPairs, IsPermutation, nat_lt, AllByRecursion, flat_map, slice_cmp, nat_tests, length-map, recursion_from_All, All-from_recursion, All-permutation, IsPermutation-sym, map-map}
use Rattle.std.proofs.Common.{nat_cmp}
use Rattle.shared_lemmas.proofs.Pairs.{pairs_by_recursion}
use Rattle.shared_lemmas.proofs.Lists.{filter_passes, all_weaker}
use Rattle.impact_segments.proofs.Below.{CollectionData, ListData, BytesRise, Posting, Rule, Bits, Range, impact_of, range_of, Entry, sorted, entry_cmp, with_entries, IndexData, TermData, sorted_map, length_sorted}
use Rattle.index_model.specs.Grouping.{index_with}
use Rattle.impact_segments.specs.Collections.{entries_in, index_of, lengths_of, total_of, weight_in, weights_of}
use Rattle.impact_segments.specs.ListTerms.{AreByTerm, list_segments, list_term, lists_in_use, segments_in}
use Rattle.impact_segments.specs.OneList.{pairs_in}
use Rattle.impact_segments.specs.Pairs.{pair_cmp, with_impact}
use Rattle.impact_segments.specs.declared.doc_impact.DocImpact.{DocImpact}
use Rattle.impact_segments.proofs.ByTerm.{by_term, none_of, own_term}
use Rattle.impact_segments.proofs.Grouped.{grouped, terms_there}
use Rattle.impact_segments.proofs.OneTerm.{same_order, under}

-- what holds of each list with postings
pub all_in_use : (P : ListData → Type 0) → ((l : ListData) → 1 ≤ length l.postings → P l) → (lists all : List ListData) → IsPermutation lists (lists_in_use all) → AllByRecursion P lists
all_in_use P each lists all moved =
    let q : ListData → Bool = λ (l : ListData). nat_lt 0 (length l.postings) in
    let used : AllByRecursion P (lists_in_use all) = all_weaker (λ (l : ListData). q l ≡ true) P (λ l h. each l (grind (arith, nat_tests))) (lists_in_use all) (filter_passes q all) in
    recursion_from_All P lists (All-permutation P (lists_in_use all) lists (IsPermutation-sym lists (lists_in_use all) moved) (All-from_recursion P (lists_in_use all) used))

module _ (rule : Rule) (lengths : List ℕ) (total : ℕ) (bits : Bits) (range : Range) where
  abbrev entries : ListData → List (Entry (List ℕ))
  entries l = entries_in rule lengths total bits range l.term l.postings

  abbrev pairs : ListData → List DocImpact
  pairs l = sorted pair_cmp (pairs_in rule lengths total bits range l.postings)

  in_order : (l : ListData) → sorted (entry_cmp (slice_cmp nat_cmp)) (entries l) ≡ map (under l.term) (pairs l)
  in_order l =
      ap (sorted (entry_cmp (slice_cmp nat_cmp))) (sym (map-map (under l.term) (λ (p : Posting). with_impact (impact_of bits range (weight_in rule lengths total (length l.postings) p)) p.doc) l.postings))
      ∙ sorted_map (under l.term) pair_cmp (entry_cmp (slice_cmp nat_cmp)) (same_order l.term) (pairs_in rule lengths total bits range l.postings)

  some_pairs : (l : ListData) → 1 ≤ length l.postings → 1 ≤ length (pairs l)
  some_pairs l some =
      let size : length (pairs l) ≡ length l.postings = length_sorted pair_cmp (pairs_in rule lengths total bits range l.postings) ∙ length-map l.postings _ in
      omega (arith, some, size)

  terms_by_lists : (lists all : List ListData) → IsPermutation lists (lists_in_use all) → AllPairs (λ (a b : ListData). BytesRise a.term b.term) lists
      → with_entries (sorted (entry_cmp (slice_cmp nat_cmp)) (flat_map entries all)) [] ≡ map (grouped pairs) lists
  terms_by_lists lists all moved rise =
      let rising = pairs_by_recursion (λ (a b : ListData). BytesRise a.term b.term) lists rise in
      let q : ListData → Bool = λ (l : ListData). nat_lt 0 (length l.postings) in
      ap (λ (es : List (Entry (List ℕ))). with_entries es [])
      (sym (by_term (λ (l : ListData). l.term) entries (λ l. own_term rule lengths total bits range l.term l.postings) q (λ l h. none_of _ l.postings h) all lists moved rising)
      ∙ (λ i. flat_map (λ (l : ListData). in_order l i) lists))
      ∙ terms_there pairs lists (all_in_use (λ (l : ListData). 1 ≤ length (pairs l)) some_pairs lists all moved) rising

-- ranges that give the same impacts give the same terms
same_terms : (rule : Rule) (lengths : List ℕ) (total : ℕ) (bits : Bits) (range other : Range) (lists : List ListData) → ((w : ℕ) → impact_of bits range w ≡ impact_of bits other w)
    → map (list_term rule lengths total bits range) lists ≡ map (grouped (pairs rule lengths total bits other)) lists
unfolding list_segments
same_terms rule lengths total bits range other lists same =
    λ i. map (λ (l : ListData).
    (let t : TermData = record { term = l.term; segments = segments_in (sorted pair_cmp (map (λ (p : Posting). with_impact (same (weight_in rule lengths total (length l.postings) p) i) p.doc) l.postings)) } in t)) lists

pub index_by_term : (c : CollectionData) (rule : Rule) (bits : Bits) (range : Range) (names : List (List ℕ)) (lists : List ListData) → AreByTerm c lists
    → ((w : ℕ) → impact_of bits range w ≡ impact_of bits (range_of (weights_of c rule)) w)
    → index_with names (index_of c rule bits) ≡ record { names = names; terms = map (list_term rule (lengths_of c.docs) (total_of (lengths_of c.docs)) bits range) lists }
unfolding index_with
index_by_term c rule bits range names lists are same =
    let lengths : List ℕ = lengths_of c.docs in
    let total : ℕ = total_of lengths in
    ap (λ (terms : List TermData). (let i : IndexData = record { names = names; terms = terms } in i))
    (terms_by_lists rule lengths total bits (range_of (weights_of c rule)) lists c.lists are.same are.rising
    ∙ sym (same_terms rule lengths total bits range (range_of (weights_of c rule)) lists same))
