-- An index file has few bytes for each name, each list and each posting of its collection.
use Rattle.shared_lemmas.proofs.Common.{◌≡◌, ℕ, ◌+◌, ◌*◌, ◌≤◌, ◌^◌, List, [], ◌∷◌, map, filter, length, Bool, not, refl, sym, subst, arith, sum_by, nat_lt, AllPairs, AllPairs-filter, AllByRecursion, recursion_from_All, sum_by-cons, sum_by-filter_both, length-append, length-drop, length-map}
use Rattle.shared_lemmas.proofs.Lists.{all_filter, all_map, all_weaker}
use Rattle.shared_lemmas.proofs.Sums.{sum_map}
use Rattle.jass_base.proofs.Fitting.{list_fits}
use Rattle.jass_base.specs.CiffViews.{collection_data, doc_data, list_data}
use Rattle.jass_base.specs.Lists.{HasDocsBelow}
use Rattle.jass_base.specs.declared.collection.Collection.{Collection}
use Rattle.jass_base.specs.declared.postings_list.PostingsList.{PostingsList}
use Rattle.asked_lists.specs.Asked.{asked_of, is_asked}
use Rattle.asked_lists.specs.Bound.{file_bound}
use Rattle.asked_lists.proofs.Below.{AreByTerm, AreDocs, Bits, CollectionData, DocData, FitsList, IndexData, ListData, Range, Rule, SegmentData, TermData, TermHeads, all_sorted, chosen_heads, chosen_payload, chosen_payloads, chosen_terms, collection_index, file_length, impact_of, index_of, index_text, index_with, lengths_of, list_term, lists_in_use}
use Rattle.asked_lists.proofs.Below.{name_bytes, names_bytes, payloads_size, range_of, shared_with, table_payloads, term_postings, terms_bytes, total_of, weights_of}
use Rattle.asked_lists.proofs.ByTerm.{Differ, are_by_term, by_term, data_differ, term_cmp}
use Rattle.asked_lists.proofs.Segments.{as_many_postings, segments_have_docs}
use Rattle.index_write.proofs.Bounds.{Few, name_size, one_size}
use Rattle.index_write.specs.Chosen.{chosen_head}
use Rattle.ranking_model.proofs.Sorting.{sum_by-sorted}

-- ---- names

abbrev pub doc_bound : DocData → ℕ
doc_bound d = 4 + length d.name

names_size : (docs : List DocData) → length (names_bytes (map (λ (d : DocData). d.name) docs)) ≡ sum_by doc_bound docs
names_size [] = refl
names_size (d ∷ docs) = omega (arith, length-append (name_bytes d.name) (names_bytes (map (λ (d : DocData). d.name) docs)), name_size d.name, sum_by-cons doc_bound d docs, names_size docs)

-- ---- terms

abbrev docs_in : SegmentData → ℕ
docs_in s = length s.docs

abbrev HasDocs : ℕ → TermData → Type 0
HasDocs d t = AllByRecursion (λ (s : SegmentData). AreDocs d s.docs) t.segments

abbrev term_bound : TermData → ℕ
term_bound t = 8 + length t.term + 15 * term_postings t

segments_few : (d : ℕ) (segments : List SegmentData) → AllByRecursion (λ (s : SegmentData). AreDocs d s.docs) segments → length segments ≤ sum_by docs_in segments
segments_few d [] are = omega arith
segments_few d (s ∷ segments) are = let some = are.0.some in omega (arith, some, sum_by-cons docs_in s segments, segments_few d segments are.1)

payloads_few : Few → (d : ℕ) (segments : List SegmentData) → AllByRecursion (λ (s : SegmentData). AreDocs d s.docs) segments → length (chosen_payloads d segments) ≤ 4 * sum_by docs_in segments
payloads_few few d [] are = omega arith
payloads_few few d (s ∷ segments) are =
    omega (arith, few d s.docs are.0, length-append (chosen_payload d s) (chosen_payloads d segments), sum_by-cons docs_in s segments, payloads_few few d segments are.1)

terms_few : Few → (d : ℕ) (before : List ℕ) (terms : List TermData) → AllByRecursion (HasDocs d) terms → length (terms_bytes before (chosen_terms d terms)) + length (table_payloads d terms) ≤ sum_by term_bound terms
terms_few few d before [] are = omega arith
terms_few few d before (t ∷ terms) are =
    let first : TermHeads = record { term = t.term; heads = chosen_heads d t.segments } in
    let heads = one_size before first (terms_bytes t.term (chosen_terms d terms)) (length t.segments) (length-map t.segments (chosen_head d)) in
    let payloads = length-append (chosen_payloads d t.segments) (table_payloads d terms) in
    omega (arith, heads, payloads, length-drop (shared_with before t.term) t.term, segments_few d t.segments are.0, payloads_few few d t.segments are.0, sum_by-cons term_bound t terms, terms_few few d t.term terms are.1)

-- ---- lists

abbrev pub text_bound : ListData → ℕ
text_bound l = 8 + length l.term + 15 * length l.postings

pub filter_bound : {A : Type 0} (p : A → Bool) (f : A → ℕ) (xs : List A) → sum_by f (filter p xs) ≤ sum_by f xs
filter_bound p f xs = omega (arith, sum_by-filter_both p (λ x. not (p x)) (λ x. refl) f xs)

sorted_bound : (lists : List ListData) → sum_by text_bound (by_term lists) ≤ sum_by text_bound lists
sorted_bound lists = omega (arith, sum_by-sorted term_cmp text_bound (lists_in_use lists), filter_bound (λ (l : ListData). nat_lt 0 (length l.postings)) text_bound lists)

sorted_fit : (d : ℕ) (lists : List ListData) → AllByRecursion (FitsList d) lists → AllByRecursion (FitsList d) (by_term lists)
sorted_fit d lists fit = all_sorted term_cmp (FitsList d) (lists_in_use lists) (all_filter (FitsList d) (λ (l : ListData). nat_lt 0 (length l.postings)) lists fit)

module _ (rule : Rule) (lengths : List ℕ) (total : ℕ) (bits : Bits) (range : Range) where
  terms_bound : (lists : List ListData) → sum_by term_bound (map (list_term rule lengths total bits range) lists) ≡ sum_by text_bound lists
  terms_bound [] = refl
  terms_bound (l ∷ lists) =
      omega (arith, as_many_postings rule lengths total bits range l, sum_by-cons text_bound l lists, sum_by-cons term_bound (list_term rule lengths total bits range l) (map (list_term rule lengths total bits range) lists), terms_bound lists)

  terms_docs : (d : ℕ) → d ≤ 2 ^ 26 → (lists : List ListData) → AllByRecursion (FitsList d) lists → AllByRecursion (HasDocs d) (map (list_term rule lengths total bits range) lists)
  terms_docs d few [] fit = tt
  terms_docs d few (l ∷ lists) fit = (segments_have_docs rule lengths total bits range l d few fit.0, terms_docs d few lists fit.1)

-- ---- the file

-- the bytes that a collection's file has at most
abbrev pub data_bound : CollectionData → ℕ
data_bound c = 40 + sum_by doc_bound c.docs + sum_by text_bound c.lists

module _ (made : (c : CollectionData) (rule : Rule) (bits : Bits) (range : Range) (names : List (List ℕ)) (lists : List ListData) → AreByTerm c lists
    → ((w : ℕ) → impact_of bits range w ≡ impact_of bits (range_of (weights_of c rule)) w)
    → index_with names (index_of c rule bits) ≡ record { names = names; terms = map (list_term rule (lengths_of c.docs) (total_of (lengths_of c.docs)) bits range) lists })
    (text : (index : IndexData) → length (index_text index) ≡ file_length index.names (chosen_terms (length index.names) index.terms))
    (sizes : (d : ℕ) (terms : List TermData) → length (table_payloads d terms) ≡ payloads_size (chosen_terms d terms))
    (few : Few) where
  pub file_few : (c : CollectionData) (rule : Rule) (bits : Bits) → length c.docs ≤ 2 ^ 26 → AllByRecursion (FitsList (length c.docs)) c.lists → AllPairs Differ c.lists
      → length (index_text (collection_index rule bits c)) ≤ data_bound c
  file_few c rule bits small fit differ = subst (λ (index : IndexData). length (index_text index) ≤ data_bound c) (sym is) bound where
    names : List (List ℕ)
    names = map (λ (d : DocData). d.name) c.docs

    range : Range
    range = range_of (weights_of c rule)

    term_of : ListData → TermData
    term_of = list_term rule (lengths_of c.docs) (total_of (lengths_of c.docs)) bits range

    terms : List TermData
    terms = map term_of (by_term c.lists)

    is : collection_index rule bits c ≡ record { names = names; terms = terms }
    is = made c rule bits range names (by_term c.lists) (are_by_term c differ) (λ w. refl)

    as_many : length c.docs ≡ length names
    as_many = sym (length-map c.docs _)

    docs : AllByRecursion (HasDocs (length names)) terms
    docs = subst (λ (d : ℕ). AllByRecursion (HasDocs d) terms) as_many (terms_docs rule (lengths_of c.docs) (total_of (lengths_of c.docs)) bits range (length c.docs) small (by_term c.lists) (sorted_fit (length c.docs) c.lists fit))

    bound : length (index_text (record { names = names; terms = terms })) ≤ data_bound c
    bound =
        omega (
          arith,
          text (record { names = names; terms = terms }),
          sizes (length names) terms,
          names_size c.docs,
          terms_few few (length names) [] terms docs,
          terms_bound rule (lengths_of c.docs) (total_of (lengths_of c.docs)) bits range (by_term c.lists),
          sorted_bound c.lists,
        )

  -- the same of a collection in memory, and of its lists that some words ask for
  module _ (one : Collection) where
    abbrev plain : CollectionData
    plain = collection_data one

    small : length plain.docs ≤ 2 ^ 26
    small = omega (arith, one.few_docs, length-map one.docs doc_data)

    fit : AllByRecursion (FitsList (length plain.docs)) plain.lists
    fit = subst (λ (d : ℕ). AllByRecursion (FitsList d) plain.lists) (sym (length-map one.docs doc_data))
        (all_map (FitsList (length one.docs)) list_data one.lists
        (all_weaker (HasDocsBelow (length one.docs)) (λ (l : PostingsList). FitsList (length one.docs) (list_data l)) (list_fits (length one.docs)) one.lists
        (recursion_from_All (HasDocsBelow (length one.docs)) one.lists one.docs_below)))

    rooms : data_bound plain ≡ file_bound one
    rooms = omega (arith, sum_map doc_bound doc_data one.docs, sum_map text_bound list_data one.lists)

    pub all_few : (rule : Rule) (bits : Bits) → length (index_text (collection_index rule bits (collection_data one))) ≤ file_bound one
    all_few rule bits = omega (arith, rooms, file_few plain rule bits small fit (data_differ one.lists one.terms_differ))

    pub asked_few : (rule : Rule) (bits : Bits) (words : List (List ℕ))
        → length (index_text (collection_index rule bits (asked_of (collection_data one) words))) ≤ file_bound one
    asked_few rule bits words =
        let test : ListData → Bool = λ (l : ListData). is_asked words l.term in
        omega (
          arith,
          rooms,
          filter_bound test text_bound plain.lists,
          file_few (asked_of plain words) rule bits small (all_filter (FitsList (length plain.docs)) test plain.lists fit) (AllPairs-filter Differ test plain.lists (data_differ one.lists one.terms_differ)),
        )
