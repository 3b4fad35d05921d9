-- The lists' entries, list by list in the order of terms, are the one sorted list of the definition.
use Rattle.shared_lemmas.proofs.Common.{◌≡◌, ℕ, suc, ◌≤◌, List, [], ◌∷◌, map, filter, length, Bool, true, false, refl, sym, ap, ◌∙◌, subst, arith, All, AllPairs, AllByRecursion, flat_map, is_gt, is_lt, nat_cmp, slice_cmp, nat_tests, length-map, recursion_from_All, All-from_recursion}
use Rattle.shared_lemmas.proofs.Common.{IsPermutation-sym, AllPairs-filter}
use Rattle.shared_lemmas.proofs.Pairs.{Pairs, pairs_by_recursion, pairs_by_places, pairs_weaker, pairs_both, pairs_map, pairs_unmap}
use Rattle.shared_lemmas.proofs.Lists.{all_filter, filter_passes, all_weaker}
use Rattle.impact_segments.proofs.Below.{Collection, DocRecord, Posting, PostingsList, TermSegments, DifferInTerm, IsName, IsText, RisesTo, Rule, Bits, Range, impact_of, range_of, Entry, sorted, entry_cmp, all_sorted, sorted_ascends, sorted_is_permutation, pairs_sorted, length_sorted}
use Rattle.impact_segments.proofs.Below.{ascends_pairs, collection_data, term_data}
use Rattle.index_model.specs.Flat as model
use Rattle.impact_segments.proofs.Data.{flat_same, index_same}
use Rattle.impact_segments.specs.Collections.{index_of}
use Rattle.impact_segments.specs.Private.Weighed.{lengths_in, total_length, posting_weight, list_weights, list_entries}
use Rattle.impact_segments.specs.Private.Held.{flat_of_terms}
use Rattle.impact_segments.specs.Private.Listed.{has_postings, term_cmp}
use Rattle.impact_segments.proofs.ByTerm.{by_term, none_of, own_term, text_cmp}
use Rattle.impact_segments.proofs.Orders.{term_total, strictly}

-- ---- the lists in order

filter_shorter : {A : Type 0} (q : A → Bool) (xs : List A) → length (filter q xs) ≤ length xs
filter_shorter q [] = omega arith
filter_shorter {A} q (x ∷ xs) = step (q x) refl (filter_shorter q xs) where
  step : (b : Bool) → q x ≡ b → length (filter q xs) ≤ length xs → length (filter q (x ∷ xs)) ≤ suc (length xs)
  step true e rest = rw e (omega arith)
  step false e rest = rw e (omega arith)

pub listed_all : (P : PostingsList → Type 0) (lists listed : List PostingsList) → listed ≡ sorted term_cmp (filter has_postings lists) → All P lists → All P listed
listed_all P lists listed is h =
    let Q : List PostingsList → Type 0 = λ (l : List PostingsList). All P l in
    subst Q (sym is) (All-from_recursion P (sorted term_cmp (filter has_postings lists)) (all_sorted term_cmp P (filter has_postings lists) (all_filter P has_postings lists (recursion_from_All P lists h))))

pub listed_some : (lists listed : List PostingsList) → listed ≡ sorted term_cmp (filter has_postings lists) → All (λ (l : PostingsList). 1 ≤ length l.postings) listed
listed_some lists listed is =
    let P : PostingsList → Type 0 = λ (l : PostingsList). 1 ≤ length l.postings in
    let Q : List PostingsList → Type 0 = λ (l : List PostingsList). All P l in
    subst Q (sym is) (All-from_recursion P (sorted term_cmp (filter has_postings lists)) (all_sorted term_cmp P (filter has_postings lists)
    (all_weaker (λ (l : PostingsList). has_postings l ≡ true) P (λ l h. grind (arith, nat_tests)) (filter has_postings lists) (filter_passes has_postings lists))))

pub listed_shorter : (lists listed : List PostingsList) → listed ≡ sorted term_cmp (filter has_postings lists) → length listed ≤ length lists
listed_shorter lists listed is =
    let size : length listed ≡ length (filter has_postings lists) = ap length is ∙ length_sorted term_cmp (filter has_postings lists) in
    let short : length (filter has_postings lists) ≤ length lists = filter_shorter has_postings lists in
    omega (arith, size, short)

abbrev Rises : PostingsList → PostingsList → Type 0
Rises a b = is_lt (text_cmp a.term b.term) ≡ true

listed_rises : (lists : List PostingsList) → AllPairs DifferInTerm lists → Pairs Rises (sorted term_cmp (filter has_postings lists))
listed_rises lists differ =
    let some : List PostingsList = filter has_postings lists in
    let apart : Pairs DifferInTerm (sorted term_cmp some) = pairs_sorted term_cmp DifferInTerm (λ a b n e. n (sym e)) some (pairs_by_recursion DifferInTerm some (AllPairs-filter DifferInTerm has_postings lists differ)) in
    pairs_weaker (λ a b. (is_gt (term_cmp a b) ≡ false) × DifferInTerm a b) Rises (λ a b h. strictly a.term b.term h.0 h.1) (sorted term_cmp some)
    (pairs_both (λ a b. is_gt (term_cmp a b) ≡ false) DifferInTerm (sorted term_cmp some) (ascends_pairs term_cmp (sorted term_cmp some) (sorted_ascends term_cmp term_total some)) apart)

pub terms_rise : (lists listed : List PostingsList) (terms : List TermSegments) → AllPairs DifferInTerm lists → listed ≡ sorted term_cmp (filter has_postings lists)
    → map (λ (t : TermSegments). t.term) terms ≡ map (λ (l : PostingsList). l.term) listed → AllPairs RisesTo terms
terms_rise lists listed terms differ is texts =
    let P : List PostingsList → Type 0 = λ (l : List PostingsList). Pairs Rises l in
    let Q : List (List ℕ) → Type 0 = λ (l : List (List ℕ)). Pairs (λ (s t : List ℕ). is_lt (text_cmp s t) ≡ true) l in
    pairs_by_places RisesTo terms (pairs_unmap (λ (s t : List ℕ). is_lt (text_cmp s t) ≡ true) (λ (t : TermSegments). t.term) terms
    (subst Q (sym texts) (pairs_map (λ (s t : List ℕ). is_lt (text_cmp s t) ≡ true) (λ (l : PostingsList). l.term) listed (subst P (sym is) (listed_rises lists differ)))))

-- ---- the entries

module _ (rule : Rule) (docs : List DocRecord) (bits : Bits) (range : Range) where
  abbrev E : PostingsList → List (Entry (List ℕ))
  E list = list_entries rule docs bits range list

  pub one_index : (lists : List PostingsList) → AllPairs DifferInTerm lists
      → flat_map (λ (l : PostingsList). sorted (entry_cmp (slice_cmp nat_cmp)) (E l)) (sorted term_cmp (filter has_postings lists)) ≡ sorted (entry_cmp (slice_cmp nat_cmp)) (flat_map E lists)
  one_index lists differ =
      let some : List PostingsList = filter has_postings lists in
      by_term (λ (l : PostingsList). l.term) E (λ l. own_term rule (lengths_in docs) (total_length docs) bits range l.term l.postings) has_postings
      (λ l h. none_of _ l.postings h) lists (sorted term_cmp some) (IsPermutation-sym some (sorted term_cmp some) (sorted_is_permutation term_cmp some))
      (listed_rises lists differ)

-- ranges that give the same impacts give the same entries
pub same_entries : (rule : Rule) (docs : List DocRecord) (bits : Bits) (range other : Range) → ((w : ℕ) → impact_of bits range w ≡ impact_of bits other w) → (list : PostingsList) → list_entries rule docs bits range list ≡ list_entries rule docs bits other list
same_entries rule docs bits range other same list i = map (λ (p : Posting). record { term = list.term; doc = p.doc; impact = same (posting_weight rule docs list p) i }) list.postings

-- ---- the names

pub all_names : (docs : List DocRecord) (names : List (List ℕ)) → names ≡ map (λ (d : DocRecord). d.name) docs → All IsName names
all_names docs names is =
    let P : List (List ℕ) → Type 0 = λ (l : List (List ℕ)). All IsName l in
    subst P (sym is) (All-from_recursion IsName (map (λ (d : DocRecord). d.name) docs) (each docs))
  where
    each : (ds : List DocRecord) → AllByRecursion IsName (map (λ (d : DocRecord). d.name) ds)
    each [] = tt
    each (d ∷ ds) = (d.name_fits, each ds)

pub all_text : (docs : List DocRecord) (names : List (List ℕ)) → names ≡ map (λ (d : DocRecord). d.name) docs → All IsText names
all_text docs names is =
    let P : List (List ℕ) → Type 0 = λ (l : List (List ℕ)). All IsText l in
    subst P (sym is) (All-from_recursion IsText (map (λ (d : DocRecord). d.name) docs) (each docs))
  where
    each : (ds : List DocRecord) → AllByRecursion IsText (map (λ (d : DocRecord). d.name) ds)
    each [] = tt
    each (d ∷ ds) = (d.name_is_text, each ds)

-- ---- the index

pub built_flat : (collection : Collection) (rule r : Rule) (bits : Bits) (docs : List DocRecord) (lists : List PostingsList) (range : Range) (listed : List PostingsList) (terms : List TermSegments)
    → r ≡ rule → docs ≡ collection.docs → lists ≡ collection.lists
    → ((w : ℕ) → impact_of bits range w ≡ impact_of bits (range_of (flat_map (list_weights r docs) lists)) w)
    → listed ≡ sorted term_cmp (filter has_postings collection.lists)
    → flat_of_terms terms ≡ flat_map (λ (l : PostingsList). sorted (entry_cmp (slice_cmp nat_cmp)) (list_entries r docs bits range l)) listed
    → model.flat_of_terms (map term_data terms) ≡ index_of (collection_data collection) rule bits
built_flat collection rule r bits docs lists range listed terms rule_is docs_is lists_is same listed_is flat =
    sym (flat_same terms) ∙ flat
    ∙ ap (flat_map (λ (l : PostingsList). sorted (entry_cmp (slice_cmp nat_cmp)) (list_entries r docs bits range l))) listed_is
    ∙ one_index r docs bits range collection.lists collection.terms_differ
    ∙ (λ i. sorted (entry_cmp (slice_cmp nat_cmp)) (flat_map (λ (l : PostingsList). same_entries r docs bits range (range_of (flat_map (list_weights r docs) lists)) same l i) collection.lists))
    ∙ (λ i. sorted (entry_cmp (slice_cmp nat_cmp)) (flat_map (list_entries (rule_is i) (docs_is i) bits (range_of (flat_map (list_weights (rule_is i) (docs_is i)) (lists_is i)))) collection.lists))
    ∙ index_same collection rule bits

pub as_many : (terms : List TermSegments) (listed : List PostingsList) → map (λ (t : TermSegments). t.term) terms ≡ map (λ (l : PostingsList). l.term) listed → length terms ≡ length listed
as_many terms listed texts = sym (length-map terms (λ (t : TermSegments). t.term)) ∙ ap length texts ∙ length-map listed (λ (l : PostingsList). l.term)
