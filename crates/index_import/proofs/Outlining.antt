-- What the first pass kept, put in order.
use Rattle.shared_lemmas.proofs.Common.{◌≡◌, ◌≢◌, ℕ, ◌+◌, ◌<◌, ◌≤◌, ◌^◌, Bool, true, false, cond, List, [], ◌∷◌, map, length, filter, get_or, refl, sym, ap, subst, ◌∙◌, arith, All, AllPairs, Contains, Decides, nat_eq, nat_lt, not, IsPermutation, IsSortedBy, bytes_eq, IsStrictWeakOrder, slice_cmp}
use Rattle.shared_lemmas.proofs.Common.{AllByRecursion, AllZip, is_gt, is_lt, nat_cmp, ordering_reverse, Ordering, Less, Equal, Greater, Decides-eqb, Decides-like, same_from_decides, nat_list_cmp_total, get_or_default, length-map, All-filter, All-from_recursion, All-map, length-filter_both}
use Rattle.shared_lemmas.proofs.Common.{sum_by-filter_both, AllPairs-filter, All-permutation, IsPermutation-map, IsPermutation-sym, length_permutation, ranks_by, sorted_far, sum_by-IsPermutation, sum_by-cons, IsDistinct-IsPermutation, AllPairs-from_IsDistinct, IsDistinct-from_AllPairs}
use Rattle.shared_lemmas.proofs.Common.{bytes_eq-Decides, is_utf8-from_IsUtf8}
use Rattle.std.specs.List.{sum_by}
use Rattle.index_import.proofs.Below.{ListData, IsName, IsText, BytesRise, IsKeptList, by_number, collection_of, NumberedDoc, KeptList, postings_kept, terms_kept, HasKept, WalkView, lengths_of, total_of, all_map_at, strictly}
use Rattle.shared_lemmas.proofs.Pairs.{pairs_by_places, pairs_by_recursion, pairs_map, AllPairs-unmap}
use Rattle.index_import.specs.Private.KeptDocs.{AreInOrder, lengths_in, names_in}
use Rattle.index_import.specs.Private.Outlining.{IsOutline, IsOutlined, earlier, has_postings, list_there, lists_there, names_of}
use Rattle.index_import.specs.Private.Surveying.{AreGiven, AreKept, HoldsMost, IsSurvey, KeepsAll, has_some, kept_entry}
use Rattle.index_import.specs.declared.list_entry.ListEntry.{ListEntry}
use Rattle.index_import.proofs.Ready.{list_there_is}

-- ---- facts on all, and on pairs

pub mapped : {A B : Type 0} (R : B → B → Type 0) (f : A → B) (xs : List A) → AllPairs (λ (x y : A). R (f x) (f y)) xs → AllPairs R (map f xs)
mapped {A} R f xs pairs = pairs_by_places R (map f xs) (pairs_map R f xs (pairs_by_recursion (λ (x y : A). R (f x) (f y)) xs pairs))

-- what differs still does when it changes places
module _ {K : Type 0} (eq : K → K → Bool) (same : (x y : K) → Decides (eq x y) (x ≡ y)) where
  flips : (x y : K) → eq x y ≡ eq y x
  flips x y = same_from_decides (eq x y) (eq y x) (same x y) (Decides-like (eq y x) (λ is. sym is) (λ is. sym is) (same y x))

  moved : (xs ys : List K) → IsPermutation xs ys → AllPairs (λ (x y : K). x ≢ y) xs → AllPairs (λ (x y : K). x ≢ y) ys
  moved xs ys order differ = AllPairs-from_IsDistinct same ys (IsDistinct-IsPermutation eq flips xs ys order (IsDistinct-from_AllPairs same xs differ))

-- ---- the documents

module _ (docs ordered : List NumberedDoc) (order : AreInOrder docs ordered) where
  as_many_docs : length ordered ≡ length docs
  as_many_docs = length_permutation docs ordered order.same

  as_many_names : length (names_in ordered) ≡ length docs
  as_many_names = length-map ordered (λ (r : NumberedDoc). r.doc.name) ∙ as_many_docs

  pub as_many_lengths : length (lengths_in ordered) ≡ length docs
  as_many_lengths = length-map ordered (λ (r : NumberedDoc). r.doc.length) ∙ as_many_docs

  each_name : All IsName (names_in ordered)
  each_name = All-map IsName (λ (r : NumberedDoc). r.doc.name) ordered (λ i d low. (order.fit i d low).name)

  each_text : All IsText (names_in ordered)
  each_text = All-map IsText (λ (r : NumberedDoc). r.doc.name) ordered (λ i d low. is_utf8-from_IsUtf8 (get_or ordered i d).doc.name (order.fit i d low).text)

  each_length : All (λ n. n < 2 ^ 31) (lengths_in ordered)
  each_length = All-map (λ n. n < 2 ^ 31) (λ (r : NumberedDoc). r.doc.length) ordered (λ i d low. (order.fit i d low).length)

-- ---- the lists that have postings

abbrev term_of : ListEntry → List ℕ
term_of e = e.term

abbrev count_of : ListEntry → ℕ
count_of e = e.place.count

pub earlier_orders : IsStrictWeakOrder earlier
earlier_orders = ranks_by nat_list_cmp_total term_of

not_after : (s t : List ℕ) → is_lt (slice_cmp nat_cmp t s) ≡ false → is_gt (slice_cmp nat_cmp s t) ≡ false
not_after s t none = ap is_gt (nat_list_cmp_total.antisymm s t) ∙ turned (slice_cmp nat_cmp t s) none
  where
    turned : (o : Ordering) → is_lt o ≡ false → is_gt (ordering_reverse o) ≡ false
    turned Less is = absurd cc
    turned Equal is = refl
    turned Greater is = refl

-- terms that differ and are sorted rise
rises : (lists : List ListEntry) → IsSortedBy earlier lists → AllPairs (λ (a b : ListEntry). a.term ≢ b.term) lists → AllPairs (λ (a b : ListEntry). BytesRise a.term b.term) lists
rises lists sorted differ i j d less low =
    strictly (get_or lists i d).term (get_or lists j d).term
    (not_after (get_or lists i d).term (get_or lists j d).term (sorted_far earlier earlier_orders lists sorted i j d (omega (arith, less)) low))
    (differ i j d less low)

count_again : (lists : List ListEntry) → sum_by count_of lists ≡ postings_kept (map kept_entry lists)
count_again [] = refl
count_again (e ∷ lists) = sum_by-cons count_of e lists ∙ ap (λ n. e.place.count + n) (count_again lists) ∙ sym (sum_by-cons (λ (k : KeptList). k.count) (kept_entry e) (map kept_entry lists))

fewer : (kept : List KeptList) → length (filter has_some kept) ≤ length kept
fewer kept = omega (arith, length-filter_both has_some (λ (k : KeptList). not (has_some k)) (λ k. refl) kept)

no_more_postings : (kept : List KeptList) → postings_kept (filter has_some kept) ≤ postings_kept kept
no_more_postings kept = omega (arith, sum_by-filter_both has_some (λ (k : KeptList). not (has_some k)) (λ k. refl) (λ (k : KeptList). k.count) kept)

module _ (kept : List KeptList) (lists : List ListEntry) (same : map kept_entry lists ≡ filter has_some kept) where
  -- what holds of each kept list holds of each entry
  of_entries : (P : KeptList → Type 0) → All P kept → All (λ (e : ListEntry). P (kept_entry e)) lists
  of_entries P all i d low = all_map_at P kept_entry lists i d low (subst (All P) (sym same) (All-filter has_some P kept all))

  are_given : AreGiven kept lists
  are_given i d low =
      let e : ListEntry = get_or lists i d in
      (kept_entry e, of_entries (Contains kept) (λ k x inside. (k, inside, get_or_default kept k (get_or kept k x) x inside)) i d low, refl, refl)

  few_entries : length lists ≤ length kept
  few_entries = omega (arith, length-map lists kept_entry, ap length same, fewer kept)

  few_counted : sum_by count_of lists ≤ postings_kept kept
  few_counted = omega (arith, count_again lists, ap postings_kept same, no_more_postings kept)

  entries_differ : AllPairs (λ (a b : List ℕ). a ≢ b) (terms_kept kept) → AllPairs (λ (a b : List ℕ). a ≢ b) (map term_of lists)
  entries_differ differ =
      let R : KeptList → KeptList → Type 0 = λ (a b : KeptList). a.term ≢ b.term in
      let each : AllPairs R (map kept_entry lists) = subst (AllPairs R) (sym same) (AllPairs-filter R has_some kept (AllPairs-unmap (λ (a b : List ℕ). a ≢ b) (λ (k : KeptList). k.term) kept differ)) in
      mapped (λ (a b : List ℕ). a ≢ b) term_of lists (AllPairs-unmap R kept_entry lists each)

-- ---- the outline, whether or not the content is told

pub outlined : (w : WalkView) (docs ordered : List NumberedDoc) (first lists : List ListEntry) (lengths : List ℕ) (total : ℕ)
    → AreKept w docs first → AreInOrder docs ordered → lengths ≡ lengths_in ordered → IsPermutation first lists → IsSortedBy earlier lists → total ≡ total_of lengths → IsOutlined w (names_in ordered) lengths total lists
outlined w docs ordered first lists lengths total kept in_order same order sorted is =
    let many : length lengths ≡ length docs = ap length same ∙ as_many_lengths docs ordered in_order in
    record {
      names_are = record {
        few = omega (arith, as_many_names docs ordered in_order, kept.docs_are, kept.ranges.few_docs);
        each = each_name docs ordered in_order;
        text = each_text docs ordered in_order;
      };
      as_many = as_many_names docs ordered in_order ∙ kept.docs_are;
      docs = many ∙ kept.docs_are;
      few = omega (arith, many, kept.docs_are, kept.ranges.few_docs);
      small = subst (All (λ n. n < 2 ^ 31)) (sym same) (each_length docs ordered in_order);
      total_is = is;
      given = All-permutation (λ (e : ListEntry). HasKept w.kept e.place.at e.place.count) first lists order (are_given w.kept first kept.lists_are);
      few_lists = omega (arith, length_permutation first lists order, few_entries w.kept first kept.lists_are, kept.ranges.lists_given, kept.ranges.few_lists);
      rising = rises lists sorted (AllPairs-unmap (λ (a b : List ℕ). a ≢ b) term_of lists (moved bytes_eq bytes_eq-Decides (map term_of first) (map term_of lists) (IsPermutation-map term_of first lists order) (entries_differ w.kept first kept.lists_are kept.differ)));
      postings = omega (arith, sum_by-IsPermutation count_of first lists order, few_counted w.kept first kept.lists_are, kept.ranges.few_postings);
      keep_all = All-permutation (KeepsAll w.docs) first lists order kept.keep_all;
    }

-- ---- the outline of a content that is told

-- a list that is kept is the one at its place
kept_there : (content : List ℕ) (docs : ℕ) (kept : List KeptList) (lists : List ListData) → AllZip (IsKeptList content docs) kept lists → AllByRecursion (λ (k : KeptList). IsKeptList content docs k (list_there content docs k.at)) kept
kept_there content docs [] [] each = tt
kept_there content docs [] (l ∷ lists) each = absurd each
kept_there content docs (k ∷ kept) [] each = absurd each
kept_there content docs (k ∷ kept) (l ∷ lists) each = (subst (IsKeptList content docs k) (list_there_is content docs k.at l each.0.there) each.0, kept_there content docs kept lists each.1)

-- the kept lists with postings are the lists with postings
lists_again : (content : List ℕ) (docs : ℕ) (kept : List KeptList) (lists : List ListData) → AllZip (IsKeptList content docs) kept lists → map (λ (k : KeptList). list_there content docs k.at) (filter has_some kept) ≡ filter has_postings lists
lists_again content docs [] [] each = refl
lists_again content docs [] (l ∷ lists) each = absurd each
lists_again content docs (k ∷ kept) [] each = absurd each
lists_again content docs (k ∷ kept) (l ∷ lists) each =
    go (has_some k) (has_postings l) (ap (nat_lt 0) each.0.count) (lists_again content docs kept lists each.1)
  where
    at_place : KeptList → ListData
    at_place x = list_there content docs x.at

    go : (a b : Bool) → a ≡ b → map at_place (filter has_some kept) ≡ filter has_postings lists
        → map at_place (cond a (k ∷ filter has_some kept) (filter has_some kept)) ≡ cond b (l ∷ filter has_postings lists) (filter has_postings lists)
    go true true is again = ap (λ (x : ListData). x ∷ map at_place (filter has_some kept)) (sym (list_there_is content docs k.at l each.0.there)) ∙ ap (λ (ls : List ListData). l ∷ ls) again
    go true false is again = absurd cc
    go false true is again = absurd cc
    go false false is again = again

names_again : (ordered : List NumberedDoc) → names_of (map (λ (r : NumberedDoc). r.doc) ordered) ≡ names_in ordered
names_again [] = refl
names_again (r ∷ ordered) = ap (λ (names : List (List ℕ)). r.doc.name ∷ names) (names_again ordered)

lengths_again : (ordered : List NumberedDoc) → lengths_of (map (λ (r : NumberedDoc). r.doc) ordered) ≡ lengths_in ordered
lengths_again [] = refl
lengths_again (r ∷ ordered) = ap (λ (lengths : List ℕ). r.doc.length ∷ lengths) (lengths_again ordered)

places_again : (content : List ℕ) (docs : ℕ) (lists : List ListEntry) → lists_there content docs lists ≡ map (λ (k : KeptList). list_there content docs k.at) (map kept_entry lists)
places_again content docs [] = refl
places_again content docs (e ∷ lists) = ap (λ (ls : List ListData). list_there content docs e.place.at ∷ ls) (places_again content docs lists)

module _ (law : (records ordered : List NumberedDoc) → IsPermutation ordered records → AllPairs (λ (a b : NumberedDoc). a.number < b.number) ordered → by_number records ≡ ordered) where
  -- records whose numbers differ, in order
  in_order_again : (docs ordered : List NumberedDoc) → AreInOrder docs ordered → AllPairs (λ (a b : NumberedDoc). a.number ≢ b.number) docs → by_number docs ≡ ordered
  in_order_again docs ordered order once =
      let number : NumberedDoc → ℕ = λ (r : NumberedDoc). r.number in
      let apart : AllPairs (λ (a b : NumberedDoc). a.number ≢ b.number) ordered
      = AllPairs-unmap (λ (a b : ℕ). a ≢ b) number ordered (moved nat_eq Decides-eqb (map number docs) (map number ordered) (IsPermutation-map number docs ordered order.same) (mapped (λ (a b : ℕ). a ≢ b) number docs once)) in
      law docs ordered (IsPermutation-sym docs ordered order.same) (λ i j d less low. omega (arith, order.rising i j d less low, apart i j d less low))

  pub outline_is : (content : List ℕ) (w : WalkView) (docs ordered : List NumberedDoc) (first lists : List ListEntry) (lengths : List ℕ)
      → AreKept w docs first → AreInOrder docs ordered → lengths ≡ lengths_in ordered → IsPermutation first lists → IsSurvey content w docs first → IsOutline content w.docs (names_in ordered) lengths lists
  outline_is content w docs ordered first lists lengths kept in_order same order survey =
      let records : by_number survey.parts.records ≡ ordered = ap by_number survey.records ∙ in_order_again docs ordered in_order survey.once in
      let each : All (λ (k : KeptList). IsKeptList content w.docs k (list_there content w.docs k.at)) w.kept
      = All-from_recursion (λ (k : KeptList). IsKeptList content w.docs k (list_there content w.docs k.at)) w.kept (kept_there content w.docs w.kept survey.parts.lists survey.lists) in
      let there : lists_there content w.docs first ≡ filter has_postings survey.parts.lists
      = places_again content w.docs first ∙ ap (map (λ (k : KeptList). list_there content w.docs k.at)) kept.lists_are ∙ lists_again content w.docs w.kept survey.parts.lists survey.lists in
      record {
        collection = collection_of survey.parts;
        read = survey.read;
        names_are = sym (names_again ordered) ∙ sym (ap (λ (rs : List NumberedDoc). names_of (map (λ (r : NumberedDoc). r.doc) rs)) records);
        lengths_are = same ∙ sym (lengths_again ordered) ∙ sym (ap (λ (rs : List NumberedDoc). lengths_of (map (λ (r : NumberedDoc). r.doc) rs)) records);
        each = All-permutation (λ (e : ListEntry). IsKeptList content w.docs (kept_entry e) (list_there content w.docs e.place.at)) first lists order
            (of_entries w.kept first kept.lists_are (λ (k : KeptList). IsKeptList content w.docs k (list_there content w.docs k.at)) each);
        most = All-permutation (HoldsMost content w.docs) first lists order survey.most;
        all = subst (IsPermutation (lists_there content w.docs lists)) there
            (IsPermutation-map (λ (e : ListEntry). list_there content w.docs e.place.at) lists first (IsPermutation-sym first lists order));
      }
