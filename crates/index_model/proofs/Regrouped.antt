-- Any flat list makes an index: put together, its entries are terms that keep what terms keep, and these have the entries again.
use Rattle.shared_lemmas.proofs.Common.{◌≡◌, ◌≢◌, ◌⊎◌, ℕ, ◌==◌, ◌<◌, ◌≤◌, ◌^◌, true, false, List, [], ◌∷◌, ◌++◌, length, All, Contains, refl, sym, ap, ◌∙◌, subst, arith, inl, inr, AllByRecursion, recursion_from_All, All-from_recursion, cases_Bool, eqb-true, eqb-false}
use Rattle.shared_lemmas.proofs.Common.{Ordering, Less, Equal, Greater, is_gt, is_lt, nat_cmp, ordering_then, slice_cmp, nat_list_cmp_total, slice_cmp-IsAntisymmetric, nat_cmp-IsAntisymmetric, tied_itself, nat_tests}
use Rattle.std.specs.Str.{bytes_eq}
use Rattle.shared_lemmas.proofs.Lists.{all_weaker, all_both, all_parts, all_unmap}
use Rattle.shared_lemmas.proofs.Members.{In, in_from_contains, contains_from_in, all_contained}
use Rattle.shared_lemmas.proofs.Pairs.{Pairs, pairs_both, pairs_by_recursion, pairs_by_places, rising_pairs, rising_from_pairs}
use Rattle.shared_lemmas.proofs.Texts.{bytes_itself, bytes_same}
use Rattle.jass_base.proofs.ByteOrder.{bytes_rise_on}
use Rattle.jass_base.specs.Limits.{IsName, IsText}
use Rattle.jass_base.specs.Terms.{BytesRise}
use Rattle.ranking_model.specs.declared.entry.Entry.{Entry}
use Rattle.ranking_model.specs.Flat.{entry_cmp, IsFlat}
use Rattle.ranking_model.proofs.Orders.{entry_total}
use Rattle.ranking_model.proofs.Sorting.{ascends_pairs, ascends_sorted}
use Rattle.index_model.specs.Index.{SegmentData, TermData, IsSegment, IsTerm, IsWellFormed, FallsTo, SharesNoDocument, RisesTo}
use Rattle.index_model.specs.Flat.{segment_entries, term_entries, flat_of_terms, flat_of}
use Rattle.index_model.specs.Grouping.{with_posting, with_entry, with_entries, index_with}

abbrev TextEntry : Type 0
TextEntry = Entry (List ℕ)

entry_at : List ℕ → ℕ → ℕ → TextEntry
entry_at term doc impact = record { term = term; doc = doc; impact = impact }

-- ---- the entries again

posting_again : (term : List ℕ) (impact doc : ℕ) (segments : List SegmentData) → term_entries term (with_posting impact doc segments) ≡ entry_at term doc impact ∷ term_entries term segments
unfolding entry_at
posting_again term impact doc [] = refl
posting_again term impact doc (s ∷ segments) = elim (cases_Bool (impact == s.impact)) [
  | inl same ↦ rw same (ap (λ (n : ℕ). entry_at term doc n ∷ term_entries term (s ∷ segments)) (sym (eqb-true impact s.impact same)))
  | inr other ↦ rw other refl
]

entry_again : (e : TextEntry) (terms : List TermData) → flat_of_terms (with_entry e terms) ≡ e ∷ flat_of_terms terms
unfolding entry_at
entry_again e [] = refl
entry_again e (t ∷ terms) = elim (cases_Bool (bytes_eq e.term t.term)) [
  | inl same ↦ rw same (ap (λ (l : List TextEntry). l ++ flat_of_terms terms) (posting_again t.term e.impact e.doc t.segments)
      ∙ ap (λ (term : List ℕ). entry_at term e.doc e.impact ∷ flat_of_terms (t ∷ terms)) (sym (bytes_same e.term t.term same)))
  | inr other ↦ rw other refl
]

pub entries_again : (flat : List TextEntry) → flat_of_terms (with_entries flat []) ≡ flat
entries_again [] = refl
entries_again (e ∷ flat) = entry_again e (with_entries flat []) ∙ ap (λ (l : List TextEntry). e ∷ l) (entries_again flat)

-- ---- what an entry has of one behind it

abbrev Before : TextEntry → TextEntry → Type 0
Before e x = (is_gt (entry_cmp (slice_cmp nat_cmp) e x) ≡ false) × (e.term ≡ x.term → e.doc ≢ x.doc)

-- an impact and a document, and those of a later posting of the term
abbrev Behind : ℕ → ℕ → ℕ → ℕ → Type 0
Behind impact doc other later = ((other < impact) ⊎ ((other ≡ impact) × (doc < later))) × (doc ≢ later)

then_impact : (a b c d : ℕ) → is_gt (ordering_then (nat_cmp b a) (nat_cmp c d)) ≡ false → c ≢ d → (b < a) ⊎ ((b ≡ a) × (c < d))
then_impact a b c d after apart = by_impact (nat_cmp b a) refl where
  by_doc : b ≡ a → (r : Ordering) → nat_cmp c d ≡ r → is_gt r ≡ false → (b < a) ⊎ ((b ≡ a) × (c < d))
  by_doc same Less is after = inr (same, grind (arith, nat_tests, is))
  by_doc same Equal is after = absurd (apart (nat_cmp-IsAntisymmetric c d is))
  by_doc same Greater is after = absurd cc

  by_impact : (r : Ordering) → nat_cmp b a ≡ r → (b < a) ⊎ ((b ≡ a) × (c < d))
  by_impact Less is = inl (grind (arith, nat_tests, is))
  by_impact Equal is = by_doc (nat_cmp-IsAntisymmetric b a is) (nat_cmp c d) refl (rw is at after)
  by_impact Greater is = absurd (let g = rw is at after in cc)

same_term : (e x : TextEntry) → e.term ≡ x.term → Before e x → Behind e.impact e.doc x.impact x.doc
same_term e x same before =
    let tied = ap (slice_cmp nat_cmp e.term) (sym same) ∙ tied_itself nat_list_cmp_total e.term in
    let after = rw tied at before.0 in
    (then_impact e.impact x.impact e.doc x.doc after (before.1 same), before.1 same)

other_term : (e x : TextEntry) → bytes_eq e.term x.term ≡ false → Before e x → BytesRise e.term x.term
other_term e x other before = by_term (slice_cmp nat_cmp e.term x.term) refl where
  by_term : (r : Ordering) → slice_cmp nat_cmp e.term x.term ≡ r → BytesRise e.term x.term
  by_term Less is = ap is_lt is
  by_term Equal is = absurd (let same = slice_cmp-IsAntisymmetric nat_cmp-IsAntisymmetric e.term x.term is in let t = rw same at other in let u = bytes_itself x.term in cc)
  by_term Greater is = absurd (let after = rw is at before.0 in cc)

-- ---- the segments of a term

-- the posting is before all of these segments
abbrev BeforeAll : ℕ → ℕ → List SegmentData → Type 0
BeforeAll impact doc segments = AllByRecursion (λ (s : SegmentData). AllByRecursion (λ (later : ℕ). Behind impact doc s.impact later) s.docs) segments

not_there : (doc x : ℕ) (docs later : List ℕ) → AllByRecursion (λ (y : ℕ). doc ≢ y) later → (Contains docs x → ¬ Contains later x) → Contains (doc ∷ docs) x → ¬ Contains later x
not_there doc x docs later apart behind there = by_place (in_from_contains (doc ∷ docs) x there) where
  by_place : (x ≡ doc) ⊎ In x docs → ¬ Contains later x
  by_place (inl same) = λ inside. all_contained (λ (y : ℕ). doc ≢ y) later x apart inside (sym same)
  by_place (inr more) = behind (contains_from_in docs x more)

module _ (d : ℕ) (few : d ≤ 2 ^ 26) where
  -- what is kept of a term's segments
  record Kept (segments : List SegmentData) : Type 0 where
    some : 1 ≤ length segments
    are : AllByRecursion (IsSegment d) segments
    falling : Pairs FallsTo segments
    once : Pairs SharesNoDocument segments

  module _ (impact doc : ℕ) (positive : (1 ≤ impact) × (impact ≤ 65535)) (below : doc < d) where
    alone : SegmentData
    alone = record { impact = impact; docs = doc ∷ [] }

    alone_is : IsSegment d alone
    unfolding alone
    alone_is = record { impact = positive; docs = record { some = omega arith; rising = rising_from_pairs (doc ∷ []) (tt, tt); below = All-from_recursion (λ (y : ℕ). y < d) (doc ∷ []) (below, tt); limit = few } }

    apart_from : (docs : List ℕ) (other : ℕ) → AllByRecursion (λ (later : ℕ). Behind impact doc other later) docs → AllByRecursion (λ (y : ℕ). doc ≢ y) docs
    apart_from docs other behind = all_weaker (λ (later : ℕ). Behind impact doc other later) (λ (y : ℕ). doc ≢ y) (λ y b. b.1) docs behind

    shares_none : (first : SegmentData) (segments : List SegmentData) → AllByRecursion (SharesNoDocument first) segments → BeforeAll impact doc segments
        → AllByRecursion (λ (s : SegmentData). (x : ℕ) → Contains (doc ∷ first.docs) x → ¬ Contains s.docs x) segments
    shares_none first [] once behind = tt
    shares_none first (s ∷ ss) once behind = ((λ x there. not_there doc x first.docs s.docs (apart_from s.docs s.impact behind.0) (once.0 x) there), shares_none first ss once.1 behind.1)

    no_document : (first : SegmentData) (segments : List SegmentData) → first.docs ≡ [] → AllByRecursion (SharesNoDocument first) segments
    no_document first [] none = tt
    no_document first (s ∷ ss) none = ((λ x there. absurd (let h = in_from_contains first.docs x there in let g = rw none at h in g)), no_document first ss none)

    rise_behind : (docs : List ℕ) → AllByRecursion (λ (later : ℕ). Behind impact doc impact later) docs → AllByRecursion (λ (y : ℕ). doc < y) docs
    rise_behind docs behind = all_weaker (λ (later : ℕ). Behind impact doc impact later) (λ (y : ℕ). doc < y) (λ y b. rises y b.0) docs behind where
      rises : (y : ℕ) → (impact < impact) ⊎ ((impact ≡ impact) × (doc < y)) → doc < y
      rises y (inl less) = absurd (omega (arith, less))
      rises y (inr both) = both.1

    -- in front of a segment with its impact
    grown : (s : SegmentData) → impact ≡ s.impact → IsSegment d s → AllByRecursion (λ (later : ℕ). Behind impact doc s.impact later) s.docs → IsSegment d (record { impact = s.impact; docs = doc ∷ s.docs })
    grown s same is behind = record {
      impact = is.impact;
      docs = record {
        some = omega arith;
        rising = rising_from_pairs (doc ∷ s.docs) (rise_behind s.docs (subst (λ (n : ℕ). AllByRecursion (λ (later : ℕ). Behind impact doc n later) s.docs) (sym same) behind), rising_pairs s.docs is.docs.rising);
        below = All-from_recursion (λ (y : ℕ). y < d) (doc ∷ s.docs) (below, recursion_from_All (λ (y : ℕ). y < d) s.docs is.docs.below);
        limit = few;
      };
    }

    -- in front of one with another
    falls : (s : SegmentData) → (impact == s.impact) ≡ false → IsSegment d s → AllByRecursion (λ (later : ℕ). Behind impact doc s.impact later) s.docs → s.impact < impact
    falls s other is behind = by_docs s.docs is.docs.some behind where
      by_first : (later : ℕ) → (s.impact < impact) ⊎ ((s.impact ≡ impact) × (doc < later)) → s.impact < impact
      by_first later (inl less) = less
      by_first later (inr both) = absurd (eqb-false impact s.impact other (sym both.0))

      by_docs : (docs : List ℕ) → 0 < length docs → AllByRecursion (λ (later : ℕ). Behind impact doc s.impact later) docs → s.impact < impact
      by_docs [] none behind = absurd (omega (arith, none))
      by_docs (later ∷ docs) some behind = by_first later behind.0.0

    posted : (segments : List SegmentData) → AllByRecursion (IsSegment d) segments → Pairs FallsTo segments → Pairs SharesNoDocument segments → BeforeAll impact doc segments → Kept (with_posting impact doc segments)
    unfolding alone
    posted [] are falling once behind = record { some = omega arith; are = (alone_is, tt); falling = (tt, tt); once = (tt, tt) }
    posted (s ∷ ss) are falling once behind = elim (cases_Bool (impact == s.impact)) [
      | inl same ↦ rw same (record {
        some = omega arith;
        are = (grown s (eqb-true impact s.impact same) are.0 behind.0, are.1);
        falling = (falling.0, falling.1);
        once = (shares_none s ss once.0 behind.1, once.1);
      })
      | inr other ↦ rw other (record {
        some = omega arith;
        are = (alone_is, are);
        falling = ((falls s other are.0 behind.0, all_weaker (FallsTo s) (λ (t : SegmentData). t.impact < impact) (λ t less. omega (arith, less, falls s other are.0 behind.0)) ss falling.0), falling);
        once = (shares_none (record { impact = impact; docs = [] }) (s ∷ ss) (no_document (record { impact = impact; docs = [] }) (s ∷ ss) refl) behind, once);
      })
    ]

  -- ---- the terms

  -- the entry is before all entries of terms
  abbrev BeforeTerms : TextEntry → List TermData → Type 0
  BeforeTerms e terms = AllByRecursion (λ (t : TermData). AllByRecursion (λ (s : SegmentData). AllByRecursion (λ (doc : ℕ). Before e (entry_at t.term doc s.impact)) s.docs) t.segments) terms

  abbrev IsTermText : List ℕ → Type 0
  IsTermText term = IsText term × (length term ≤ 65535)

  term_of_kept : (term : List ℕ) (segments : List SegmentData) → IsTermText term → Kept segments → IsTerm d (record { term = term; segments = segments })
  term_of_kept term segments text kept = record {
    text = text.0;
    fits = text.1;
    some = kept.some;
    segments = All-from_recursion (IsSegment d) segments kept.are;
    falling = pairs_by_places FallsTo segments kept.falling;
    once = pairs_by_places SharesNoDocument segments kept.once;
  }

  module _ (e : TextEntry) (text : IsTermText e.term) (positive : (1 ≤ e.impact) × (e.impact ≤ 65535)) (below : e.doc < d) where
    in_term : (t : TermData) → IsTerm d t → bytes_eq e.term t.term ≡ true → AllByRecursion (λ (s : SegmentData). AllByRecursion (λ (doc : ℕ). Before e (entry_at t.term doc s.impact)) s.docs) t.segments
        → IsTerm d (record { term = t.term; segments = with_posting e.impact e.doc t.segments })
    unfolding entry_at
    in_term t is same before = term_of_kept t.term (with_posting e.impact e.doc t.segments) (is.text, is.fits)
        (posted e.impact e.doc positive below t.segments (recursion_from_All (IsSegment d) t.segments is.segments) (pairs_by_recursion FallsTo t.segments is.falling) (pairs_by_recursion SharesNoDocument t.segments is.once)
        (all_weaker (λ (s : SegmentData). AllByRecursion (λ (doc : ℕ). Before e (entry_at t.term doc s.impact)) s.docs) (λ (s : SegmentData). AllByRecursion (λ (later : ℕ). Behind e.impact e.doc s.impact later) s.docs)
        (λ s h. all_weaker (λ (doc : ℕ). Before e (entry_at t.term doc s.impact)) (λ (later : ℕ). Behind e.impact e.doc s.impact later) (λ doc b. same_term e (entry_at t.term doc s.impact) (bytes_same e.term t.term same) b) s.docs h)
        t.segments before))

    own_term : IsTerm d (record { term = e.term; segments = with_posting e.impact e.doc [] })
    own_term = term_of_kept e.term (with_posting e.impact e.doc []) text (posted e.impact e.doc positive below [] tt tt tt tt)

    rises_to : (t : TermData) → IsTerm d t → bytes_eq e.term t.term ≡ false → AllByRecursion (λ (s : SegmentData). AllByRecursion (λ (doc : ℕ). Before e (entry_at t.term doc s.impact)) s.docs) t.segments → BytesRise e.term t.term
    unfolding entry_at
    rises_to t is other before = by_segments t.segments is.some (recursion_from_All (IsSegment d) t.segments is.segments) before where
      by_docs : (impact : ℕ) (docs : List ℕ) → 0 < length docs → AllByRecursion (λ (doc : ℕ). Before e (entry_at t.term doc impact)) docs → BytesRise e.term t.term
      by_docs impact [] none before = absurd (omega (arith, none))
      by_docs impact (doc ∷ docs) some before = other_term e (entry_at t.term doc impact) other before.0

      by_segments : (segments : List SegmentData) → 1 ≤ length segments → AllByRecursion (IsSegment d) segments → AllByRecursion (λ (s : SegmentData). AllByRecursion (λ (doc : ℕ). Before e (entry_at t.term doc s.impact)) s.docs) segments → BytesRise e.term t.term
      by_segments [] none are before = absurd (omega (arith, none))
      by_segments (s ∷ ss) some are before = by_docs s.impact s.docs are.0.docs.some before.0

    with_one : (terms : List TermData) → AllByRecursion (IsTerm d) terms → Pairs RisesTo terms → BeforeTerms e terms → AllByRecursion (IsTerm d) (with_entry e terms) × Pairs RisesTo (with_entry e terms)
    with_one [] are rising before = ((own_term, tt), (tt, tt))
    with_one (t ∷ terms) are rising before = elim (cases_Bool (bytes_eq e.term t.term)) [
      | inl same ↦ rw same ((in_term t are.0 same before.0, are.1), (rising.0, rising.1))
      | inr other ↦ rw other ((own_term, are), ((rises_to t are.0 other before.0, all_weaker (RisesTo t) (λ (u : TermData). BytesRise e.term u.term) (λ u rise. bytes_rise_on e.term t.term u.term (rises_to t are.0 other before.0) rise) terms rising.0), rising))
    ]

  before_terms : (e : TextEntry) (terms : List TermData) → AllByRecursion (Before e) (flat_of_terms terms) → BeforeTerms e terms
  unfolding entry_at
  before_terms e terms all = all_weaker (λ (t : TermData). AllByRecursion (Before e) (term_entries t.term t.segments)) (λ (t : TermData). AllByRecursion (λ (s : SegmentData). AllByRecursion (λ (doc : ℕ). Before e (entry_at t.term doc s.impact)) s.docs) t.segments)
      (λ t of_term. all_weaker (λ (s : SegmentData). AllByRecursion (Before e) (segment_entries t.term s)) (λ (s : SegmentData). AllByRecursion (λ (doc : ℕ). Before e (entry_at t.term doc s.impact)) s.docs)
      (λ s of_segment. all_unmap (Before e) (λ doc. record { term = t.term; doc = doc; impact = s.impact }) s.docs of_segment) t.segments (all_parts (Before e) (segment_entries t.term) t.segments of_term))
      terms (all_parts (Before e) (λ (t : TermData). term_entries t.term t.segments) terms all)

  -- what is kept of a flat list
  abbrev pub IsEntry : TextEntry → Type 0
  IsEntry e = (e.doc < d) × ((1 ≤ e.impact) × (e.impact ≤ 65535)) × IsTermText e.term

  pub terms_made : (flat : List TextEntry) → Pairs Before flat → AllByRecursion IsEntry flat → AllByRecursion (IsTerm d) (with_entries flat []) × Pairs RisesTo (with_entries flat [])
  terms_made [] before are = (tt, tt)
  terms_made (e ∷ flat) before are =
      let rest = terms_made flat before.1 are.1 in
      with_one e are.0.2 are.0.1 are.0.0 (with_entries flat []) rest.0 rest.1
      (before_terms e (with_entries flat []) (subst (AllByRecursion (Before e)) (sym (entries_again flat)) before.0))

-- ---- the index

-- what is kept of the terms of a flat list
abbrev pub HasText : TextEntry → Type 0
HasText e = IsText e.term × (length e.term ≤ 65535)

pub flat_before : (d : ℕ) (flat : List TextEntry) → IsFlat (slice_cmp nat_cmp) d flat → Pairs Before flat
flat_before d flat is = pairs_both (λ (a b : TextEntry). is_gt (entry_cmp (slice_cmp nat_cmp) a b) ≡ false) (λ (a b : TextEntry). a.term ≡ b.term → a.doc ≢ b.doc) flat
    (ascends_pairs (entry_cmp (slice_cmp nat_cmp)) flat (ascends_sorted (entry_cmp (slice_cmp nat_cmp)) (entry_total (slice_cmp nat_cmp) nat_list_cmp_total) flat is.order))
    (pairs_by_recursion (λ (a b : TextEntry). a.term ≡ b.term → a.doc ≢ b.doc) flat is.once)

pub made_of_flat : (names : List (List ℕ)) (flat : List TextEntry) → length names ≤ 2 ^ 26 → All IsName names → All IsText names → IsFlat (slice_cmp nat_cmp) (length names) flat → All HasText flat
    → IsWellFormed (index_with names flat)
unfolding index_with
made_of_flat names flat few are texts is have =
    let d = length names in
    let entries : AllByRecursion (IsEntry d few) flat
    = all_weaker (λ (e : TextEntry). (e.doc < d) × (((1 ≤ e.impact) × (e.impact ≤ 65535)) × HasText e)) (IsEntry d few) (λ e h. (h.0, h.1.0, h.1.1)) flat
    (all_both (λ (e : TextEntry). e.doc < d) (λ (e : TextEntry). ((1 ≤ e.impact) × (e.impact ≤ 65535)) × HasText e) flat (recursion_from_All (λ (e : TextEntry). e.doc < d) flat is.documents)
    (all_both (λ (e : TextEntry). (1 ≤ e.impact) × (e.impact ≤ 65535)) HasText flat (recursion_from_All (λ (e : TextEntry). (1 ≤ e.impact) × (e.impact ≤ 65535)) flat is.impacts) (recursion_from_All HasText flat have))) in
    let made = terms_made d few flat (flat_before d flat is) entries in
    record {
      few_names = few;
      names = are;
      names_are_text = texts;
      rising = pairs_by_places RisesTo (with_entries flat []) made.1;
      terms = All-from_recursion (IsTerm d) (with_entries flat []) made.0;
    }

pub flat_again : (names : List (List ℕ)) (flat : List TextEntry) → flat_of (index_with names flat) ≡ flat
unfolding index_with
flat_again names flat = entries_again flat
