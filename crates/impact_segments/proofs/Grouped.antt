-- Pairs in order, grouped: their segments, and the terms of lists by rising terms.
use Rattle.shared_lemmas.proofs.Common.{◌≡◌, ◌≢◌, ℕ, ◌^◌, ◌<◌, ◌≤◌, ◌==◌, List, [], ◌∷◌, ◌++◌, map, length, false, refl, sym, ap, ◌∙◌, subst, arith, ◌⊎◌, inl, inr, ⊤, All, AllPairs, AllByRecursion, IsStrictlyIncreasing, is_gt, nat_tests, flat_map}
use Rattle.shared_lemmas.proofs.Common.{All-from_recursion, recursion_from_All, cases_eq, ne_eqb, flat_map-map}
use Rattle.std.proofs.lemmas.Bool.{eq-eqb}
use Rattle.shared_lemmas.proofs.Lists.{all_back, all_front, all_unmap, all_weaker}
use Rattle.shared_lemmas.proofs.Members.{all_contained}
use Rattle.shared_lemmas.proofs.Numbers.{number_itself}
use Rattle.shared_lemmas.proofs.Pairs.{Pairs, pairs_across, pairs_back, pairs_both, pairs_by_places, pairs_by_recursion, pairs_unmap, pairs_weaker, rising_from_pairs, rising_pairs}
use Rattle.shared_lemmas.proofs.Texts.{bytes_itself}
use Rattle.index_model.specs.Grouping.{with_posting}
use Rattle.index_model.specs.Index.{FallsTo, SharesNoDocument}
use Rattle.impact_segments.proofs.Below.{AreDocs, Bits, BytesRise, IsOtherTerm, ListData, Posting, Range, Rule, Segment, SegmentData, TermData, all_sorted, ascends_pairs, bytes_apart, entries_behind, pairs_sorted, segment_data, sorted, sorted_ascends, with_entries, with_entry}
use Rattle.impact_segments.specs.ListTerms.{list_segments, segments_in}
use Rattle.impact_segments.specs.OneList.{pairs_in}
use Rattle.impact_segments.specs.Pairs.{pair_cmp, pair_docs, pairs_of, with_impact}
use Rattle.impact_segments.specs.Private.Pairs.{Follows}
use Rattle.impact_segments.specs.Private.Runs.{IsFilled}
use Rattle.impact_segments.specs.declared.doc_impact.DocImpact.{DocImpact}
use Rattle.impact_segments.proofs.OneTerm.{under}
use Rattle.impact_segments.proofs.Orders.{pair_total}

-- ---- pairs in order

abbrev Differ : DocImpact → DocImpact → Type 0
Differ a b = a.doc ≢ b.doc

follows : (a b : DocImpact) → is_gt (pair_cmp a b) ≡ false → a.doc ≢ b.doc → Follows a b
follows a b h n = (grind (arith, nat_tests), n, λ e. grind (arith, nat_tests))

-- pairs whose documents rise, once they are sorted
sorted_follows : (ps : List DocImpact) → IsStrictlyIncreasing (pair_docs ps) → Pairs Follows (sorted pair_cmp ps)
sorted_follows ps h =
    let rising : Pairs (λ (a b : DocImpact). a.doc < b.doc) ps = pairs_unmap (λ x y. x < y) (λ (p : DocImpact). p.doc) ps (rising_pairs (pair_docs ps) h) in
    let differ : Pairs Differ (sorted pair_cmp ps) = pairs_sorted pair_cmp Differ (λ a b n e. n (sym e)) ps (pairs_weaker (λ (a b : DocImpact). a.doc < b.doc) Differ (λ a b l e. omega arith) ps rising) in
    pairs_weaker (λ a b. (is_gt (pair_cmp a b) ≡ false) × Differ a b) Follows (λ a b k. follows a b k.0 k.1) (sorted pair_cmp ps)
    (pairs_both (λ a b. is_gt (pair_cmp a b) ≡ false) Differ (sorted pair_cmp ps) (ascends_pairs pair_cmp (sorted pair_cmp ps) (sorted_ascends pair_cmp pair_total ps)) differ)

sorted_positive : (ps : List DocImpact) → All (λ (p : DocImpact). 1 ≤ p.impact) ps → AllByRecursion (λ (p : DocImpact). 1 ≤ p.impact) (sorted pair_cmp ps)
sorted_positive ps h = all_sorted pair_cmp (λ (p : DocImpact). 1 ≤ p.impact) ps (recursion_from_All (λ (p : DocImpact). 1 ≤ p.impact) ps h)

-- fewer than two are in order
pub sorted_few : (ps : List DocImpact) → length ps ≤ 1 → ps ≡ sorted pair_cmp ps
sorted_few [] few = refl
sorted_few (p ∷ []) few = refl
sorted_few (p ∷ q ∷ ps) few = absurd (omega (arith, few))

-- ---- the segments of pairs

-- the pairs that segments hold
abbrev pub data_pairs : List SegmentData → List DocImpact
data_pairs segments = flat_map (λ (s : SegmentData). map (with_impact s.impact) s.docs) segments

with_pair : (p : DocImpact) (segments : List SegmentData) → data_pairs (with_posting p.impact p.doc segments) ≡ p ∷ data_pairs segments
with_pair p [] = refl
with_pair p (s ∷ ss) = by (cases_eq p.impact s.impact) where
  by : (p.impact ≡ s.impact) ⊎ (p.impact ≢ s.impact) → data_pairs (with_posting p.impact p.doc (s ∷ ss)) ≡ p ∷ data_pairs (s ∷ ss)
  by (inl e) = let t = eq-eqb p.impact s.impact e in rw t (ap (λ (n : ℕ). with_impact n p.doc ∷ data_pairs (s ∷ ss)) (sym e))
  by (inr n) = let t = ne_eqb p.impact s.impact n in rw t refl

-- they hold the pairs that they were made of
pub pairs_again : (ps : List DocImpact) → data_pairs (segments_in ps) ≡ ps
pairs_again [] = refl
pairs_again (p ∷ ps) = with_pair p (segments_in ps) ∙ ap (λ (l : List DocImpact). p ∷ l) (pairs_again ps)

-- the first segment has another impact
abbrev pub IsOther : ℕ → List SegmentData → Type 0
IsOther impact [] = ⊤
IsOther impact (s ∷ segments) = (impact == s.impact) ≡ false

pub starts_other : (impact : ℕ) (p : DocImpact) (ps : List DocImpact) → impact ≢ p.impact → IsOther impact (segments_in (p ∷ ps))
starts_other impact p ps n = by (segments_in ps) where
  by : (segments : List SegmentData) → IsOther impact (with_posting p.impact p.doc segments)
  by [] = ne_eqb impact p.impact n
  by (s ∷ ss) = either (cases_eq p.impact s.impact) where
    either : (p.impact ≡ s.impact) ⊎ (p.impact ≢ s.impact) → IsOther impact (with_posting p.impact p.doc (s ∷ ss))
    either (inl e) = let t = eq-eqb p.impact s.impact e in rw t (ne_eqb impact s.impact (λ same. n (same ∙ sym e)))
    either (inr m) = let t = ne_eqb p.impact s.impact m in rw t (ne_eqb impact p.impact n)

alone : (impact doc : ℕ) (segments : List SegmentData) → IsOther impact segments → with_posting impact doc segments ≡ record { impact = impact; docs = doc ∷ [] } ∷ segments
alone impact doc [] other = refl
alone impact doc (s ∷ ss) other = rw other refl

-- a run in front of others is one segment
pub run_first : (impact : ℕ) (docs : List ℕ) (rest : List DocImpact) → 1 ≤ length docs → IsOther impact (segments_in rest)
    → segments_in (map (with_impact impact) docs ++ rest) ≡ record { impact = impact; docs = docs } ∷ segments_in rest
run_first impact [] rest some other = absurd (omega (arith, some))
run_first impact (d ∷ []) rest some other = alone impact d (segments_in rest) other
run_first impact (d ∷ e ∷ docs) rest some other = rw (run_first impact (e ∷ docs) rest (omega arith) other, number_itself impact) refl

-- ---- those of pairs in order

record AreInOrder (segments : List SegmentData) : Type 0 where
  fall : Pairs FallsTo segments
  filled : AllByRecursion IsFilled segments

in_order : (ps : List DocImpact) → Pairs Follows ps → AllByRecursion (λ (p : DocImpact). 1 ≤ p.impact) ps → AreInOrder (segments_in ps)
in_order [] order positive = record { fall = tt; filled = tt }
in_order (p ∷ ps) order positive = more (segments_in ps) (subst (λ (l : List DocImpact). AllByRecursion (λ q. Follows p q) l) (sym (pairs_again ps)) order.0) (in_order ps order.1 positive.1) where
  one : IsFilled (record { impact = p.impact; docs = p.doc ∷ [] })
  one = record { positive = positive.0; some = omega arith; rising = rising_from_pairs (p.doc ∷ []) (tt, tt) }

  more : (segments : List SegmentData) → AllByRecursion (λ q. Follows p q) (data_pairs segments) → AreInOrder segments → AreInOrder (with_posting p.impact p.doc segments)
  more [] behind are = record { fall = (tt, tt); filled = (one, tt) }
  more (s ∷ ss) behind are = by (cases_eq p.impact s.impact) where
    mine : AllByRecursion (λ (doc : ℕ). Follows p (with_impact s.impact doc)) s.docs
    mine = all_unmap (λ q. Follows p q) (with_impact s.impact) s.docs (all_front (λ q. Follows p q) (map (with_impact s.impact) s.docs) (data_pairs ss) behind)

    low : (docs : List ℕ) → 1 ≤ length docs → AllByRecursion (λ (doc : ℕ). Follows p (with_impact s.impact doc)) docs → s.impact ≤ p.impact
    low [] some h = absurd (omega (arith, some))
    low (d ∷ docs) some h = h.0.0

    by : (p.impact ≡ s.impact) ⊎ (p.impact ≢ s.impact) → AreInOrder (with_posting p.impact p.doc (s ∷ ss))
    by (inl e) =
        let t = eq-eqb p.impact s.impact e in
        let all : IsFilled (record { impact = s.impact; docs = p.doc ∷ s.docs }) = record {
          positive = are.filled.0.positive;
          some = omega arith;
          rising = rising_from_pairs (p.doc ∷ s.docs) (all_weaker (λ (doc : ℕ). Follows p (with_impact s.impact doc)) (λ (doc : ℕ). p.doc < doc) (λ doc k. k.2 e) s.docs mine, rising_pairs s.docs are.filled.0.rising);
        } in
        rw t (record { fall = are.fall; filled = (all, are.filled.1) })
    by (inr n) =
        let t = ne_eqb p.impact s.impact n in
        let l : s.impact < p.impact = omega (arith, low s.docs are.filled.0.some mine, n) in
        rw t (record { fall = ((l, all_weaker (λ y. FallsTo s y) (λ y. y.impact < p.impact) (λ y k. omega (arith, k, l)) ss are.fall.0), are.fall); filled = (one, are.filled) })

pub all_filled : (ps : List DocImpact) → AllPairs Follows ps → All (λ (p : DocImpact). 1 ≤ p.impact) ps → All IsFilled (segments_in ps)
all_filled ps order positive = All-from_recursion IsFilled (segments_in ps) (in_order ps (pairs_by_recursion Follows ps order) (recursion_from_All (λ (p : DocImpact). 1 ≤ p.impact) ps positive)).filled

-- pairs whose documents differ are in segments that share none
shares_none : (segments : List SegmentData) → Pairs Differ (data_pairs segments) → Pairs SharesNoDocument segments
shares_none [] h = tt
shares_none (s ∷ ss) h = (behind ss own, shares_none ss (pairs_back Differ (map (with_impact s.impact) s.docs) (data_pairs ss) h)) where
  own : AllByRecursion (λ (doc : ℕ). AllByRecursion (λ (b : DocImpact). doc ≢ b.doc) (data_pairs ss)) s.docs
  own = all_unmap (λ (a : DocImpact). AllByRecursion (λ (b : DocImpact). Differ a b) (data_pairs ss)) (with_impact s.impact) s.docs (pairs_across Differ (map (with_impact s.impact) s.docs) (data_pairs ss) h)

  behind : (ts : List SegmentData) → AllByRecursion (λ (doc : ℕ). AllByRecursion (λ (b : DocImpact). doc ≢ b.doc) (data_pairs ts)) s.docs → AllByRecursion (λ (t : SegmentData). SharesNoDocument s t) ts
  behind [] k = tt
  behind (t ∷ ts) k = (
    (λ doc i j. all_contained (λ (e : ℕ). doc ≢ e) t.docs doc (here doc (all_contained (λ (doc : ℕ). AllByRecursion (λ (b : DocImpact). doc ≢ b.doc) (data_pairs (t ∷ ts))) s.docs doc k i)) j refl),
    behind ts (all_weaker (λ (doc : ℕ). AllByRecursion (λ (b : DocImpact). doc ≢ b.doc) (data_pairs (t ∷ ts))) (λ (doc : ℕ). AllByRecursion (λ (b : DocImpact). doc ≢ b.doc) (data_pairs ts)) (λ doc a. all_back (λ (b : DocImpact). doc ≢ b.doc) (map (with_impact t.impact) t.docs) (data_pairs ts) a) s.docs k),
  )
    where
      here : (doc : ℕ) → AllByRecursion (λ (b : DocImpact). doc ≢ b.doc) (data_pairs (t ∷ ts)) → AllByRecursion (λ (e : ℕ). doc ≢ e) t.docs
      here doc a = all_unmap (λ (b : DocImpact). doc ≢ b.doc) (with_impact t.impact) t.docs (all_front (λ (b : DocImpact). doc ≢ b.doc) (map (with_impact t.impact) t.docs) (data_pairs ts) a)

-- ---- the segments of a list's pairs

module _ (ps : List DocImpact) where
  pub sorted_order : IsStrictlyIncreasing (pair_docs ps) → AllPairs Follows (sorted pair_cmp ps)
  sorted_order rising = pairs_by_places Follows (sorted pair_cmp ps) (sorted_follows ps rising)

  pub sorted_some : All (λ (p : DocImpact). 1 ≤ p.impact) ps → All (λ (p : DocImpact). 1 ≤ p.impact) (sorted pair_cmp ps)
  sorted_some positive = All-from_recursion (λ (p : DocImpact). 1 ≤ p.impact) (sorted pair_cmp ps) (sorted_positive ps positive)

  module _ (segments : List SegmentData) (are : segments ≡ segments_in (sorted pair_cmp ps)) where
    pub pairs_are : data_pairs segments ≡ sorted pair_cmp ps
    pairs_are = ap data_pairs are ∙ pairs_again (sorted pair_cmp ps)

    module _ (rising : IsStrictlyIncreasing (pair_docs ps)) (positive : All (λ (p : DocImpact). 1 ≤ p.impact) ps) where
      pub segments_fall : AllPairs FallsTo segments
      segments_fall = subst (λ (l : List SegmentData). AllPairs FallsTo l) (sym are) (pairs_by_places FallsTo (segments_in (sorted pair_cmp ps)) (in_order (sorted pair_cmp ps) (sorted_follows ps rising) (sorted_positive ps positive)).fall)

      pub segments_filled : All IsFilled segments
      segments_filled = subst (λ (l : List SegmentData). All IsFilled l) (sym are) (all_filled (sorted pair_cmp ps) (sorted_order rising) (sorted_some positive))

      pub segments_once : AllPairs SharesNoDocument segments
      segments_once = pairs_by_places SharesNoDocument segments (shares_none segments (subst (λ (l : List DocImpact). Pairs Differ l) (sym pairs_are) (pairs_weaker Follows Differ (λ a b k. k.1) (sorted pair_cmp ps) (sorted_follows ps rising))))

-- the segments of a list are those of its pairs
pub list_segments_are : (rule : Rule) (lengths : List ℕ) (total : ℕ) (bits : Bits) (range : Range) (postings : List Posting) (segments : List SegmentData) (pairs : List DocImpact) → pairs ≡ pairs_in rule lengths total bits range postings
    → segments ≡ segments_in (sorted pair_cmp pairs) → segments ≡ list_segments rule lengths total bits range postings
unfolding list_segments
list_segments_are rule lengths total bits range postings segments pairs are is = is ∙ ap (λ (l : List DocImpact). segments_in (sorted pair_cmp l)) are

-- the pairs of segments in rows of their own
pub rows_hold : (rows : List Segment) → pairs_of rows ≡ data_pairs (map segment_data rows)
rows_hold rows = sym (flat_map-map (λ (s : SegmentData). map (with_impact s.impact) s.docs) segment_data rows)

-- filled segments with documents below d have documents of an index of d documents
pub are_docs : (d : ℕ) (segments : List SegmentData) → d ≤ 2 ^ 26 → All IsFilled segments → All (λ (s : SegmentData). All (λ doc. doc < d) s.docs) segments → All (λ (s : SegmentData). AreDocs d s.docs) segments
are_docs d segments few filled below i s inside = record { some = omega (arith, (filled i s inside).some); rising = (filled i s inside).rising; below = below i s inside; limit = few }

-- ---- the terms of lists

-- the entries of a term in front of other terms
term_there : (t : List ℕ) (p : DocImpact) (ps : List DocImpact) (terms : List TermData) → IsOtherTerm t terms → with_entries (map (under t) (p ∷ ps)) terms ≡ record { term = t; segments = segments_in (p ∷ ps) } ∷ terms
term_there t p [] [] other = refl
term_there t p [] (u ∷ terms) other = rw other refl
term_there t p (q ∷ ps) terms other = ap (with_entry (under t p)) (term_there t q ps terms other) ∙ rw (bytes_itself t) refl

module _ (P : ListData → List DocImpact) where
  abbrev pub grouped : ListData → TermData
  grouped l = record { term = l.term; segments = segments_in (P l) }

  pub terms_there : (lists : List ListData) → AllByRecursion (λ (l : ListData). 1 ≤ length (P l)) lists → Pairs (λ (a b : ListData). BytesRise a.term b.term) lists
      → with_entries (flat_map (λ (l : ListData). map (under l.term) (P l)) lists) [] ≡ map grouped lists
  terms_there [] some rise = refl
  terms_there (l ∷ ls) some rise =
      entries_behind (map (under l.term) (P l)) (flat_map (λ (l : ListData). map (under l.term) (P l)) ls) []
      ∙ ap (with_entries (map (under l.term) (P l))) (terms_there ls some.1 rise.1)
      ∙ one (P l) some.0
    where
      other : (ls : List ListData) → AllByRecursion (λ (k : ListData). BytesRise l.term k.term) ls → IsOtherTerm l.term (map grouped ls)
      other [] h = tt
      other (k ∷ ks) h = bytes_apart l.term k.term h.0

      one : (ps : List DocImpact) → 1 ≤ length ps → with_entries (map (under l.term) ps) (map grouped ls) ≡ record { term = l.term; segments = segments_in ps } ∷ map grouped ls
      one [] some = absurd (omega (arith, some))
      one (p ∷ ps) some = term_there l.term p ps (map grouped ls) (other ls rise.0)
