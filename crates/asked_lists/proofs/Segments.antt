-- The segments that a list becomes: they have its documents, each at least one of them, in rising order.
use Rattle.shared_lemmas.proofs.Common.{◌≡◌, ◌≢◌, ℕ, ◌<◌, ◌≤◌, ◌^◌, List, [], ◌∷◌, map, length, get_or, arith, refl, sym, ◌∙◌, subst, ◌⊎◌, inl, inr, All, AllByRecursion, IsStrictlyIncreasing, eq-eqb, ne_eqb, cases_eq, All-from_recursion, recursion_from_All, length-map, map-map}
use Rattle.shared_lemmas.proofs.Lists.{all_front, all_unmap, all_weaker}
use Rattle.shared_lemmas.proofs.Pairs.{Pairs, pairs_by_recursion, rising_from_pairs}
use Rattle.index_model.specs.Grouping.{with_posting}
use Rattle.asked_lists.proofs.Below.{AreDocs, Bits, FitsList, ListData, Posting, Range, Rule, SegmentData, docs_of, impact_of, list_term, sorted, term_postings}
use Rattle.impact_segments.proofs.Grouped.{data_pairs, list_segments_are, pairs_again, pairs_are, sorted_order}
use Rattle.impact_segments.proofs.OneTerm.{as_many_documents, segments_below}
use Rattle.impact_segments.specs.Collections.{weight_in}
use Rattle.impact_segments.specs.ListTerms.{list_segments, segments_in}
use Rattle.impact_segments.specs.OneList.{pairs_in}
use Rattle.impact_segments.specs.Pairs.{pair_cmp, pair_docs, with_impact}
use Rattle.impact_segments.specs.Private.Pairs.{Follows}
use Rattle.impact_segments.specs.declared.doc_impact.DocImpact.{DocImpact}

-- at least one document, and they rise
abbrev Rises : SegmentData → Type 0
Rises s = (1 ≤ length s.docs) × Pairs (λ (x y : ℕ). x < y) s.docs

rises_more : (p : DocImpact) (segments : List SegmentData) → AllByRecursion (λ q. Follows p q) (data_pairs segments) → AllByRecursion Rises segments → AllByRecursion Rises (with_posting p.impact p.doc segments)
rises_more p [] behind are = ((omega arith, (tt, tt)), tt)
rises_more p (s ∷ ss) behind are = by (cases_eq p.impact s.impact) where
  mine : AllByRecursion (λ (doc : ℕ). Follows p (with_impact s.impact doc)) s.docs
  mine = all_unmap (λ q. Follows p q) (with_impact s.impact) s.docs (all_front (λ q. Follows p q) (map (with_impact s.impact) s.docs) (data_pairs ss) behind)

  by : (p.impact ≡ s.impact) ⊎ (p.impact ≢ s.impact) → AllByRecursion Rises (with_posting p.impact p.doc (s ∷ ss))
  by (inl e) =
      let t = eq-eqb p.impact s.impact e in
      rw t ((omega arith, (all_weaker (λ (doc : ℕ). Follows p (with_impact s.impact doc)) (λ (doc : ℕ). p.doc < doc) (λ doc k. k.2 e) s.docs mine, are.0.1)), are.1)
  by (inr n) = let t = ne_eqb p.impact s.impact n in rw t ((omega arith, (tt, tt)), are)

rises_all : (ps : List DocImpact) → Pairs Follows ps → AllByRecursion Rises (segments_in ps)
rises_all [] order = tt
rises_all (p ∷ ps) order =
    rises_more p (segments_in ps) (subst (λ (l : List DocImpact). AllByRecursion (λ q. Follows p q) l) (sym (pairs_again ps)) order.0) (rises_all ps order.1)

module _ (rule : Rule) (lengths : List ℕ) (total : ℕ) (bits : Bits) (range : Range) (l : ListData) where
  abbrev pairs : List DocImpact
  pairs = pairs_in rule lengths total bits range l.postings

  abbrev segments : List SegmentData
  segments = list_segments rule lengths total bits range l.postings

  abbrev impact : SegmentData → ℕ
  impact s = s.impact

  abbrev docs : SegmentData → List ℕ
  docs s = s.docs

  are : segments ≡ segments_in (sorted pair_cmp pairs)
  are = sym (list_segments_are rule lengths total bits range l.postings (segments_in (sorted pair_cmp pairs)) pairs refl refl)

  hold : data_pairs segments ≡ sorted pair_cmp pairs
  hold = pairs_are pairs segments are

  numbers : pair_docs pairs ≡ docs_of l.postings
  numbers = map-map (λ (p : DocImpact). p.doc) (λ (p : Posting). with_impact (impact_of bits range (weight_in rule lengths total (length l.postings) p)) p.doc) l.postings

  pub as_many_postings : term_postings (list_term rule lengths total bits range l) ≡ length l.postings
  as_many_postings = as_many_documents impact docs segments pairs hold ∙ length-map l.postings _

  pub segments_have_docs : (d : ℕ) → d ≤ 2 ^ 26 → FitsList d l → AllByRecursion (λ (s : SegmentData). AreDocs d s.docs) segments
  segments_have_docs d few fits =
      let order = pairs_by_recursion Follows (sorted pair_cmp pairs) (sorted_order pairs (subst (λ (ds : List ℕ). IsStrictlyIncreasing ds) (sym numbers) fits.rising)) in
      let rise : All Rises segments = All-from_recursion Rises segments (subst (λ (ss : List SegmentData). AllByRecursion Rises ss) (sym are) (rises_all (sorted pair_cmp pairs) order)) in
      let low : AllByRecursion (λ (p : DocImpact). p.doc < d) pairs = all_unmap (λ (doc : ℕ). doc < d) (λ (p : DocImpact). p.doc) pairs
      (subst (λ (ds : List ℕ). AllByRecursion (λ (doc : ℕ). doc < d) ds) (sym numbers) (recursion_from_All (λ (doc : ℕ). doc < d) (docs_of l.postings) fits.below)) in
      let below = segments_below impact docs d segments pairs hold low in
      recursion_from_All (λ (s : SegmentData). AreDocs d s.docs) segments
      (λ i s inside. record { some = omega (arith, (rise i s inside).0); rising = rising_from_pairs (get_or segments i s).docs (rise i s inside).1; below = below i s inside; limit = few })
