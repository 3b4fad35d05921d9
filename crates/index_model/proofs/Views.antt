-- An index in memory as plain data.
use Rattle.shared_lemmas.proofs.Common.{◌≡◌, ℕ, ◌≤◌, ◌^◌, List, [], ◌∷◌, length, map, arith, ◌∙◌, AllByRecursion, length-map, map-map, recursion_from_All, All-from_recursion}
use Rattle.shared_lemmas.proofs.Pairs.{pairs_by_recursion, pairs_by_places, pairs_map}
use Rattle.shared_lemmas.proofs.Lists.{all_map}
use Rattle.jass_base.specs.declared.segment.Segment.{Segment}
use Rattle.jass_base.specs.declared.term_segments.TermSegments.{TermSegments}
use Rattle.jass_base.specs.declared.impact_index.ImpactIndex.{ImpactIndex}
use Rattle.jass_base.specs.Segments as held
use Rattle.jass_base.specs.Terms as terms
use Rattle.index_model.specs.Index.{SegmentData, TermData, IsSegment, IsTerm, IsIndex, FallsTo, SharesNoDocument, RisesTo}
use Rattle.index_model.specs.Views.{segment_data, term_data, index_data}
use Rattle.ranking_model.specs.Flat.{terms_of}
use Rattle.index_model.specs.Flat.{flat_of}
use Rattle.index_model.proofs.Numbers.{HasDocuments, terms_are_texts}

-- the segments of a term keep what they kept
segments_are : (d top : ℕ) (segments : List Segment) → d ≤ 2 ^ 26 → top ≤ 65535 → terms.greatest_of segments ≤ top → AllByRecursion (held.HasDocumentsBelow d) segments → AllByRecursion (λ (s : Segment). IsSegment d (segment_data s)) segments
segments_are d top [] few small h below = tt
segments_are d top (s ∷ ss) few small h below = (
  record { impact = (s.positive, omega (arith, h, small)); docs = record { some = s.some; rising = s.rising; below = below.0; limit = few } },
  segments_are d top ss few small (omega (arith, h)) below.1,
)

term_is : (d top : ℕ) (t : TermSegments) → d ≤ 2 ^ 26 → top ≤ 65535 → terms.greatest_of t.segments ≤ top → terms.HasTermBelow d t → IsTerm d (term_data t)
term_is d top t few small h below = record {
  text = t.term_is_text;
  fits = t.term_fits;
  some = omega (arith, t.some, length-map t.segments segment_data);
  segments = All-from_recursion (IsSegment d) (map segment_data t.segments) (all_map (IsSegment d) segment_data t.segments (segments_are d top t.segments few small h (recursion_from_All (held.HasDocumentsBelow d) t.segments below)));
  falling = pairs_by_places FallsTo (map segment_data t.segments) (pairs_map FallsTo segment_data t.segments (pairs_by_recursion held.FallsTo t.segments t.falling));
  once = pairs_by_places SharesNoDocument (map segment_data t.segments) (pairs_map SharesNoDocument segment_data t.segments (pairs_by_recursion held.SharesNoDocument t.segments t.once));
}

terms_are : (d top : ℕ) (ts : List TermSegments) → d ≤ 2 ^ 26 → top ≤ 65535 → terms.greatest_impact ts ≤ top → AllByRecursion (terms.HasTermBelow d) ts → AllByRecursion (λ (t : TermSegments). IsTerm d (term_data t)) ts
terms_are d top [] few small h below = tt
terms_are d top (t ∷ ts) few small h below = (term_is d top t few small (omega (arith, h)) below.0, terms_are d top ts few small (omega (arith, h)) below.1)

-- ---- the terms

some_docs : (segments : List Segment) → AllByRecursion (λ (s : Segment). 1 ≤ length (segment_data s).docs) segments
some_docs [] = tt
some_docs (s ∷ ss) = (s.some, some_docs ss)

have_documents : (ts : List TermSegments) → AllByRecursion (λ (t : TermSegments). HasDocuments (term_data t)) ts
have_documents [] = tt
have_documents (t ∷ ts) = ((omega (arith, t.some, length-map t.segments segment_data), all_map (λ (s : SegmentData). 1 ≤ length s.docs) segment_data t.segments (some_docs t.segments)), have_documents ts)

pub terms_are_those : (index : ImpactIndex) → terms_of (flat_of (index_data index)) ≡ map (λ (t : TermSegments). t.term) index.terms
terms_are_those index =
    terms_are_texts (map term_data index.terms) (all_map HasDocuments term_data index.terms (have_documents index.terms))
    (pairs_by_places RisesTo (map term_data index.terms) (pairs_map RisesTo term_data index.terms (pairs_by_recursion terms.RisesTo index.terms index.rising)))
    ∙ map-map (λ (t : TermData). t.term) term_data index.terms

-- ---- the index

pub index_is : (index : ImpactIndex) → index.greatest ≤ 65535 → IsIndex (index_data index)
index_is index small =
    let d = length index.names in
    let is : index.greatest ≡ terms.greatest_impact index.terms = index.greatest_is in
    record {
      few_names = index.few_names;
      names = index.names_fit;
      names_are_text = index.names_are_text;
      few_terms = omega (arith, index.few_terms, length-map index.terms term_data);
      rising = pairs_by_places RisesTo (map term_data index.terms) (pairs_map RisesTo term_data index.terms (pairs_by_recursion terms.RisesTo index.terms index.rising));
      terms = All-from_recursion (IsTerm d) (map term_data index.terms) (all_map (IsTerm d) term_data index.terms
          (terms_are d index.greatest index.terms index.few_names small (omega (arith, is)) (recursion_from_All (terms.HasTermBelow d) index.terms index.docs_below)));
    }
