-- Indexes, seen from the left.
use Rattle.shared_lemmas.proofs.Common.{◌≡◌, ℕ, ◌<◌, ◌≤◌, true, List, [], ◌∷◌, length, All, Option, Some, None, refl, arith, slice_index_or, ⊤, AllPairs, All-head, All-tail, All-cons, All-nil, AllPairs-cons}
use Rattle.jass_base.specs.Terms.{BytesRise}
use Rattle.index_model.specs.Index.{SegmentData, TermData, IndexData, IsSegment, IsTerm, IsIndex, FallsTo, RisesTo}
use Rattle.jass_base.proofs.ByteOrder.{bytes_rise_on}
use Rattle.index_layout.specs.Reading.{rises_behind}
use Rattle.index_layout.proofs.Apart.{Alone, pairs_nil, pairs_head, pairs_tail, alone_found, alone_only}
use Rattle.index_layout.proofs.TermLaws.{IsTermText}

-- segments whose impacts fall from below a number
abbrev pub SegmentsFall : ℕ → ℕ → List SegmentData → Type 0
SegmentsFall d above [] = ⊤
SegmentsFall d above (s ∷ segments) = IsSegment d s × (s.impact < above) × SegmentsFall d s.impact segments

abbrev IsBelow : ℕ → SegmentData → Type 0
IsBelow above s = s.impact < above

fall_found : (d above : ℕ) (segments : List SegmentData) → All (IsSegment d) segments → AllPairs FallsTo segments → All (IsBelow above) segments → SegmentsFall d above segments
fall_found d above [] are pairs below = tt
fall_found d above (s ∷ segments) are pairs below = (
  All-head (IsSegment d) s segments are,
  All-head (IsBelow above) s segments below,
  fall_found d s.impact segments (All-tail (IsSegment d) s segments are) (pairs_tail FallsTo s segments pairs) (pairs_head FallsTo s segments pairs),
)

pub fall_only : (d above : ℕ) (segments : List SegmentData) → SegmentsFall d above segments → All (IsSegment d) segments × AllPairs FallsTo segments × All (IsBelow above) segments
fall_only d above [] are = (All-nil (IsSegment d), pairs_nil FallsTo, All-nil (IsBelow above))
fall_only d above (s ∷ segments) are =
    let later = fall_only d s.impact segments are.2 in
    let below = are.1 in (
      All-cons (IsSegment d) s segments are.0 later.0,
      AllPairs-cons FallsTo s segments later.2 later.1,
      All-cons (IsBelow above) s segments below (λ i x inside. let e = later.2 i x inside in omega (arith, e, below)),
    )

-- terms that rise from behind one, each an index's
abbrev pub TermsStand : ℕ → Option (List ℕ) → List TermData → Type 0
TermsStand d before [] = ⊤
TermsStand d before (t ∷ terms) = IsTermText before t.term × (1 ≤ length t.segments) × SegmentsFall d 65536 t.segments × Alone [] t.segments × TermsStand d (Some t.term) terms

abbrev IsBehind : Option (List ℕ) → TermData → Type 0
IsBehind before t = rises_behind before t.term ≡ true

behind_on : (before : Option (List ℕ)) (a b : List ℕ) → rises_behind before a ≡ true → BytesRise a b → rises_behind before b ≡ true
behind_on None a b one two = refl
behind_on (Some before) a b one two = bytes_rise_on before a b one two

small_impacts : (d : ℕ) (segments : List SegmentData) → All (IsSegment d) segments → All (IsBelow 65536) segments
small_impacts d segments are = λ i x inside. let e = (are i x inside).impact.1 in omega (arith, e)

terms_stand : (d : ℕ) (before : Option (List ℕ)) (terms : List TermData) → All (IsTerm d) terms → AllPairs RisesTo terms → All (IsBehind before) terms → TermsStand d before terms
terms_stand d before [] are pairs rise = tt
terms_stand d before (t ∷ terms) are pairs rise =
    let is = All-head (IsTerm d) t terms are in (
      record { fits = is.fits; text = is.text; rises = All-head (IsBehind before) t terms rise },
      is.some,
      fall_found d 65536 t.segments is.segments is.falling (small_impacts d t.segments is.segments),
      alone_found [] t.segments (λ i x inside. λ doc none. absurd (omega (arith, none.1))) is.once,
      terms_stand d (Some t.term) terms (All-tail (IsTerm d) t terms are) (pairs_tail RisesTo t terms pairs) (pairs_head RisesTo t terms pairs),
    )

record TermsAre (d : ℕ) (before : Option (List ℕ)) (terms : List TermData) : Type 0 where
  pub are : All (IsTerm d) terms
  pub pairs : AllPairs RisesTo terms
  pub rise : All (IsBehind before) terms

terms_are : (d : ℕ) (before : Option (List ℕ)) (terms : List TermData) → TermsStand d before terms → TermsAre d before terms
terms_are d before [] stand = record { are = All-nil (IsTerm d); pairs = pairs_nil RisesTo; rise = All-nil (IsBehind before) }
terms_are d before (t ∷ terms) stand =
    let text = stand.0 in
    let later = terms_are d (Some t.term) terms stand.4 in
    let fall = fall_only d 65536 t.segments stand.2 in
    record {
      are = All-cons (IsTerm d) t terms (record { text = text.text; fits = text.fits; some = stand.1; segments = fall.0; falling = fall.1; once = (alone_only [] t.segments stand.3).1 }) later.are;
      pairs = AllPairs-cons RisesTo t terms later.rise later.pairs;
      rise = All-cons (IsBehind before) t terms text.rises (λ i x inside. behind_on before t.term (slice_index_or terms i x).term text.rises (later.rise i x inside));
    }

pub index_found : (index : IndexData) → IsIndex index → TermsStand (length index.names) None index.terms
index_found index is = terms_stand (length index.names) None index.terms is.terms is.rising (λ i x inside. refl)

pub index_only : (d : ℕ) (terms : List TermData) → TermsStand d None terms → All (IsTerm d) terms × AllPairs RisesTo terms
index_only d terms stand = let are = terms_are d None terms stand in (are.are, are.pairs)
