-- Segments that share no document.
use Rattle.shared_lemmas.proofs.Common.{inl, inr, ◌≡◌, ℕ, suc, Bool, true, false, List, [], ◌∷◌, ◌++◌, All, ap, sym, ◌∙◌, refl, arith, slice_index_or, ⊤, ◌⊎◌, Contains, AllPairs, nat_eq_equiv, All-head, All-tail, All-cons, All-nil, Contains-append_left, Contains-append_right, Contains-append_cases}
use Rattle.shared_lemmas.proofs.Common.{Any-from_list_any, list_any_at, AllPairs-cons, Contains-from_any, list_any-from_Contains}
use Rattle.index_model.specs.Index.{SegmentData, SharesNoDocument}
use Rattle.index_layout.specs.Reading.{is_among, shares_one}
use Rattle.std.proofs.lemmas.Bool.{eqb-true}

pub pairs_nil : {X : Type 0} (R : X → X → Type 0) → AllPairs R []
pairs_nil R = λ i j d less inside. absurd (omega (arith, inside))

pub pairs_head : {X : Type 0} (R : X → X → Type 0) (x : X) (xs : List X) → AllPairs R (x ∷ xs) → All (R x) xs
pairs_head R x xs are = λ i d inside. are 0 (suc i) d (omega arith) (omega (arith, inside))

pub pairs_tail : {X : Type 0} (R : X → X → Type 0) (x : X) (xs : List X) → AllPairs R (x ∷ xs) → AllPairs R xs
pairs_tail R x xs are = λ i j d less inside. are (suc i) (suc j) d (omega (arith, less)) (omega (arith, inside))

-- no document stands in both lists
abbrev pub AreApart : List ℕ → List ℕ → Type 0
AreApart earlier docs = (doc : ℕ) → Contains earlier doc → ¬ Contains docs doc

apart_found : (earlier docs : List ℕ) → AreApart earlier docs → shares_one earlier docs ≡ false
apart_found earlier docs none = by_answer (shares_one earlier docs) refl
  where
    by_answer : (b : Bool) → b ≡ shares_one earlier docs → shares_one earlier docs ≡ false
    by_answer false is = sym is
    by_answer true is =
        let any = Any-from_list_any (is_among earlier) docs (sym is) in
        absurd (none any.1 (Contains-from_any eqb-true any.1 earlier any.4) (any.0, any.2, any.3))

apart_only : (earlier docs : List ℕ) → shares_one earlier docs ≡ false → AreApart earlier docs
apart_only earlier docs is = λ doc one two.
    let among : is_among earlier doc ≡ true = list_any-from_Contains nat_eq_equiv doc earlier one in
    let found : shares_one earlier docs ≡ true = list_any_at (is_among earlier) docs two.0 doc two.1 (ap (is_among earlier) two.2 ∙ among) in
    absurd cc

-- segments that share no document with one another, nor with earlier ones
abbrev pub Alone : List ℕ → List SegmentData → Type 0
Alone earlier [] = ⊤
Alone earlier (s ∷ segments) = (shares_one earlier s.docs ≡ false) × Alone (earlier ++ s.docs) segments

both_apart : (one two docs : List ℕ) → AreApart one docs → AreApart two docs → AreApart (one ++ two) docs
both_apart one two docs first second = λ doc has. either doc (Contains-append_cases one two doc has)
  where
    either : (doc : ℕ) → Contains one doc ⊎ Contains two doc → ¬ Contains docs doc
    either doc (inl has) = first doc has
    either doc (inr has) = second doc has

pub alone_found : (earlier : List ℕ) (segments : List SegmentData) → All (λ (s : SegmentData). AreApart earlier s.docs) segments → AllPairs SharesNoDocument segments → Alone earlier segments
alone_found earlier [] none pairs = tt
alone_found earlier (s ∷ segments) none pairs =
    let first = All-tail (λ (s : SegmentData). AreApart earlier s.docs) s segments none in
    let second = pairs_head SharesNoDocument s segments pairs in (
      apart_found earlier s.docs (All-head (λ (s : SegmentData). AreApart earlier s.docs) s segments none),
      alone_found (earlier ++ s.docs) segments (λ i d inside. both_apart earlier s.docs (slice_index_or segments i d).docs (first i d inside) (second i d inside)) (pairs_tail SharesNoDocument s segments pairs),
    )

pub alone_only : (earlier : List ℕ) (segments : List SegmentData) → Alone earlier segments → All (λ (s : SegmentData). AreApart earlier s.docs) segments × AllPairs SharesNoDocument segments
alone_only earlier [] alone = (All-nil (λ (s : SegmentData). AreApart earlier s.docs), pairs_nil SharesNoDocument)
alone_only earlier (s ∷ segments) alone =
    let later = alone_only (earlier ++ s.docs) segments alone.1 in (
      All-cons (λ (s : SegmentData). AreApart earlier s.docs) s segments (apart_only earlier s.docs alone.0) (λ i d inside. λ doc has. later.0 i d inside doc (Contains-append_left earlier s.docs doc has)),
      AllPairs-cons SharesNoDocument s segments (λ i d inside. λ doc has. later.0 i d inside doc (Contains-append_right earlier s.docs doc has)) later.1,
    )
