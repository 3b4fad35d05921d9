-- How far two lists agree, a piece at a time.
use Rattle.shared_lemmas.proofs.Common.{◌≡◌, ◌≢◌, ℕ, zero, suc, ◌+◌, ◌<◌, ◌≤◌, Bool, true, false, List, [], ◌∷◌, ◌++◌, length, take, drop, slice_get, Some, None, refl, sym, ap, ap₂, subst, ◌∙◌, arith, append-nil, append_assoc, length-append, length-drop, length-take-le, take-add, take-append-le, take-append-add, take-take, take_all, slice_get_past, ◌==◌, ◌⊎◌, inl, inr, cases_Bool, eqb-true, eqb-false}
use Rattle.run_audit.specs.declared.place.Place.{Place}
use Rattle.run_audit.specs.Verdicts.{PartAt}
use Rattle.run_audit.specs.Private.Places.{Advances, AdvancesTo, Agrees, AgreesAs}

-- ---- items at places

get_on : {A : Type 0} (known piece : List A) (at : ℕ) → at < length known → slice_get (known ++ piece) at ≡ slice_get known at
get_on [] piece at h = absurd (omega (arith, h))
get_on (x ∷ xs) piece zero h = refl
get_on (x ∷ xs) piece (suc at) h = get_on xs piece at (omega (arith, h))

get_behind : {A : Type 0} (known piece : List A) (i at : ℕ) → at ≡ length known + i → slice_get (known ++ piece) at ≡ slice_get piece i
get_behind [] piece i at h = let same : at ≡ i = omega (arith, h) in ap (slice_get piece) same
get_behind (x ∷ xs) piece i zero h = absurd (omega (arith, h))
get_behind (x ∷ xs) piece i (suc at) h = get_behind xs piece i at (omega (arith, h))

get_dropped : {A : Type 0} (xs : List A) (n i at : ℕ) → at ≡ n + i → slice_get (drop n xs) i ≡ slice_get xs at
get_dropped xs zero i at h = let same : i ≡ at = omega (arith, h) in ap (slice_get xs) same
get_dropped [] (suc n) i at h = refl
get_dropped (x ∷ xs) (suc n) i zero h = absurd (omega (arith, h))
get_dropped (x ∷ xs) (suc n) i (suc at) h = get_dropped xs n i at (omega (arith, h))

pub one_there : {A : Type 0} (xs : List A) (at : ℕ) (x : A) → slice_get xs at ≡ Some x → take 1 (drop at xs) ≡ x ∷ []
one_there [] at x h = cc
one_there (y ∷ ys) zero x h = let same : y ≡ x = cc in ap (λ z. z ∷ []) same
one_there (y ∷ ys) (suc at) x h = one_there ys at x h

-- ---- a piece more

module _ {A : Type 0} (known given piece : List A) (at : ℕ) where
  -- lists that part stay parted
  pub parted_on : AgreesAs known given at false → AgreesAs (known ++ piece) given at false
  parted_on h =
      let inside = h.0 in let longer = length-append known piece in (
        omega (arith, inside, longer),
        record { before = take-append-le at known piece (omega (arith, inside)) ∙ h.1.before; there = λ is. h.1.there (sym (get_on known piece at inside) ∙ is) },
      )

  module _ (within : at ≤ length given) (is : known ≡ take at given) where
    long : length known ≡ at
    long = ap length is ∙ length-take-le at given within

    both : (count : ℕ) → take count (drop at given) ≡ take count piece → known ++ take count piece ≡ take (at + count) given
    both count same = ap₂ (λ xs ys. xs ++ ys) is (sym same) ∙ sym (take-add at count given)

    -- the whole piece agrees
    pub agreed : length piece ≤ length (drop at given) → take (length piece) (drop at given) ≡ take (length piece) piece → AgreesAs (known ++ piece) given (at + length piece) true
    agreed there same =
        let rest = length-drop at given in (
          omega (arith, there, rest, within),
          ap (λ xs. known ++ xs) (sym (take_all (length piece) piece (omega arith))) ∙ both (length piece) same,
        )

    -- they part within the piece
    pub parted : (count : ℕ) → count < length piece → take count (drop at given) ≡ take count piece → slice_get (drop at given) count ≢ slice_get piece count → AgreesAs (known ++ piece) given (at + count) false
    parted count inside same differ =
        let longer = length-append known piece in (
          omega (arith, inside, longer, long),
          record {
            before = ap (λ n. take (n + count) (known ++ piece)) (sym long) ∙ take-append-add known piece count ∙ both count same;
            there = λ equal. differ (get_dropped given at count (at + count) refl ∙ sym equal ∙ get_behind known piece count (at + count) (ap (λ n. n + count) (sym long)));
          },
        )

-- ---- pieces behind one another

pub advances_none : {A : Type 0} (given : List A) (place : Place) → Advances given place place []
advances_none given place known h = subst (λ xs. Agrees xs given place) (sym (append-nil known)) h

pub advances_then : {A : Type 0} (given : List A) (p q r : Place) (first second : List A) → Advances given p q first → Advances given q r second → Advances given p r (first ++ second)
advances_then given p q r first second one two known h = subst (λ xs. Agrees xs given r) (append_assoc known first second) (two (known ++ first) (one known h))

pub to_none : {A : Type 0} (given : List A) (p : Place) (whole : List A) → AdvancesTo given p p whole whole
to_none given p whole = ([], advances_none given p, refl)

pub to_more : {A : Type 0} (given : List A) (p q r : Place) (whole left piece rest : List A) → left ≡ piece ++ rest → AdvancesTo given p q whole left → Advances given q r piece → AdvancesTo given p r whole rest
to_more given p q r whole left piece rest is to more =
    (to.0 ++ piece, advances_then given p q r to.0 piece to.1 more, append_assoc to.0 piece rest ∙ ap (λ xs. to.0 ++ xs) (sym is) ∙ to.2)

pub to_all : {A : Type 0} (given : List A) (p q : Place) (whole left : List A) → left ≡ [] → AdvancesTo given p q whole left → Advances given p q whole
to_all given p q whole left is to = subst (Advances given p q) (sym (append-nil to.0) ∙ ap (λ xs. to.0 ++ xs) (sym is) ∙ to.2) to.1

-- ---- at the end

-- lists that part, and a list that is longer than what is known
pub parts_there : {A : Type 0} (known given : List A) (at : ℕ) → AgreesAs known given at false → PartAt at known given
parts_there known given at h = h.1

pub parts_behind : {A : Type 0} (known given : List A) (at : ℕ) (x : A) → AgreesAs known given at true → slice_get given at ≡ Some x → PartAt at known given
parts_behind known given at x h there =
    let size : length known ≡ at = ap length h.1 ∙ length-take-le at given h.0 in
    record {
      before = ap (take at) h.1 ∙ take-take at at given (omega arith);
      there = λ is. let none : slice_get known at ≡ None = slice_get_past known at (omega (arith, size)) in let bad : Some x ≡ None = sym there ∙ sym is ∙ none in cc;
    }

pub same_lists : {A : Type 0} (known given : List A) (at : ℕ) → AgreesAs known given at true → length given ≤ at → given ≡ known
same_lists known given at h end = sym (h.1 ∙ take_all at given end)

-- ---- what the comparisons leave

-- a piece of which so much agrees with the rest
pub compared : {A : Type 0} (known given piece rest : List A) (at count : ℕ) (same : Bool) → same ≡ true → at ≤ length given → rest ≡ drop at given → count ≤ length rest → count ≤ length piece
    → take count rest ≡ take count piece → (count < length piece → slice_get rest count ≢ slice_get piece count) → AgreesAs known given at same → AgreesAs (known ++ piece) given (at + count) (count == length piece)
compared known given piece rest at count same holds within is there inside equal differ agrees =
    let was = subst (AgreesAs known given at) holds agrees in by (cases_Bool (count == length piece)) was.1
  where
    by : ((count == length piece) ≡ true) ⊎ ((count == length piece) ≡ false) → known ≡ take at given → AgreesAs (known ++ piece) given (at + count) (count == length piece)
    by (inl t) front =
        let all : count ≡ length piece = eqb-true count (length piece) t in
        rw t (subst (λ n. AgreesAs (known ++ piece) given (at + n) true) (sym all)
        (agreed known given piece at within front (subst (λ n. n ≤ length (drop at given)) all (subst (λ xs. count ≤ length xs) is there))
        (subst (λ n. take n (drop at given) ≡ take n piece) all (subst (λ xs. take count xs ≡ take count piece) is equal))))
    by (inr f) front =
        let less : count < length piece = (let other : count ≢ length piece = eqb-false count (length piece) f in omega (arith, inside, other)) in
        rw f (parted known given piece at within front count less (subst (λ xs. take count xs ≡ take count piece) is equal) (subst (λ xs. slice_get xs count ≢ slice_get piece count) is (differ less)))

-- where they parted before, they stay parted
pub compared_no_more : {A : Type 0} (known given piece : List A) (at : ℕ) (same : Bool) → same ≡ false → AgreesAs known given at same → AgreesAs (known ++ piece) given at same
compared_no_more known given piece at same fails agrees = rw fails (parted_on known given piece at (subst (AgreesAs known given at) fails agrees))

-- an item that isn't there
pub missing : {A : Type 0} (known given : List A) (item : A) (at : ℕ) (same : Bool) → same ≡ true → at ≤ length given → slice_get given at ≢ Some item → AgreesAs known given at same → AgreesAs (known ++ item ∷ []) given at false
missing known given item at same holds within differ agrees =
    let was = subst (AgreesAs known given at) holds agrees in
    let here : at + 0 ≡ at = omega arith in
    let none : slice_get (drop at given) 0 ≢ Some item = λ is. differ (sym (get_dropped given at 0 at (omega arith)) ∙ is) in
    subst (λ n. AgreesAs (known ++ item ∷ []) given n false) here (parted known given (item ∷ []) at within was.1 0 (omega arith) refl none)
