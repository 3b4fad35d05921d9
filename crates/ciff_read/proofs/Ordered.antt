-- Records whose numbers differ have one order by rising numbers.
use Rattle.shared_lemmas.proofs.Common.{◌≡◌, ℕ, zero, suc, ◌<◌, Bool, true, false, cond, List, [], ◌∷◌, length, refl, sym, subst, ap, ◌∙◌, arith, inl, inr, ◌⊎◌, fold, ⊤, nat_eq, nat_lt, slice_index_or, IsPermutation, AllByRecursion, nat_tests, recursion_from_All, IsPermutation-sym}
use Rattle.shared_lemmas.proofs.Common.{Contains-permutation, IsDistinct-IsPermutation}
use Rattle.std.specs.List.{AllPairs, Contains, IsDistinct}
use Rattle.ciff_read.specs.Assembling.{by_number}
use Rattle.ciff_read.specs.Judging.{NumberedDoc}
use Rattle.ciff_read.specs.Reading.{inserted}

-- the number is below those of all these
abbrev IsBelow : NumberedDoc → List NumberedDoc → Type 0
IsBelow x rs = AllByRecursion (λ (r : NumberedDoc). x.number < r.number) rs

abbrev Rises : List NumberedDoc → Type 0
Rises [] = ⊤
Rises (x ∷ rs) = IsBelow x rs × Rises rs

abbrev Has : List NumberedDoc → NumberedDoc → Type 0
Has [] y = ⊥
Has (x ∷ rs) y = (x ≡ y) ⊎ Has rs y

-- the number is none of these
abbrev alike : NumberedDoc → NumberedDoc → Bool
alike x y = nat_eq x.number y.number

abbrev IsNew : List NumberedDoc → NumberedDoc → Type 0
IsNew rs x = AllByRecursion (λ (r : NumberedDoc). alike x r ≡ false) rs

-- ---- which records are there

has_at : (rs : List NumberedDoc) (y : NumberedDoc) → Contains rs y → Has rs y
has_at [] y there = absurd (omega (arith, there.1))
has_at (x ∷ rs) y there = go (has_at rs y) there.0 there.1 there.2
  where
    go : (Contains rs y → Has rs y) → (k : ℕ) → k < length (x ∷ rs) → slice_index_or (x ∷ rs) k y ≡ y → Has (x ∷ rs) y
    go again zero inside is = inl is
    go again (suc k) inside is = inr (again (k, omega arith, is))

at_has : (rs : List NumberedDoc) (y : NumberedDoc) → Has rs y → Contains rs y
at_has [] y there = absurd there
at_has (x ∷ rs) y (inl is) = (0, omega arith, is)
at_has (x ∷ rs) y (inr there) = let t = at_has rs y there in (suc t.0, omega (arith, t.1), t.2)

below_each : (x : NumberedDoc) (rs : List NumberedDoc) (y : NumberedDoc) → IsBelow x rs → Has rs y → x.number < y.number
below_each x [] y below there = absurd there
below_each x (r ∷ rs) y below (inl is) = subst (λ (z : NumberedDoc). x.number < z.number) is below.0
below_each x (r ∷ rs) y below (inr there) = below_each x rs y below.1 there

-- what is behind the first of one list is behind the first of the other, where the first are the same
behind_first : (x y : NumberedDoc) (xs ys : List NumberedDoc) (z : NumberedDoc) → x ≡ y → IsBelow x xs → Has xs z → Has (y ∷ ys) z → Has ys z
behind_first x y xs ys z first below there (inl is) =
    let same : x.number ≡ z.number = ap (λ (r : NumberedDoc). r.number) (first ∙ is) in
    absurd (omega (arith, same, below_each x xs z below there))
behind_first x y xs ys z first below there (inr more) = more

-- two lists that rise and have the same records are one
same_lists : (xs ys : List NumberedDoc) → Rises xs → Rises ys → ((z : NumberedDoc) → Has xs z → Has ys z) → ((z : NumberedDoc) → Has ys z → Has xs z) → xs ≡ ys
same_lists [] [] rise rising to back = refl
same_lists [] (y ∷ ys) rise rising to back = absurd (back y (inl refl))
same_lists (x ∷ xs) [] rise rising to back = absurd (to x (inl refl))
same_lists (x ∷ xs) (y ∷ ys) rise rising to back =
    let first = heads (to x (inl refl)) (back y (inl refl)) in
    let more = same_lists xs ys rise.1 rising.1 (λ z there. behind_first x y xs ys z first rise.0 there (to z (inr there))) (λ z there. behind_first y x ys xs z (sym first) rising.0 there (back z (inr there))) in
    ap (λ (r : NumberedDoc). r ∷ xs) first ∙ ap (λ (rs : List NumberedDoc). y ∷ rs) more
  where
    heads : Has (y ∷ ys) x → Has (x ∷ xs) y → x ≡ y
    heads (inl is) other = sym is
    heads (inr there) (inl is) = is
    heads (inr there) (inr other) = absurd (omega (arith, below_each y ys x rising.0 there, below_each x xs y rise.0 other))

-- ---- one record more

has_inserted : (x : NumberedDoc) (rs : List NumberedDoc) (y : NumberedDoc) → Has (inserted x rs) y → Has (x ∷ rs) y
has_inserted x [] y there = there
has_inserted x (r ∷ rs) y there = go (nat_lt r.number x.number) (has_inserted x rs y) there
  where
    behind : Has (x ∷ rs) y → Has (x ∷ r ∷ rs) y
    behind (inl is) = inl is
    behind (inr other) = inr (inr other)

    go : (test : Bool) → (Has (inserted x rs) y → Has (x ∷ rs) y) → Has (cond test (r ∷ inserted x rs) (x ∷ r ∷ rs)) y → Has (x ∷ r ∷ rs) y
    go true again (inl is) = inr (inl is)
    go true again (inr other) = behind (again other)
    go false again other = other

inserted_has : (x : NumberedDoc) (rs : List NumberedDoc) (y : NumberedDoc) → Has (x ∷ rs) y → Has (inserted x rs) y
inserted_has x [] y there = there
inserted_has x (r ∷ rs) y there = go (nat_lt r.number x.number) (inserted_has x rs y) there
  where
    go : (test : Bool) → (Has (x ∷ rs) y → Has (inserted x rs) y) → Has (x ∷ r ∷ rs) y → Has (cond test (r ∷ inserted x rs) (x ∷ r ∷ rs)) y
    go true again (inl is) = inr (again (inl is))
    go true again (inr (inl is)) = inl is
    go true again (inr (inr other)) = inr (again (inr other))
    go false again other = other

all_inserted : (P : NumberedDoc → Type 0) (x : NumberedDoc) (rs : List NumberedDoc) → P x → AllByRecursion P rs → AllByRecursion P (inserted x rs)
all_inserted P x [] one all = (one, tt)
all_inserted P x (r ∷ rs) one all = go (nat_lt r.number x.number) (all_inserted P x rs one all.1)
  where
    go : (test : Bool) → AllByRecursion P (inserted x rs) → AllByRecursion P (cond test (r ∷ inserted x rs) (x ∷ r ∷ rs))
    go true rest = (all.0, rest)
    go false rest = (one, all)

below_on : (x r : NumberedDoc) (rs : List NumberedDoc) → x.number < r.number → IsBelow r rs → IsBelow x rs
below_on x r [] less below = tt
below_on x r (s ∷ rs) less below = (omega (arith, less, below.0), below_on x r rs less below.1)

rises_inserted : (x : NumberedDoc) (rs : List NumberedDoc) → Rises rs → IsNew rs x → Rises (inserted x rs)
rises_inserted x [] rise new = (tt, tt)
rises_inserted x (r ∷ rs) rise new = go (nat_lt r.number x.number) refl (rises_inserted x rs rise.1 new.1)
  where
    go : (test : Bool) → nat_lt r.number x.number ≡ test → Rises (inserted x rs) → Rises (cond test (r ∷ inserted x rs) (x ∷ r ∷ rs))
    go true is rest =
        let less : r.number < x.number = grind (arith, nat_tests) in
        (all_inserted (λ (s : NumberedDoc). r.number < s.number) x rs less rise.0, rest)
    go false is rest =
        let other = new.0 in
        let less : x.number < r.number = grind (arith, nat_tests) in
        ((less, below_on x r rs less rise.0), rise)

-- ---- all records

abbrev placed_all : List NumberedDoc → List NumberedDoc → List NumberedDoc
placed_all so_far rs = fold (λ (others : List NumberedDoc) (x : NumberedDoc). inserted x others) so_far rs

has_placed : (rs so_far : List NumberedDoc) (y : NumberedDoc) → Has (placed_all so_far rs) y → Has so_far y ⊎ Has rs y
has_placed [] so_far y there = inl there
has_placed (x ∷ rs) so_far y there = go (has_placed rs (inserted x so_far) y there)
  where
    first : Has (x ∷ so_far) y → Has so_far y ⊎ Has (x ∷ rs) y
    first (inl is) = inr (inl is)
    first (inr other) = inl other

    go : Has (inserted x so_far) y ⊎ Has rs y → Has so_far y ⊎ Has (x ∷ rs) y
    go (inl other) = first (has_inserted x so_far y other)
    go (inr other) = inr (inr other)

placed_has : (rs so_far : List NumberedDoc) (y : NumberedDoc) → Has so_far y ⊎ Has rs y → Has (placed_all so_far rs) y
placed_has [] so_far y (inl there) = there
placed_has [] so_far y (inr there) = absurd there
placed_has (x ∷ rs) so_far y (inl there) = placed_has rs (inserted x so_far) y (inl (inserted_has x so_far y (inr there)))
placed_has (x ∷ rs) so_far y (inr (inl is)) = placed_has rs (inserted x so_far) y (inl (inserted_has x so_far y (inl is)))
placed_has (x ∷ rs) so_far y (inr (inr there)) = placed_has rs (inserted x so_far) y (inr there)

flips : (x y : NumberedDoc) → alike x y ≡ alike y x
flips x y = go (alike x y) (alike y x) refl refl
  where
    go : (a b : Bool) → alike x y ≡ a → alike y x ≡ b → a ≡ b
    go true true is other = refl
    go true false is other = absurd (let e : nat_eq y.number x.number ≡ true = grind (arith, nat_tests) in cc)
    go false true is other = absurd (let e : nat_eq x.number y.number ≡ true = grind (arith, nat_tests) in cc)
    go false false is other = refl

-- records that differ from one more differ from it where it stands
still_new : (x : NumberedDoc) (so_far rs : List NumberedDoc) → IsNew rs x → AllByRecursion (IsNew so_far) rs → AllByRecursion (IsNew (inserted x so_far)) rs
still_new x so_far [] apart new = tt
still_new x so_far (r ∷ rs) apart new = (all_inserted (λ (s : NumberedDoc). alike r s ≡ false) x so_far (flips r x ∙ apart.0) new.0, still_new x so_far rs apart.1 new.1)

rises_placed : (rs so_far : List NumberedDoc) → Rises so_far → IsDistinct alike rs → AllByRecursion (IsNew so_far) rs → Rises (placed_all so_far rs)
unfolding IsDistinct
rises_placed [] so_far rise differ new = rise
rises_placed (x ∷ rs) so_far rise differ new = rises_placed rs (inserted x so_far) (rises_inserted x so_far rise new.0) differ.1 (still_new x so_far rs differ.0 new.1)

none_before : (rs : List NumberedDoc) → AllByRecursion (IsNew []) rs
none_before [] = tt
none_before (x ∷ rs) = (tt, none_before rs)

-- ---- an order that is given

rises_from : (rs : List NumberedDoc) → AllPairs (λ (a b : NumberedDoc). a.number < b.number) rs → Rises rs
rises_from [] pairs = tt
rises_from (x ∷ rs) pairs = (recursion_from_All (λ (r : NumberedDoc). x.number < r.number) rs (λ k d inside. pairs 0 (suc k) d (omega arith) (omega arith)), rises_from rs (λ i j d less inside. pairs (suc i) (suc j) d (omega arith) (omega arith)))

below_differs : (x : NumberedDoc) (rs : List NumberedDoc) → IsBelow x rs → IsNew rs x
below_differs x [] below = tt
below_differs x (r ∷ rs) below = (let less = below.0 in grind (arith, nat_tests), below_differs x rs below.1)

rising_differ : (rs : List NumberedDoc) → Rises rs → IsDistinct alike rs
unfolding IsDistinct
rising_differ [] rise = tt
rising_differ (x ∷ rs) rise = (below_differs x rs rise.0, rising_differ rs rise.1)

only : (rs : List NumberedDoc) (y : NumberedDoc) → Has [] y ⊎ Has rs y → Has rs y
only rs y (inl none) = absurd none
only rs y (inr there) = there

pub one_order : (records ordered : List NumberedDoc) → IsPermutation ordered records → AllPairs (λ (a b : NumberedDoc). a.number < b.number) ordered → by_number records ≡ ordered
one_order records ordered moved pairs =
    let rise = rises_from ordered pairs in
    let differ = IsDistinct-IsPermutation alike flips ordered records moved (rising_differ ordered rise) in
    same_lists (by_number records) ordered (rises_placed records [] tt differ (none_before records)) rise
    (λ z there. has_at ordered z (Contains-permutation records ordered z (IsPermutation-sym ordered records moved) (at_has records z (only records z (has_placed records [] z there)))))
    (λ z there. placed_has records [] z (inr (has_at records z (Contains-permutation ordered records z moved (at_has ordered z there)))))
