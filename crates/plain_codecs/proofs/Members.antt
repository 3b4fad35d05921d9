-- Rising lists and their members, and the bits of members.
use Rattle.shared_lemmas.proofs.Common.{◌≡◌, ◌≢◌, ◌==◌, ℕ, zero, suc, ◌+◌, ◌<◌, ◌≤◌, Bool, true, false, cond, List, [], ◌∷◌, ◌++◌, length, get_or, Contains, refl, sym, ap, ◌∙◌, subst, arith, ◌||◌, list_any, nat_tests, Contains-push}
use Rattle.shared_lemmas.proofs.Members.{contains_behind, contains_first}
use Rattle.jass_base.proofs.Gaps.{RiseFrom}
use Rattle.plain_codecs.specs.Bitmap.{bit_for}

contains_rest : (x z : ℕ) (xs : List ℕ) → Contains (x ∷ xs) z → x ≢ z → Contains xs z
contains_rest x z xs in_all other = go in_all.0 in_all.1 in_all.2
  where
    go : (k : ℕ) → k < length (x ∷ xs) → get_or (x ∷ xs) k z ≡ z → Contains xs z
    go zero h is = absurd (other is)
    go (suc k) h is = (k, omega arith, is)

contains_none : (z : ℕ) → Contains [] z → ⊥
contains_none z in_none = let h = in_none.1 in omega arith

at_least : (least z : ℕ) (xs : List ℕ) → RiseFrom least xs → Contains xs z → least ≤ z
at_least least z [] rise in_xs = absurd (contains_none z in_xs)
at_least least z (x ∷ xs) rise in_xs = go in_xs.0 in_xs.1 in_xs.2 (λ rest. at_least (x + 1) z xs rise.1 rest)
  where
    go : (k : ℕ) → k < length (x ∷ xs) → get_or (x ∷ xs) k z ≡ z → (Contains xs z → x + 1 ≤ z) → least ≤ z
    go zero h is more = let low = rise.0 in omega (arith, is)
    go (suc k) h is more = let low = rise.0 in omega (arith, more (k, omega arith, is))

-- rising lists with the same members are the same
pub same_rising : (least : ℕ) (xs ys : List ℕ) → RiseFrom least xs → RiseFrom least ys → ((z : ℕ) → Contains xs z → Contains ys z) → ((z : ℕ) → Contains ys z → Contains xs z) → xs ≡ ys
same_rising least [] [] rise_x rise_y to from = refl
same_rising least [] (y ∷ ys) rise_x rise_y to from = absurd (contains_none y (from y (contains_first y y ys refl)))
same_rising least (x ∷ xs) [] rise_x rise_y to from = absurd (contains_none x (to x (contains_first x x xs refl)))
same_rising least (x ∷ xs) (y ∷ ys) rise_x rise_y to from =
    let down : y ≤ x = at_least y x (y ∷ ys) (omega arith, rise_y.1) (to x (contains_first x x xs refl)) in
    let up : x ≤ y = at_least x y (x ∷ xs) (omega arith, rise_x.1) (from y (contains_first y y ys refl)) in
    let same : x ≡ y = omega arith in
    let rise_rest : RiseFrom (x + 1) ys = subst (λ n. RiseFrom (n + 1) ys) (sym same) rise_y.1 in
    let rest = same_rising (x + 1) xs ys rise_x.1 rise_rest
    (λ z in_xs. let high = at_least (x + 1) z xs rise_x.1 in_xs in contains_rest y z ys (to z (contains_behind z x xs in_xs)) (λ e. omega (arith, e)))
    (λ z in_ys. let high = at_least (x + 1) z ys rise_rest in_ys in contains_rest x z xs (from z (contains_behind z y ys in_ys)) (λ e. omega (arith, e))) in
    ap (λ n. n ∷ xs) same ∙ ap (λ (zs : List ℕ). y ∷ zs) rest

-- ---- the bit of a member
abbrev Has : ℕ → List ℕ → Bool
Has x docs = list_any (λ doc. doc == x) docs

abbrev bit_if : Bool → ℕ
bit_if test = cond test 1 0

pub bit_small : (docs : List ℕ) (x : ℕ) → bit_for docs x < 2
bit_small docs x = go (Has x docs)
  where
    go : (b : Bool) → bit_if b < 2
    go true = omega arith
    go false = omega arith

has_member : (x : ℕ) (docs : List ℕ) → Contains docs x → Has x docs ≡ true
has_member x [] in_docs = absurd (contains_none x in_docs)
has_member x (doc ∷ docs) in_docs = go (doc == x) refl (λ other. has_member x docs (contains_rest doc x docs in_docs other))
  where
    go : (test : Bool) → (doc == x) ≡ test → (doc ≢ x → Has x docs ≡ true) → (test || Has x docs) ≡ true
    go true is more = refl
    go false is more = more (λ e. grind (arith, nat_tests))

member_has : (x : ℕ) (docs : List ℕ) → Has x docs ≡ true → Contains docs x
member_has x [] is = absurd cc
member_has x (doc ∷ docs) is = go (doc == x) refl is (λ rest. contains_behind x doc docs (member_has x docs rest))
  where
    go : (test : Bool) → (doc == x) ≡ test → (test || Has x docs) ≡ true → (Has x docs ≡ true → Contains (doc ∷ docs) x) → Contains (doc ∷ docs) x
    go true same is more = let e : doc ≡ x = grind (arith, nat_tests) in subst (λ n. Contains (doc ∷ docs) n) e (contains_first doc doc docs refl)
    go false same is more = more is

pub bit_of_member : (docs : List ℕ) (x : ℕ) → Contains docs x → bit_for docs x ≡ 1
bit_of_member docs x in_docs = ap bit_if (has_member x docs in_docs)

pub member_of_bit : (docs : List ℕ) (x : ℕ) → bit_for docs x ≡ 1 → Contains docs x
member_of_bit docs x is = go (Has x docs) refl is
  where
    go : (b : Bool) → Has x docs ≡ b → bit_if b ≡ 1 → Contains docs x
    go true has one = member_has x docs has
    go false has one = absurd (omega arith)

pub bit_of_none : (docs : List ℕ) (x : ℕ) → ((k : ℕ) → k < length docs → get_or docs k 0 ≢ x) → bit_for docs x ≡ 0
bit_of_none [] x none = refl
bit_of_none (doc ∷ docs) x none = go (doc == x) refl (bit_of_none docs x (λ k h. none (suc k) (omega arith)))
  where
    go : (test : Bool) → (doc == x) ≡ test → bit_for docs x ≡ 0 → bit_if (test || Has x docs) ≡ 0
    go true is rest = absurd (none 0 (omega arith) (let e : doc ≡ x = grind (arith, nat_tests) in e))
    go false is rest = rest

-- one document more
pub bit_of_last : (docs : List ℕ) (doc x : ℕ) → doc ≡ x → bit_for (docs ++ doc ∷ []) x ≡ 1
bit_of_last docs doc x is = bit_of_member (docs ++ doc ∷ []) x (subst (λ n. Contains (docs ++ doc ∷ []) n) is (Contains-push docs doc))

pub bit_of_one : (doc x : ℕ) → doc ≢ x → bit_for (doc ∷ []) x ≡ 0
bit_of_one doc x other = bit_of_none (doc ∷ []) x at
  where
    at : (k : ℕ) → k < length (doc ∷ []) → get_or (doc ∷ []) k 0 ≢ x
    at zero h is = other is
    at (suc k) h is = omega arith

pub bit_of_others : (docs more : List ℕ) (x : ℕ) → bit_for more x ≡ 0 → bit_for (docs ++ more) x ≡ bit_for docs x
bit_of_others [] more x none = none
bit_of_others (doc ∷ docs) more x none = go (doc == x) (bit_of_others docs more x none)
  where
    go : (test : Bool) → bit_for (docs ++ more) x ≡ bit_for docs x → bit_if (test || Has x (docs ++ more)) ≡ bit_if (test || Has x docs)
    go true rest = refl
    go false rest = rest
