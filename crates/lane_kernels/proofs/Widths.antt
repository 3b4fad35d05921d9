-- Widths: which numbers are below a power of two.
use Rattle.shared_lemmas.proofs.Common.{◌≡◌, ◌↔◌, ℕ, zero, suc, ◌+◌, ◌^◌, ◌<◌, ◌≤◌, List, [], ◌∷◌, ◌++◌, length, get_or, take, bit_or, All, sym, arith, inl, inr, subst, AllByRecursion, cases_lt, pow_more, get_or_default, take_all, or_lt, le_or_l, le_or_r, leading_length, pow_pos}
use Rattle.std.proofs.Math.Pow.{pow_mono}
use Rattle.lane_kernels.specs.Width.{bit_width, least_width}
use Rattle.lane_kernels.proofs.Sums.{front_and_chunk}
use lib.Lanes.{zip2, chunk, fold_l}

-- each of the numbers is below 2 ^ width
abbrev pub Below : ℕ → List ℕ → Type 0
Below width xs = AllByRecursion (λ v. v < 2 ^ width) xs

pub below_from_All : (width : ℕ) (xs : List ℕ) → All (λ v. v < 2 ^ width) xs → Below width xs
below_from_All width [] h = tt
below_from_All width (x ∷ xs) h = (h 0 0 (omega arith), below_from_All width xs (λ k d l. h (suc k) d (omega arith)))

pub All-from_below : (width : ℕ) (xs : List ℕ) → Below width xs → All (λ v. v < 2 ^ width) xs
All-from_below width [] h k d l = absurd (omega arith)
All-from_below width (x ∷ xs) h zero d l = h.0
All-from_below width (x ∷ xs) h (suc k) d l = All-from_below width xs h.1 k d (omega arith)

below_append : (width : ℕ) (xs ys : List ℕ) → Below width xs → Below width ys → Below width (xs ++ ys)
below_append width [] ys h k = k
below_append width (x ∷ xs) ys h k = (h.0, below_append width xs ys h.1 k)

below_front : (width : ℕ) (xs ys : List ℕ) → Below width (xs ++ ys) → Below width xs × Below width ys
below_front width [] ys h = (tt, h)
below_front width (x ∷ xs) ys h = let r = below_front width xs ys h.1 in ((h.0, r.0), r.1)

-- ---- the union of lanes
union_below : (width : ℕ) (xs ys : List ℕ) → Below width xs → Below width ys → Below width (zip2 bit_or xs ys)
union_below width [] ys h k = tt
union_below width (x ∷ xs) [] h k = tt
union_below width (x ∷ xs) (y ∷ ys) h k = (or_lt width x y h.0 k.0, union_below width xs ys h.1 k.1)

below_union : (width : ℕ) (xs ys : List ℕ) → length xs ≡ length ys → Below width (zip2 bit_or xs ys) → Below width xs × Below width ys
below_union width [] [] e h = (tt, tt)
below_union width [] (y ∷ ys) e h = absurd (omega arith)
below_union width (x ∷ xs) [] e h = absurd (omega arith)
below_union width (x ∷ xs) (y ∷ ys) e h =
    let r = below_union width xs ys (omega arith) h.1 in
    ((omega (arith, h.0, le_or_l x y), r.0), (omega (arith, h.0, le_or_r x y), r.1))

fold_below : (width a : ℕ) (xs : List ℕ) → a < 2 ^ width → Below width xs → fold_l bit_or a xs < 2 ^ width
fold_below width a [] h k = h
fold_below width a (x ∷ xs) h k = fold_below width (bit_or a x) xs (or_lt width a x h k.0) k.1

below_fold : (width a : ℕ) (xs : List ℕ) → fold_l bit_or a xs < 2 ^ width → (a < 2 ^ width) × Below width xs
below_fold width a [] h = (h, tt)
below_fold width a (x ∷ xs) h = let r = below_fold width (bit_or a x) xs h in (omega (arith, r.0, le_or_l a x), (omega (arith, r.0, le_or_r a x), r.1))

-- a row of the loop
pub union_more : (width : ℕ) (xs union lanes : List ℕ) (i : ℕ) → lanes ≡ chunk i 4 xs → length union ≡ length lanes → (Below width union ↔ Below width (take i xs))
    → Below width (zip2 bit_or union lanes) ↔ Below width (take (i + 4) xs)
union_more width xs union lanes i loaded long so_far = (
  λ h. let r = below_union width union lanes long h in
      subst (Below width) (sym (front_and_chunk xs i)) (below_append width (take i xs) (chunk i 4 xs) (so_far.0 r.0) (subst (Below width) loaded r.1)),
  λ h. let r = below_front width (take i xs) (chunk i 4 xs) (subst (Below width) (front_and_chunk xs i) h) in
      union_below width union lanes (so_far.1 r.0) (subst (Below width) (sym loaded) r.1),
)

pub union_all : (width : ℕ) (xs union : List ℕ) (i : ℕ) → length xs ≤ i → (Below width union ↔ Below width (take i xs))
    → (fold_l bit_or 0 union < 2 ^ width) ↔ All (λ v. v < 2 ^ width) xs
union_all width xs union i past so_far = (
  λ h. All-from_below width xs (subst (Below width) (take_all i xs past) (so_far.0 (below_fold width 0 union h).1)),
  λ h. fold_below width 0 union (pow_pos width) (so_far.1 (subst (Below width) (sym (take_all i xs past)) (below_from_All width xs h))),
)

-- ---- the least width
pub width_holds : (v : ℕ) → v < 2 ^ 32 → v < 2 ^ bit_width v
width_holds v small = let t = leading_length 32 v small in subst (λ n. v < 2 ^ n) (let e : t.0 ≡ bit_width v = omega (arith, t.1) in e) t.2

pub width_least : (v width : ℕ) → v < 2 ^ 32 → v < 2 ^ width → bit_width v ≤ width
width_least v width small below =
    let t = leading_length 32 v small in
    elim (cases_lt width t.0) [
      | inl l ↦
          let more : 2 ^ (width + 1) ≤ 2 ^ t.0 = pow_mono (let e : width + 1 ≤ t.0 = omega arith in e) in
          absurd (omega (arith, t.3, more, pow_more 2 width))
      | inr g ↦ omega (arith, t.1)
    ]

-- `width` holds what a width that is at most it holds
below_wider : (narrow width v : ℕ) → narrow ≤ width → v < 2 ^ narrow → v < 2 ^ width
below_wider narrow width v le below = let more : 2 ^ narrow ≤ 2 ^ width = pow_mono le in omega arith

wider_list : (narrow width : ℕ) → narrow ≤ width → (xs : List ℕ) → Below narrow xs → Below width xs
wider_list narrow width le [] h = tt
wider_list narrow width le (x ∷ xs) h = (below_wider narrow width x le h.0, wider_list narrow width le xs h.1)

pub least_width_holds : (xs : List ℕ) → Below 32 xs → Below (least_width xs) xs
least_width_holds [] small = tt
least_width_holds (x ∷ xs) small = (
  below_wider (bit_width x) (least_width (x ∷ xs)) x (omega arith) (width_holds x small.0),
  wider_list (least_width xs) (least_width (x ∷ xs)) (omega arith) xs (least_width_holds xs small.1),
)

pub least_width_least : (xs : List ℕ) (width : ℕ) → Below 32 xs → Below width xs → least_width xs ≤ width
least_width_least [] width small h = omega arith
least_width_least (x ∷ xs) width small h = omega (arith, width_least x width small.0 h.0, least_width_least xs width small.1 h.1)

-- the width of a union is the least width
module _ (xs : List ℕ) (union : ℕ) (small : Below 32 xs) (same : (width : ℕ) → (union < 2 ^ width) ↔ All (λ v. v < 2 ^ width) xs) where
  small_union : union < 2 ^ 32
  small_union = (same 32).1 (All-from_below 32 xs small)

  pub union_least : (width : ℕ) → All (λ v. v < 2 ^ width) xs → bit_width union ≤ width
  union_least width h = width_least union width small_union ((same width).1 h)

  pub union_holds : All (λ v. v < 2 ^ bit_width union) xs
  union_holds = (same (bit_width union)).0 (width_holds union small_union)

  pub union_width : bit_width union ≡ least_width xs
  union_width =
      let at_most = union_least (least_width xs) (All-from_below (least_width xs) xs (least_width_holds xs small)) in
      omega (arith, least_width_least xs (bit_width union) small (below_from_All (bit_width union) xs union_holds))

pub small_from_reads : (xs : List ℕ) → ((k : ℕ) → get_or xs k 0 < 2 ^ 32) → Below 32 xs
small_from_reads xs h = below_from_All 32 xs (λ k d l. omega (arith, get_or_default xs k d 0 l, h k))
