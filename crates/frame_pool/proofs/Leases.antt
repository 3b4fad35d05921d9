-- What a pool keeps, after each change of its leases and links.
use Rattle.shared_lemmas.proofs.Common.{◌≡◌, ◌≢◌, ℕ, suc, zero, ◌+◌, ◌-◌, ◌<◌, ◌≤◌, List, [], ◌∷◌, length, map, get_or, set, Option, Some, None, sum_by, cond, eqb, refl, sym, ap, subst, inl, inr, arith, get_or-set_same, get_or-set_other, AllByRecursion, sum_by-cons, ne_eqb, eqb_tells}
use Rattle.std.proofs.lemmas.Bool.{eq-eqb}
use Rattle.shared_lemmas.proofs.Lists.{all_weaker}
use Rattle.frame_pool.specs.declared.lease.Lease.{Lease}
use Rattle.frame_pool.specs.Links.{walk}
use Rattle.frame_pool.specs.Private.Kept.{Distinct, Belong, LeaseKept, EachKept, Kept, taken_by, promised_to}
use Rattle.frame_pool.proofs.Walks.{map-agree, walk-same, ends-same, not_in, belong-same}

-- the owners with one changed
abbrev pub changed : (ℕ → ℕ) → ℕ → ℕ → ℕ → ℕ
changed owner f o x = cond (eqb x f) o (owner x)

pub changed-same : (owner : ℕ → ℕ) (f o : ℕ) → changed owner f o f ≡ o
changed-same owner f o = ap (λ b. cond b o (owner f)) (eq-eqb f f refl)

pub changed-other : (owner : ℕ → ℕ) (f o x : ℕ) → x ≢ f → changed owner f o x ≡ owner x
changed-other owner f o x ne = ap (λ b. cond b o (owner x)) (ne_eqb x f ne)

pub in_range : (leases : List (Option Lease)) (c : ℕ) (l : Lease) → get_or leases c None ≡ Some l → c < length leases
in_range [] c l is = cc
in_range (x ∷ xs) zero l is = omega arith
in_range (x ∷ xs) (suc c) l is = let h : c < length xs = in_range xs c l is in omega arith

pub within_promise : (n : ℕ) (next page owner : ℕ → ℕ) (c : ℕ) (o : Option Lease) → EachKept n next page owner c o → taken_by o ≤ promised_to o
within_promise n next page owner c None h = omega arith
within_promise n next page owner c (Some l) h = h.within

pub sum_le : (xs : List (Option Lease)) → ((i : ℕ) → taken_by (get_or xs i None) ≤ promised_to (get_or xs i None)) → sum_by taken_by xs ≤ sum_by promised_to xs
sum_le [] le = omega arith
sum_le (x ∷ xs) le =
    let here : taken_by x ≤ promised_to x = le 0 in
    omega (arith, sum_by-cons taken_by x xs, sum_by-cons promised_to x xs, sum_le xs (λ i. le (suc i)))

pub sum_lt : (xs : List (Option Lease)) (c : ℕ) → ((i : ℕ) → taken_by (get_or xs i None) ≤ promised_to (get_or xs i None))
    → taken_by (get_or xs c None) < promised_to (get_or xs c None) → sum_by taken_by xs < sum_by promised_to xs
sum_lt [] c le lt = omega arith
sum_lt (x ∷ xs) zero le lt =
    let here : taken_by x < promised_to x = lt in
    omega (arith, sum_by-cons taken_by x xs, sum_by-cons promised_to x xs, sum_le xs (λ i. le (suc i)))
sum_lt (x ∷ xs) (suc c) le lt =
    let here : taken_by x ≤ promised_to x = le 0 in
    omega (arith, sum_by-cons taken_by x xs, sum_by-cons promised_to x xs, sum_lt xs c (λ i. le (suc i)) lt)

-- a lease stays under new links, pages and owners that agree on its frames
pub each-other : (n : ℕ) (next next' page page' owner owner' : ℕ → ℕ) (d f : ℕ) (o : Option Lease) → EachKept n next page owner d o → owner f ≢ d + 1
    → ((x : ℕ) → x ≢ f → next' x ≡ next x) → ((x : ℕ) → x ≢ f → page' x ≡ page x) → ((x : ℕ) → owner x ≡ d + 1 → owner' x ≡ d + 1) → EachKept n next' page' owner' d o
each-other n next next' page page' owner owner' d f None k ne same_link same_page same_owner = tt
each-other n next next' page page' owner owner' d f (Some l) k ne same_link same_page same_owner =
    let frames : List ℕ = walk next l.taken l.first in
    let apart : AllByRecursion (λ x. x ≢ f) frames = not_in n owner (d + 1) frames f k.belong.owned ne in
    let agree : AllByRecursion (λ x. next' x ≡ next x) frames = all_weaker (λ x. x ≢ f) (λ x. next' x ≡ next x) same_link frames apart in
    let agree_page : AllByRecursion (λ x. page' x ≡ page x) frames = all_weaker (λ x. x ≢ f) (λ x. page' x ≡ page x) same_page frames apart in
    let is : walk next' l.taken l.first ≡ frames = walk-same next next' l.taken l.first agree in
    let owners : AllByRecursion (λ x. owner x ≡ d + 1 → owner' x ≡ d + 1) frames = all_weaker (λ x. x ≢ f) (λ x. owner x ≡ d + 1 → owner' x ≡ d + 1) (λ x _. same_owner x) frames apart in
    record {
      belong = subst (λ (xs : List ℕ). Belong n owner' (d + 1) xs) (sym is) (belong-same n owner owner' (d + 1) (d + 1) frames owners k.belong);
      ends = ends-same next next' l.taken l.first l.last agree k.ends;
      within = k.within;
      pages = subst (λ (xs : List ℕ). Distinct (map page' xs)) (sym is) (subst (λ (ys : List ℕ). Distinct ys) (sym (map-agree page page' frames agree_page)) k.pages);
    }

pub lease_kept : (n : ℕ) (next page : ℕ → ℕ) (free : ℕ) (leases : List (Option Lease)) (promised c : ℕ) (l : Lease) (kept : Kept n next page free leases promised)
    → get_or leases c None ≡ Some l → LeaseKept n next page kept.owner c l
lease_kept n next page free leases promised c l kept is = subst (λ (o : Option Lease). EachKept n next page kept.owner c o) is (kept.each c)

pub all_taken_fit : (n : ℕ) (next page : ℕ → ℕ) (free : ℕ) (leases : List (Option Lease)) (promised : ℕ) → Kept n next page free leases promised → sum_by taken_by leases ≤ n
all_taken_fit n next page free leases promised kept =
    omega (arith, kept.promised_is, kept.fits, sum_le leases (λ i. within_promise n next page kept.owner i (get_or leases i None) (kept.each i)))

-- a chain with room for a frame leaves one free
pub some_free : (n : ℕ) (next page : ℕ → ℕ) (free : ℕ) (leases : List (Option Lease)) (promised c : ℕ) (l : Lease) (kept : Kept n next page free leases promised)
    → get_or leases c None ≡ Some l → l.taken < l.promise → sum_by taken_by leases < n
some_free n next page free leases promised c l kept is room =
    let lt : taken_by (get_or leases c None) < promised_to (get_or leases c None) = subst (λ (o : Option Lease). taken_by o < promised_to o) (sym is) room in
    omega (arith, kept.promised_is, kept.fits, sum_lt leases c (λ i. within_promise n next page kept.owner i (get_or leases i None) (kept.each i)) lt)

-- the free frames, of which there is one
pub free_at : (n : ℕ) (next page : ℕ → ℕ) (free m : ℕ) (leases : List (Option Lease)) (promised : ℕ) (kept : Kept n next page free leases promised)
    → n - sum_by taken_by leases ≡ suc m → Belong n kept.owner 0 (free ∷ walk next m (next free))
free_at n next page free m leases promised kept is = subst (λ j. Belong n kept.owner 0 (walk next j free)) is kept.free_frames

-- each place of a list after a write
pub each-set : (P : ℕ → Option Lease → Type 0) (leases : List (Option Lease)) (c : ℕ) (o : Option Lease) → c < length leases → P c o
    → ((d : ℕ) → d ≢ c → P d (get_or leases d None)) → (d : ℕ) → P d (get_or (set leases c o) d None)
each-set P leases c o inside here others d = elim (eqb_tells d c) as (λ _. P d (get_or (set leases c o) d None)) [
  | inl same ↦ subst (λ (e : ℕ). P e (get_or (set leases c o) e None)) (sym same.1) (subst (P c) (sym (get_or-set_same leases c o None inside)) here)
  | inr other ↦ subst (P d) (sym (get_or-set_other leases c d o None other.1)) (others d other.1)
]
