-- What is read at places of a list, and the first place that passes a test.
use Rattle.shared_lemmas.proofs.Common.{◌≡◌, ℕ, zero, suc, ◌+◌, ◌<◌, Bool, true, false, not, List, [], ◌∷◌, length, get_or, replicate, All, Some, None, refl, ap, arith, inl, inr, add-one, ◌-◌, ◌≤◌, ◌++◌, take, drop, ◌∙◌, prefix_len, cases_lt, nat_tests, get_or_past, drop-append-le, take-append-le}
use Rattle.shared_lemmas.proofs.Common.{length-drop, length-append, take_all, prefix_len_is, slice_range, drop-append_seam}
use Rattle.std.specs.List.{position}

-- a read behind the end gives the default
pub in_range : (s : List ℕ) (d : ℕ) → 0 < get_or s d 0 → d < length s
in_range [] d some = absurd (omega arith)
in_range (x ∷ s) zero some = omega arith
in_range (x ∷ s) (suc d) some = let h : d < length s = in_range s d some in omega arith

-- a list of one item alone has it everywhere
pub same_there : {A : Type 0} (x : A) (n k : ℕ) → get_or (replicate n x) k x ≡ x
same_there x zero k = refl
same_there x (suc n) zero = refl
same_there x (suc n) (suc k) = same_there x n k

-- bytes are below 256 at each place, also behind the end
pub reads_below : (bytes : List ℕ) → All (λ b. b < 256) bytes → (k : ℕ) → get_or bytes k 0 < 256
reads_below bytes below k = elim (cases_lt k (length bytes)) [ inl l ↦ below k 0 l | inr g ↦ omega (arith, get_or_past bytes k 0 g) ]

pub same_four : {a b c d a' b' c' d' : ℕ} → a ≡ a' → b ≡ b' → c ≡ c' → d ≡ d' → (let x : List ℕ = a ∷ b ∷ c ∷ d ∷ [] in x) ≡ a' ∷ b' ∷ c' ∷ d' ∷ []
same_four e f g h = cc

-- the item behind a place is that of the rest
pub read_behind : (x : ℕ) (xs : List ℕ) (k : ℕ) → get_or (x ∷ xs) (suc k + 1) 0 ≡ get_or xs (k + 1) 0
read_behind x xs k = rw (add-one, add-one) refl

-- none before it passes, and it does
pub position_at : {X : Type 0} (p : X → Bool) (xs : List X) (i : ℕ) (d : X) → i < length xs
    → ((k : ℕ) → k < i → p (get_or xs k d) ≡ false) → p (get_or xs i d) ≡ true → position p xs ≡ Some i
position_at p xs i d inside before here =
    let n : prefix_len (λ x. not (p x)) xs ≡ i = prefix_len_is (λ x. not (p x)) xs i d (omega arith) (λ k h. ap not (before k h)) (λ _. ap not here) in
    rw n (grind (arith, nat_tests))

-- none passes
pub position_past : {X : Type 0} (p : X → Bool) (xs : List X) (d : X)
    → ((k : ℕ) → k < length xs → p (get_or xs k d) ≡ false) → position p xs ≡ None
position_past p xs d before =
    let n : prefix_len (λ x. not (p x)) xs ≡ length xs = prefix_len_is (λ x. not (p x)) xs (length xs) d (omega arith) (λ k h. ap not (before k h)) (λ h. absurd (omega arith)) in
    rw n (grind (arith, nat_tests))

-- what is appended leaves a part before it as it is, and is a part itself
pub slice_stays : {X : Type 0} (xs more : List X) (from to : ℕ) → from ≤ to → to ≤ length xs → slice_range (xs ++ more) from to ≡ slice_range xs from to
slice_stays xs more from to order within =
    ap (take (to - from)) (drop-append-le from xs more (omega (arith, order, within)))
    ∙ take-append-le (to - from) (drop from xs) more (let l = length-drop from xs in omega (arith, l, order, within))

pub slice_new : {X : Type 0} (xs more : List X) (from to : ℕ) → from ≡ length xs → to ≡ length (xs ++ more) → slice_range (xs ++ more) from to ≡ more
slice_new xs more from to first last =
    let l = length-append xs more in
    let size : to - from ≡ length more = omega (arith, l, first, last) in
    ap (λ n. take n (drop from (xs ++ more))) size ∙ ap (λ n. take (length more) (drop n (xs ++ more))) first ∙ ap (take (length more)) (drop-append_seam xs more) ∙ take_all (length more) more (omega arith)
