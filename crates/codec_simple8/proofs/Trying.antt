-- Passing over gaps while they fit into words together.
use Rattle.shared_lemmas.proofs.Common.{◌≡◌, ℕ, zero, suc, ◌+◌, ◌^◌, ◌<◌, ◌≤◌, true, false, List, [], ◌∷◌, length, take, get_or, bit_or, ◌⊎◌, inl, inr, refl, sym, ap, subst, ◌∙◌, arith, nat_lt, nat_le, ◌&&◌, list_all, cases_lt, nat_tests, take-take, list_all_more, or_lt, le_or_l, le_or_r}
use Rattle.codec_simple8.specs.Simple8.{count_of, width_of, takes, selector_of}
use Rattle.codec_simple8.proofs.Digits.{Below, Below-head, Below-tail, Below-cons}
use Rattle.codec_simple8.proofs.Selectors.{one_of, Either, selector_is}
use Rattle.codec_simple8.proofs.Tables.{last_only, last_width}
use Rattle.codec_simple8.proofs.Words.{takes_enough, takes_narrow}

-- a selector fails where there are too few gaps
pub fails_few : (gaps : List ℕ) (selector : ℕ) → length gaps < count_of selector → takes selector gaps ≡ false
fails_few gaps selector few = let t : nat_le (count_of selector) (length gaps) ≡ false = grind (arith, nat_tests) in rw t refl

pub Below-take : (p n : ℕ) (xs : List ℕ) → Below p xs → Below p (take n xs)
Below-take p zero xs all = refl
Below-take p (suc n) [] all = refl
Below-take p (suc n) (x ∷ xs) all = Below-cons p x (take n xs) (Below-head p x xs all) (Below-take p n xs (Below-tail p x xs all))

pub Below-fewer : (p m n : ℕ) (xs : List ℕ) → m ≤ n → Below p (take n xs) → Below p (take m xs)
Below-fewer p m n xs fewer all = subst (Below p) (take-take m n xs fewer) (Below-take p m (take n xs) all)

-- a width holds these bits exactly where it holds each of the first `seen` gaps
abbrev pub Joined : List ℕ → ℕ → ℕ → Type 0
Joined gaps seen bits = (w : ℕ) → list_all (λ gap. nat_lt gap (2 ^ w)) (take seen gaps) ≡ nat_lt bits (2 ^ w)

-- the gaps that were seen fit together into each word that has no more
pub record Fitting (gaps : List ℕ) (seen bits : ℕ) : Type 0 where
  pub joined : Joined gaps seen bits
  pub fit : (s : ℕ) → s < 16 → count_of s ≤ seen → bits < 2 ^ width_of s

no_gaps_more : (a b p : ℕ) (w : ℕ) → p ≡ 2 ^ w → nat_lt (bit_or a b) p ≡ (nat_lt a p && nat_lt b p)
no_gaps_more a b p w is = go (cases_lt a p) (cases_lt b p)
  where
    go : (a < p) ⊎ (p ≤ a) → (b < p) ⊎ (p ≤ b) → nat_lt (bit_or a b) p ≡ (nat_lt a p && nat_lt b p)
    go (inl less) (inl less') =
        let both : bit_or a b < p = subst (λ q. bit_or a b < q) (sym is) (or_lt w a b (omega (arith, less, is)) (omega (arith, less', is))) in
        let t : nat_lt (bit_or a b) p ≡ true = grind (arith, nat_tests) in
        let u : nat_lt a p ≡ true = grind (arith, nat_tests) in
        let v : nat_lt b p ≡ true = grind (arith, nat_tests) in
        rw (t, u, v) refl
    go (inr more) other =
        let most = le_or_l a b in
        let t : nat_lt (bit_or a b) p ≡ false = grind (arith, nat_tests) in
        let u : nat_lt a p ≡ false = grind (arith, nat_tests) in
        rw (t, u) refl
    go (inl less) (inr more) =
        let most = le_or_r a b in
        let t : nat_lt (bit_or a b) p ≡ false = grind (arith, nat_tests) in
        let u : nat_lt a p ≡ true = grind (arith, nat_tests) in
        let v : nat_lt b p ≡ false = grind (arith, nat_tests) in
        rw (t, u, v) refl

-- one gap more
pub joined_more : (gaps : List ℕ) (seen bits gap : ℕ) → seen < length gaps → gap ≡ get_or gaps seen 0 → Joined gaps seen bits → Joined gaps (seen + 1) (bit_or bits gap)
joined_more gaps seen bits gap within is joined = λ w.
    list_all_more (λ gap. nat_lt gap (2 ^ w)) gaps seen 0 within
    ∙ rw (joined w, sym is) (sym (no_gaps_more bits gap (2 ^ w) w refl))

pub joined_first : (gaps : List ℕ) (gap : ℕ) → 0 < length gaps → gap ≡ get_or gaps 0 0 → Joined gaps 1 gap
joined_first [] gap some is = absurd (omega arith)
joined_first (x ∷ gaps) gap some is = λ w. go (2 ^ w) (cases_lt gap (2 ^ w))
  where
    go : (p : ℕ) → (gap < p) ⊎ (p ≤ gap) → list_all (λ gap. nat_lt gap p) (take 1 (x ∷ gaps)) ≡ nat_lt gap p
    go p (inl less) = let t : nat_lt x p ≡ true = grind (arith, nat_tests, is) in let u : nat_lt gap p ≡ true = grind (arith, nat_tests) in rw (t, u) refl
    go p (inr more) = let t : nat_lt x p ≡ false = grind (arith, nat_tests, is) in let u : nat_lt gap p ≡ false = grind (arith, nat_tests) in rw (t, u) refl

-- a selector whose word has no more gaps than fit together takes the gaps
pub fit_taken : (gaps : List ℕ) (seen bits s : ℕ) → Fitting gaps seen bits → seen ≤ length gaps → s < 16 → count_of s ≤ seen → takes s gaps ≡ true
fit_taken gaps seen bits s fitting within small few =
    let fits = fitting.fit s small few in
    let t : nat_lt bits (2 ^ width_of s) ≡ true = grind (arith, nat_tests) in
    let narrow : Below (2 ^ width_of s) (take (count_of s) gaps) = Below-fewer (2 ^ width_of s) (count_of s) seen gaps few (fitting.joined (width_of s) ∙ t) in
    let enough : nat_le (count_of s) (length gaps) ≡ true = grind (arith, nat_tests) in
    rw (enough, narrow) refl

-- and one whose word has a gap more than fit together doesn't
pub past_fails : (gaps : List ℕ) (seen bits s : ℕ) → Joined gaps seen bits → seen ≤ count_of s → 2 ^ width_of s ≤ bits → takes s gaps ≡ false
past_fails gaps seen bits s joined more wide = go (one_of (takes s gaps))
  where
    go : Either (takes s gaps) → takes s gaps ≡ false
    go (inr fails) = fails
    go (inl taken) =
        let narrow = Below-fewer (2 ^ width_of s) seen (count_of s) gaps more (takes_narrow s gaps taken) in
        let t : nat_lt bits (2 ^ width_of s) ≡ true = sym (joined (width_of s)) ∙ narrow in
        let u : nat_lt bits (2 ^ width_of s) ≡ false = grind (arith, nat_tests) in
        absurd cc

-- where passing over the gaps ends, a selector takes them exactly where its word has no more
pub ends : (gaps : List ℕ) (seen bits : ℕ) → Fitting gaps seen bits → seen ≤ length gaps → ((s : ℕ) → s < 16 → seen < count_of s → takes s gaps ≡ false)
    → (s : ℕ) → s < 16 → takes s gaps ≡ nat_le (count_of s) seen
ends gaps seen bits fitting within fail s small = elim (cases_lt seen (count_of s)) [
  | inl more ↦ let t : nat_le (count_of s) seen ≡ false = grind (arith, nat_tests) in fail s small more ∙ sym t
  | inr few ↦ let t : nat_le (count_of s) seen ≡ true = grind (arith, nat_tests) in fit_taken gaps seen bits s fitting within small few ∙ sym t
]

-- the least selector whose word has no more gaps than fit
pub least_is : (gaps : List ℕ) (seen selector : ℕ) → ((s : ℕ) → s < 16 → takes s gaps ≡ nat_le (count_of s) seen) → selector < 16 → count_of selector ≤ seen
    → ((s : ℕ) → s < selector → seen < count_of s) → (selector ≡ selector_of gaps) × (count_of selector ≤ length gaps)
least_is gaps seen selector exact small few least =
    let t : nat_le (count_of selector) seen ≡ true = grind (arith, nat_tests) in
    let taken : takes selector gaps ≡ true = exact selector small ∙ t in
    (sym (selector_is selector gaps taken small (λ r h. lesser r h (least r h))), takes_enough selector gaps taken)
  where
    lesser : (r : ℕ) → r < selector → seen < count_of r → takes r gaps ≡ false
    lesser r less more = let t : nat_le (count_of r) seen ≡ false = grind (arith, nat_tests) in exact r (omega (arith, less, small)) ∙ t

-- a first gap fits into each word that has no other
pub first_fits : (gap s : ℕ) → s < 16 → count_of s ≤ 1 → gap < 2 ^ 26 → gap < 2 ^ width_of s
first_fits gap s small one below = omega (arith, ap (λ s. 2 ^ width_of s) (last_only s small one) ∙ ap (λ w. 2 ^ w) last_width)
