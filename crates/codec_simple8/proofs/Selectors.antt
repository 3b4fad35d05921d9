-- The least selector whose word takes the gaps at the front of a list.
use Rattle.shared_lemmas.proofs.Common.{◌≡◌, ℕ, zero, suc, ◌+◌, ◌^◌, ◌<◌, ◌≤◌, Bool, true, false, List, [], ◌∷◌, length, ◌⊎◌, ◌≢◌, inl, inr, refl, sym, ap, ◌∙◌, arith, nat_lt, nat_le, cases_eq, cases_lt, nat_tests}
use Rattle.codec_simple8.specs.Simple8.{takes, selector_from, selector_of}
use Rattle.codec_simple8.proofs.Tables.{last_count, last_width}
use Rattle.codec_simple8.proofs.Digits.{Below, Below-head}

abbrev pub Either : Bool → Type 0
Either b = (b ≡ true) ⊎ (b ≡ false)

pub one_of : (b : Bool) → Either b
one_of true = inl refl
one_of false = inr refl

-- the selector at which trying them one after the other ends
ends : (n s t : ℕ) (gaps : List ℕ) → takes t gaps ≡ true → s ≤ t → t ≤ s + n → ((r : ℕ) → s ≤ r → r < t → takes r gaps ≡ false) → selector_from n s gaps ≡ t
ends zero s t gaps there from to none = omega arith
ends (suc n) s t gaps there from to none = go (one_of (takes s gaps)) (λ more. ends n (s + 1) t gaps there more (omega arith) (λ r low high. none r (omega arith) high))
  where
    go : Either (takes s gaps) → (s + 1 ≤ t → selector_from n (s + 1) gaps ≡ t) → selector_from (suc n) s gaps ≡ t
    go (inl taken) next = rw taken (at_once (cases_eq s t))
      where
        at_once : (s ≡ t) ⊎ (s ≢ t) → s ≡ t
        at_once (inl same) = same
        at_once (inr apart) = let fails = none s (omega arith) (omega (arith, apart)) in absurd cc
    go (inr fails) next = rw fails (next (later (cases_eq s t)))
      where
        later : (s ≡ t) ⊎ (s ≢ t) → s + 1 ≤ t
        later (inl same) = let taken : takes s gaps ≡ true = ap (λ r. takes r gaps) same ∙ there in absurd cc
        later (inr apart) = omega (arith, apart)

-- a selector that takes the gaps, and no lesser one does
pub selector_is : (s : ℕ) (gaps : List ℕ) → takes s gaps ≡ true → s < 16 → ((r : ℕ) → r < s → takes r gaps ≡ false) → selector_of gaps ≡ s
unfolding selector_of
selector_is s gaps there small none = ends 15 0 s gaps there (omega arith) (omega arith) (λ r low high. none r high)

-- where trying ends
record Stop (n s : ℕ) (gaps : List ℕ) (t : ℕ) : Type 0 where
  from : s ≤ t
  to : t ≤ s + n
  takes_them : (t < s + n) → takes t gaps ≡ true
  none : (r : ℕ) → s ≤ r → r < t → takes r gaps ≡ false

stop : (n s : ℕ) (gaps : List ℕ) → Stop n s gaps (selector_from n s gaps)
stop zero s gaps = record { from = omega arith; to = omega arith; takes_them = λ h. absurd (omega arith); none = λ r low high. absurd (omega arith) }
stop (suc n) s gaps = go (one_of (takes s gaps)) (stop n (s + 1) gaps)
  where
    go : Either (takes s gaps) → Stop n (s + 1) gaps (selector_from n (s + 1) gaps) → Stop (suc n) s gaps (selector_from (suc n) s gaps)
    go (inl taken) at = rw taken (record { from = omega arith; to = omega arith; takes_them = λ h. taken; none = λ r low high. absurd (omega arith) })
    go (inr fails) at =
        rw fails (record { from = omega (arith, at.from); to = omega (arith, at.to); takes_them = λ h. at.takes_them (omega (arith, h)); none = λ r low high. earlier r low high (cases_eq s r) })
      where
        earlier : (r : ℕ) → s ≤ r → r < selector_from n (s + 1) gaps → (s ≡ r) ⊎ (s ≢ r) → takes r gaps ≡ false
        earlier r low high (inl same) = ap (λ q. takes q gaps) (sym same) ∙ fails
        earlier r low high (inr apart) = at.none r (omega (arith, apart)) high

pub selector_small : (gaps : List ℕ) → selector_of gaps < 16
unfolding selector_of
selector_small gaps = let at = stop 15 0 gaps in omega (arith, at.to)

pub none_lesser : (gaps : List ℕ) (r : ℕ) → r < selector_of gaps → takes r gaps ≡ false
unfolding selector_of
none_lesser gaps r less = (stop 15 0 gaps).none r (omega arith) less

-- the last selector takes any single gap
pub last_takes : (gap : ℕ) (gaps : List ℕ) → Below (2 ^ 26) (gap ∷ gaps) → takes 15 (gap ∷ gaps) ≡ true
last_takes gap gaps small =
    let less : gap < 2 ^ 60 = omega (arith, Below-head (2 ^ 26) gap gaps small) in
    let fits : nat_lt gap (2 ^ 60) ≡ true = grind (arith, nat_tests) in
    let many : nat_le 1 (suc (length gaps)) ≡ true = grind (arith, nat_tests) in
    rw (last_count, last_width, fits, many) refl

pub selector_takes : (gaps : List ℕ) → 0 < length gaps → Below (2 ^ 26) gaps → takes (selector_of gaps) gaps ≡ true
unfolding selector_of
selector_takes [] some small = absurd (omega arith)
selector_takes (gap ∷ gaps) some small = elim (cases_lt (selector_from 15 0 (gap ∷ gaps)) 15) [
  | inl less ↦ (stop 15 0 (gap ∷ gaps)).takes_them less
  | inr last ↦ let at = stop 15 0 (gap ∷ gaps) in let is : selector_from 15 0 (gap ∷ gaps) ≡ 15 = omega (arith, at.to) in rw is (last_takes gap gaps small)
]
