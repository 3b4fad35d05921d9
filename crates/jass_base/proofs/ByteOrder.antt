-- Texts that rise by their bytes.
use Rattle.shared_lemmas.proofs.Common.{◌≡◌, ◌∙◌, ℕ, ◌+◌, ◌<◌, ◌≤◌, false, List, [], length, get_or, sym, ap, subst, arith, inl, inr, AllPairs, is_lt, is_eq, nat_cmp, ordering_reverse, slice_cmp, cases_lt, nat_list_cmp_total, is_eq-slice_cmp}
use Rattle.std.proofs.Common.{Greater}
use Rattle.std.specs.Str.{bytes_eq}
use Rattle.shared_lemmas.proofs.Texts.{less_from}
use Rattle.jass_base.specs.Terms.{BytesRise}

pub bytes_rise_on : (a b c : List ℕ) → BytesRise a b → BytesRise b c → BytesRise a c
bytes_rise_on a b c one two = ap is_lt (nat_list_cmp_total.trans a b c (less_from (slice_cmp nat_cmp a b) one) (less_from (slice_cmp nat_cmp b c) two))

pub bytes_apart : (a b : List ℕ) → BytesRise a b → bytes_eq a b ≡ false
bytes_apart a b rise = sym (is_eq-slice_cmp a b) ∙ ap is_eq (less_from (slice_cmp nat_cmp a b) rise)

pub bytes_fall : (a b : List ℕ) → slice_cmp nat_cmp a b ≡ Greater → BytesRise b a
bytes_fall a b is = ap is_lt (nat_list_cmp_total.antisymm b a ∙ ap ordering_reverse is)

-- among terms that rise, what is below a lower one is lower, and what is above a higher one is higher
module _ (terms : List (List ℕ)) (term : List ℕ) (rising : AllPairs BytesRise terms) where
  pub below_on : (middle : ℕ) → middle < length terms → BytesRise (get_or terms middle []) term → (i : ℕ) → i < middle + 1 → BytesRise (get_or terms i []) term
  below_on middle inside here i low = elim (cases_lt i middle) [
    | inl l ↦ bytes_rise_on (get_or terms i []) (get_or terms middle []) term (rising i middle [] l inside) here
    | inr g ↦ subst (λ j. BytesRise (get_or terms j []) term) (omega (arith, low, g)) here
  ]

  pub above_on : (middle : ℕ) → BytesRise term (get_or terms middle []) → (i : ℕ) → middle ≤ i → i < length terms → BytesRise term (get_or terms i [])
  above_on middle here i high inside = elim (cases_lt middle i) [
    | inl l ↦ bytes_rise_on term (get_or terms middle []) (get_or terms i []) here (rising middle i [] l inside)
    | inr g ↦ subst (λ j. BytesRise term (get_or terms j [])) (omega (arith, high, g)) here
  ]
