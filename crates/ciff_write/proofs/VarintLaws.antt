-- The shortest varint of a number is a varint of it, and no other one begins like it.
use Rattle.shared_lemmas.proofs.Common.{◌≡◌, ℕ, zero, suc, ◌+◌, ◌^◌, ◌%◌, ◌/◌, ◌<◌, ◌≤◌, Bool, true, false, List, [], ◌∷◌, ◌++◌, length, take, drop, refl, sym, ap, subst, ◌∙◌, append_assoc, arith, nat_lt, take_at, drop_at, ltb-true, ltb-false}
use Rattle.ciff_write.proofs.Below.{groups_value, AreGroups, IsVarint, short_varint_within, sized, last_group, more_groups}
use Rattle.jass_base.specs.Wire.{short_varint}
use Rattle.ciff_write.proofs.Varints.{Fits, fits_less}

-- groups of a number, at most so many
record Groups (most n : ℕ) (s : List ℕ) : Type 0 where
  groups : AreGroups s
  value : n ≡ groups_value s
  short : length s ≤ most

groups_more : (b : ℕ) (s : List ℕ) → 128 ≤ b → AreGroups s → AreGroups (b ∷ s)
groups_more b [] large are = absurd are
groups_more b (c ∷ s) large are = (large, are)

pub groups_some : (s : List ℕ) → AreGroups s → 1 ≤ length s
groups_some [] are = absurd are
groups_some (b ∷ s) are = omega arith

groups_within : (k n : ℕ) → Fits k n → Groups (suc k) n (short_varint_within k n)
groups_within zero n fits = let small : n < 128 = omega (arith, fits) in record { groups = small; value = omega (arith, small); short = omega arith }
groups_within (suc k) n fits = go (nat_lt n 128) refl (λ smaller. groups_within k (n / 128) smaller)
  where
    go : (b : Bool) → nat_lt n 128 ≡ b → (Fits k (n / 128) → Groups (suc k) (n / 128) (short_varint_within k (n / 128))) → Groups (suc (suc k)) n (short_varint_within (suc k) n)
    go true is more =
        let small : n < 128 = ltb-true n 128 is in
        subst (Groups (suc (suc k)) n) (sym (last_group (suc k) n small)) (record { groups = small; value = omega (arith, small); short = omega arith })
    go false is more =
        let large : 128 ≤ n = ltb-false n 128 is in
        let later : Groups (suc k) (n / 128) (short_varint_within k (n / 128)) = more (fits_less k n fits) in
        subst (Groups (suc (suc k)) n) (sym (more_groups k n large)) (record {
          groups = groups_more (n % 128 + 128) (short_varint_within k (n / 128)) (omega arith) later.groups;
          value = omega (arith, later.value);
          short = omega (arith, later.short);
        })

pub short_is_varint : (n : ℕ) → n < 2 ^ 64 → IsVarint (short_varint n) n
unfolding short_varint
short_is_varint n fits =
    let all : Groups 10 n (short_varint_within 9 n) = groups_within 9 n fits in
    record { groups = all.groups; short = all.short; value = all.value; fits = fits }

-- ---- beginnings

same_head : (a b : ℕ) (r s : List ℕ) → a ∷ r ≡ b ∷ s → a ≡ b
same_head a b r s is = cc

same_tail : (a b : ℕ) (r s : List ℕ) → a ∷ r ≡ b ∷ s → r ≡ s
same_tail a b r s is = cc

same_within : (k m n : ℕ) (r s : List ℕ) → short_varint_within k m ++ r ≡ short_varint_within k n ++ s → (m ≡ n) × (r ≡ s)
same_within zero m n r s is = (same_head m n r s is, same_tail m n r s is)
same_within (suc k) m n r s is = go (nat_lt m 128) (nat_lt n 128) refl refl (λ e. same_within k (m / 128) (n / 128) r s e)
  where
    low : (x : ℕ) (t : List ℕ) → nat_lt x 128 ≡ true → short_varint_within (suc k) x ++ t ≡ x ∷ t
    low x t small = ap (λ (u : List ℕ). u ++ t) (last_group (suc k) x (ltb-true x 128 small))

    high : (x : ℕ) (t : List ℕ) → nat_lt x 128 ≡ false → short_varint_within (suc k) x ++ t ≡ (x % 128 + 128) ∷ (short_varint_within k (x / 128) ++ t)
    high x t large = ap (λ (u : List ℕ). u ++ t) (more_groups k x (ltb-false x 128 large))

    go : (a b : Bool) → nat_lt m 128 ≡ a → nat_lt n 128 ≡ b → (short_varint_within k (m / 128) ++ r ≡ short_varint_within k (n / 128) ++ s → (m / 128 ≡ n / 128) × (r ≡ s)) → (m ≡ n) × (r ≡ s)
    go true true p q more = let e : m ∷ r ≡ n ∷ s = sym (low m r p) ∙ is ∙ low n s q in (same_head m n r s e, same_tail m n r s e)
    go true false p q more = let e = same_head m (n % 128 + 128) r (short_varint_within k (n / 128) ++ s) (sym (low m r p) ∙ is ∙ high n s q) in absurd (omega (arith, e, ltb-true m 128 p))
    go false true p q more = let e = same_head (m % 128 + 128) n (short_varint_within k (m / 128) ++ r) s (sym (high m r p) ∙ is ∙ low n s q) in absurd (omega (arith, e, ltb-true n 128 q))
    go false false p q more =
        let e = sym (high m r p) ∙ is ∙ high n s q in
        let head = same_head (m % 128 + 128) (n % 128 + 128) (short_varint_within k (m / 128) ++ r) (short_varint_within k (n / 128) ++ s) e in
        let rest = more (same_tail (m % 128 + 128) (n % 128 + 128) (short_varint_within k (m / 128) ++ r) (short_varint_within k (n / 128) ++ s) e) in
        (omega (arith, head, rest.0), rest.1)

same_short : (m n : ℕ) (r s : List ℕ) → short_varint m ++ r ≡ short_varint n ++ s → (m ≡ n) × (r ≡ s)
unfolding short_varint
same_short m n r s is = same_within 9 m n r s is

-- two messages that begin alike are one
pub same_sized : (x y r s : List ℕ) → sized x ++ r ≡ sized y ++ s → (x ≡ y) × (r ≡ s)
same_sized x y r s is =
    let both = same_short (length x) (length y) (x ++ r) (y ++ s) (sym (append_assoc (short_varint (length x)) x r) ∙ is ∙ append_assoc (short_varint (length y)) y s) in
    (sym (take_at x r (length x) refl) ∙ ap (take (length x)) both.1 ∙ take_at y s (length x) (sym both.0), sym (drop_at x r (length x) refl) ∙ ap (drop (length x)) both.1 ∙ drop_at y s (length x) (sym both.0))
