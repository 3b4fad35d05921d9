-- Texts as bytes: equality, order, and whether they are text at all.
use Rattle.shared_lemmas.proofs.Common.{◌≡◌, ◌≢◌, ℕ, Bool, true, false, List, refl, sym, ◌∙◌, subst, inl, inr, is_lt, is_eq, nat_cmp, eq_by_cmp, slice_cmp-IsAntisymmetric, nat_cmp-IsAntisymmetric, slice_cmp, IsUtf8, is_utf8, nat_list_cmp_total, bytes_eq-Decides, IsUtf8-from_is_utf8, cases_Bool}
use Rattle.std.proofs.Common.{Ordering, Less, Equal, Greater}
use Rattle.std.specs.Cmp.{tied_itself}
use Rattle.std.specs.Str.{bytes_eq}

-- ---- equality

pub bytes_same : (a b : List ℕ) → bytes_eq a b ≡ true → a ≡ b
bytes_same a b same = (bytes_eq-Decides a b).0 same

pub bytes_itself : (a : List ℕ) → bytes_eq a a ≡ true
bytes_itself a = (bytes_eq-Decides a a).1 refl

pub bytes_flipped : (a b : List ℕ) → bytes_eq a b ≡ false → bytes_eq b a ≡ false
bytes_flipped a b other = by_answer (bytes_eq b a) refl where
  by_answer : (r : Bool) → bytes_eq b a ≡ r → bytes_eq b a ≡ false
  by_answer false is = is
  by_answer true is = absurd (let e = bytes_same b a is in let f = (bytes_eq-Decides a b).1 (sym e) in let g = sym other ∙ f in cc)

-- texts that tie are equal
pub equal_texts : (xs ys : List ℕ) → eq_by_cmp (slice_cmp nat_cmp) xs ys ≡ true → xs ≡ ys
equal_texts xs ys is = slice_cmp-IsAntisymmetric nat_cmp-IsAntisymmetric xs ys (tied (slice_cmp nat_cmp xs ys) is)
  where
    tied : (o : Ordering) → is_eq o ≡ true → o ≡ Equal
    tied Less is = cc
    tied Equal is = refl
    tied Greater is = cc

-- ---- order

pub less_from : (o : Ordering) → is_lt o ≡ true → o ≡ Less
less_from Less is = refl
less_from Equal is = absurd cc
less_from Greater is = absurd cc

pub not_itself : (a : List ℕ) → is_lt (slice_cmp nat_cmp a a) ≢ true
not_itself a is = (let e : is_lt Equal ≡ true = subst (λ (o : Ordering). is_lt o ≡ true) (tied_itself nat_list_cmp_total a) is in cc)

-- ---- what isn't UTF-8

pub no_utf8 : (bytes : List ℕ) → ¬ IsUtf8 bytes → is_utf8 bytes ≡ false
no_utf8 bytes never = elim (cases_Bool (is_utf8 bytes)) [ inl is ↦ absurd (never (IsUtf8-from_is_utf8 bytes is)) | inr is ↦ is ]
