-- What is known of reading varints and fields.
use Rattle.shared_lemmas.proofs.Common.{◌≡◌, ℕ, ◌<◌, List, [], ◌∷◌, ◌++◌, length, Result, Ok, Err, refl, ap, arith, length-append}
use Rattle.ciff_read.proofs.Below.{WireField, AreGroups, IsVarint, IsField, WireWhy, varint_at, field_at}
use Rattle.ciff_read.specs.declared.refusal.CiffWhy.{CiffWhy}
use Rattle.ciff_read.specs.declared.refusal.CiffRefusal.{CiffRefusal}
use Rattle.ciff_read.specs.Reading.{at_end}
use Rattle.ciff_read.specs.Refusals.{◌>>=◌, placed, field_placed}
use Rattle.ciff_read.specs.Reading.{at_end}

pub record WireLaws : Type 0 where
  pub varint_found : (bytes rest : List ℕ) (n : ℕ) → varint_at bytes ≡ Ok (n, rest) → (s : List ℕ) × (bytes ≡ s ++ rest) × IsVarint s n
  pub varint_only : (s rest : List ℕ) (n : ℕ) → IsVarint s n → varint_at (s ++ rest) ≡ Ok (n, rest)
  pub field_found : (bytes rest : List ℕ) (f : WireField) → field_at bytes ≡ Ok (f, rest) → (s : List ℕ) × (bytes ≡ s ++ rest) × IsField s f
  pub field_only : (s rest : List ℕ) (f : WireField) → IsField s f → field_at (s ++ rest) ≡ Ok (f, rest)

-- a step that was read, and a step that was not refused
pub bound : {A B : Type 0} (r : Result A CiffRefusal) (f : A → Result B CiffRefusal) (y : B) → (r >>= f) ≡ Ok y → (x : A) × (r ≡ Ok x) × (f x ≡ Ok y)
bound (Ok x) f y is = (x, refl, is)
bound (Err e) f y is = absurd cc

abbrev done : {A : Type 0} → A → Result A CiffRefusal
done x = Ok x

pub done_is : {A : Type 0} (x y : A) → done x ≡ done y → x ≡ y
done_is x y is = cc

-- the end of a file
pub ended_with : {A : Type 0} (at : ℕ) (s : List ℕ) (x y : A) → at_end at s x ≡ Ok y → x ≡ y
ended_with at [] x y is = done_is x y is
ended_with at (b ∷ s) x y is = absurd cc

pub unplaced : {A : Type 0} (at : ℕ) (r : Result A CiffWhy) (x : A) → placed at r ≡ Ok x → r ≡ Ok x
unplaced at (Ok y) x is = let e = done_is y x is in ap (λ z. Ok z) e
unplaced at (Err why) x is = absurd cc

pub field_unplaced : {A : Type 0} (at : ℕ) (r : Result A WireWhy) (x : A) → field_placed at r ≡ Ok x → r ≡ Ok x
field_unplaced at (Ok y) x is = let e = done_is y x is in ap (λ z. Ok z) e
field_unplaced at (Err why) x is = absurd cc

some_groups : (s : List ℕ) → AreGroups s → 0 < length s
some_groups [] groups = absurd groups
some_groups (b ∷ s) groups = omega arith

pub some_field : (s : List ℕ) (f : WireField) → IsField s f → 0 < length s
some_field s f is = omega (arith, ap (λ (t : List ℕ). length t) is.parts, length-append is.tag is.value, some_groups is.tag is.tagged.groups)
