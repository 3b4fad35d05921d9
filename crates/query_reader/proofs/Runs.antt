-- The runs of a text between blanks, and what stands behind the last `^` of a run.
use Rattle.shared_lemmas.proofs.Common.{◌≡◌, ℕ, zero, suc, ◌<◌, Bool, true, false, List, [], ◌∷◌, length, take, drop, refl, ap, sym, subst, ◌∙◌, arith, length-drop, slice_split-cons_yes, slice_split-cons_no, Option, Some, None, filter, slice_index, slice_split, onto_first}
use Rattle.std.proofs.lemmas.Bool.{true≢false}
use Rattle.memchr.specs.Find.{IsFirstByte, is_byte2}
use Rattle.query_reader.specs.Texts.{has_items, is_blank, blank_runs}
use Rattle.query_reader.specs.Slices.{BeginsWithout}

-- a blank at the front
pub blank-first : (b : ℕ) (text : List ℕ) → is_blank b ≡ true → blank_runs (b ∷ text) ≡ blank_runs text
blank-first b text is = ap (filter has_items) (slice_split-cons_yes is_blank b text is)

abbrev None_before : List ℕ → ℕ → Type 0
None_before text end = (k : ℕ) → k < end → ¬ (is_blank (slice_index text k) ≡ true)

other : (x : ℕ) → ¬ (is_blank x ≡ true) → is_blank x ≡ false
other x never = here (is_blank x) refl
  where
    here : (b : Bool) → is_blank x ≡ b → is_blank x ≡ false
    here true e = absurd (never e)
    here false e = e

-- the part before the first blank
cut-there : (text : List ℕ) (end : ℕ) → end < length text → is_blank (slice_index text end) ≡ true → None_before text end → slice_split is_blank text ≡ take end text ∷ slice_split is_blank (drop (suc end) text)
cut-there [] end inside at none = absurd (omega (arith, inside))
cut-there (x ∷ xs) zero inside at none = slice_split-cons_yes is_blank x xs at
cut-there (x ∷ xs) (suc end) inside at none = slice_split-cons_no is_blank x xs (other x (none 0 (omega arith)))
    ∙ ap (onto_first x) (cut-there xs end (omega (arith, inside)) at (λ k less. none (suc k) (omega (arith, less))))

uncut : (text : List ℕ) → None_before text (length text) → slice_split is_blank text ≡ text ∷ []
uncut [] none = refl
uncut (x ∷ xs) none = slice_split-cons_no is_blank x xs (other x (none 0 (omega arith)))
    ∙ ap (onto_first x) (uncut xs (λ k less. none (suc k) (omega (arith, less))))

-- a text from a blank on has the runs that stand behind it
from-blank : (text : List ℕ) (end : ℕ) → end < length text → is_blank (slice_index text end) ≡ true → blank_runs (drop end text) ≡ blank_runs (drop (suc end) text)
from-blank [] end inside at = absurd (omega (arith, inside))
from-blank (x ∷ xs) zero inside at = blank-first x xs at
from-blank (x ∷ xs) (suc end) inside at = from-blank xs end (omega (arith, inside)) at

some-items : (text : List ℕ) (end : ℕ) → 0 < end → 0 < length text → has_items (take end text) ≡ true
some-items [] end there some = absurd (omega (arith, some))
some-items (x ∷ xs) zero there some = absurd (omega (arith, there))
some-items (x ∷ xs) (suc end) there some = refl

-- the first blank isn't at the front
behind-front : (text : List ℕ) (end : ℕ) → BeginsWithout is_blank text → end < length text → is_blank (slice_index text end) ≡ true → 0 < end
behind-front [] end begins inside at = absurd (omega (arith, inside))
behind-front (x ∷ xs) zero begins inside at = absurd (true≢false (sym at ∙ begins))
behind-front (x ∷ xs) (suc end) begins inside at = omega arith

filter-first : (x : List ℕ) (xs : List (List ℕ)) → has_items x ≡ true → filter has_items (x ∷ xs) ≡ x ∷ filter has_items xs
filter-first [] xs some = absurd (true≢false (sym some))
filter-first (b ∷ bs) xs some = refl

pub first-run : (text : List ℕ) (found : Option ℕ) (end : ℕ) → IsFirstByte (is_byte2 32 9) text found → found ≡ Some end → BeginsWithout is_blank text
    → (blank_runs text ≡ take end text ∷ blank_runs (drop end text)) × (length (drop end text) < length text)
first-run text None end first is begins = cc
first-run text (Some at) end first is begins =
    let same : at ≡ end = cc in
    subst (λ n. (blank_runs text ≡ take n text ∷ blank_runs (drop n text)) × (length (drop n text) < length text)) same here
  where
    there : 0 < at
    there = behind-front text at begins first.0.high first.1

    here : (blank_runs text ≡ take at text ∷ blank_runs (drop at text)) × (length (drop at text) < length text)
    here = (
      ap (filter has_items) (cut-there text at first.0.high first.1 (λ k less. first.0.before k (omega arith) less))
          ∙ filter-first (take at text) (slice_split is_blank (drop (suc at) text)) (some-items text at there (omega (arith, first.0.high)))
          ∙ ap (λ runs. take at text ∷ runs) (sym (from-blank text at first.0.high first.1)),
      omega (arith, length-drop at text, there, first.0.high),
    )

pub only-run : (text : List ℕ) (found : Option ℕ) → IsFirstByte (is_byte2 32 9) text found → found ≡ None → 0 < length text → blank_runs text ≡ text ∷ blank_runs []
only-run [] None first is some = absurd (omega (arith, some))
only-run (x ∷ xs) None first is some = ap (filter has_items) (uncut (x ∷ xs) (λ k less. first k (omega arith) less))
only-run text (Some at) first is some = cc
