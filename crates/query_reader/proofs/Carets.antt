-- What stands behind the last `^` of a run.
use Rattle.shared_lemmas.proofs.Common.{◌≡◌, ℕ, zero, suc, ◌+◌, ◌-◌, ◌<◌, Bool, true, false, cond, List, [], ◌∷◌, length, take, drop, refl, ap, sym, subst, ◌∙◌, arith, length-drop, take_all, Option, Some, None, slice_index, ◌==◌, option_map, option_and_then}
use Rattle.memchr.specs.Find.{IsLastByte, is_byte}
use Rattle.query_reader.specs.Mentions.{Mention}
use Rattle.query_reader.specs.Texts.{Cut, at_last_caret, cut_later, weighted, has_items, factor_of, plain_mention}

-- a `^` at the front
abbrev at-front : List ℕ → Cut
at-front bytes = record { before = []; behind = bytes }

abbrev front-or-none : Bool → List ℕ → Option Cut
front-or-none is bytes = cond is (Some (at-front bytes)) None

no-caret : (run : List ℕ) → ((k : ℕ) → k < length run → ¬ ((slice_index run k == 94) ≡ true)) → at_last_caret run ≡ None
unfolding at_last_caret
no-caret [] none = refl
no-caret (b ∷ bs) none = ap (cut_later b bs) (no-caret bs (λ k less. none (suc k) (omega (arith, less)))) ∙ here (b == 94) refl
  where
    here : (x : Bool) → (b == 94) ≡ x → front-or-none x bs ≡ None
    here true e = absurd (none 0 (omega arith) e)
    here false e = refl

last-caret : (run : List ℕ) (at : ℕ) → at < length run → (slice_index run at == 94) ≡ true → ((k : ℕ) → at < k → k < length run → ¬ ((slice_index run k == 94) ≡ true)) → at_last_caret run ≡ Some (record { before = take at run; behind = drop (suc at) run })
unfolding at_last_caret
last-caret [] at inside is none = absurd (omega (arith, inside))
last-caret (b ∷ bs) zero inside is none = ap (cut_later b bs) (no-caret bs (λ k less. none (suc k) (omega arith) (omega (arith, less))))
    ∙ ap (λ (x : Bool). front-or-none x bs) is
last-caret (b ∷ bs) (suc at) inside is none = ap (cut_later b bs) (last-caret bs at (omega (arith, inside)) is (λ k more less. none (suc k) (omega (arith, more)) (omega (arith, less))))

pub unweighted-whole : (run : List ℕ) (found : Option ℕ) → IsLastByte (is_byte 94) run found → found ≡ None → option_and_then weighted (at_last_caret run) ≡ None
unweighted-whole run None last is = ap (option_and_then weighted) (no-caret run (λ k less. last k (omega arith) less))
unweighted-whole run (Some at) last is = cc

-- the bytes behind a place, as a slice gives them
abbrev pub behind-place : List ℕ → ℕ → List ℕ
behind-place run at = take (length run - (at + 1)) (drop (at + 1) run)

cut-at : (run : List ℕ) (found : Option ℕ) (at : ℕ) → IsLastByte (is_byte 94) run found → found ≡ Some at → (at < length run) × (option_and_then weighted (at_last_caret run) ≡ weighted (record { before = take at run; behind = behind-place run at }))
cut-at run None at last is = cc
cut-at run (Some k) at last is =
    let same : k ≡ at = cc in
    subst (λ n. (n < length run) × (option_and_then weighted (at_last_caret run) ≡ weighted (record { before = take n run; behind = behind-place run n }))) same (
      last.0.high,
      ap (option_and_then weighted) (last-caret run k last.0.high last.1 (λ j more less. last.0.after j (omega (arith, more)) less))
          ∙ ap (λ bytes. weighted (record { before = take k run; behind = bytes })) (whole ∙ sym (take_all (length run - (k + 1)) (drop (k + 1) run) (omega (arith, length-drop (k + 1) run)))),
    )
  where
    whole : drop (suc k) run ≡ drop (k + 1) run
    whole = let n : suc k ≡ k + 1 = omega arith in ap (λ i. drop i run) n

pub unweighted-front : (run : List ℕ) (found : Option ℕ) (at : ℕ) → IsLastByte (is_byte 94) run found → found ≡ Some at → at ≡ 0 → option_and_then weighted (at_last_caret run) ≡ None
unweighted-front run found at last is zero_at =
    (cut-at run found at last is).1 ∙ ap (λ n. weighted (record { before = take n run; behind = behind-place run at })) zero_at

abbrev with-or-none : Bool → List ℕ → Option ℕ → Option Mention
with-or-none some before factor = cond some (option_map (λ f. record { term = before; factor = f }) factor) None

no-factor : (some : Bool) (before : List ℕ) (factor : Option ℕ) → factor ≡ None → with-or-none some before factor ≡ None
no-factor true before factor is = ap (with-or-none true before) is
no-factor false before factor is = refl

pub unweighted-behind : (run : List ℕ) (found : Option ℕ) (at : ℕ) → IsLastByte (is_byte 94) run found → found ≡ Some at → factor_of (behind-place run at) ≡ None → option_and_then weighted (at_last_caret run) ≡ None
unweighted-behind run found at last is none = (cut-at run found at last is).1 ∙ no-factor (has_items (take at run)) (take at run) (factor_of (behind-place run at)) none

some-before : (run : List ℕ) (at : ℕ) → at < length run → ¬ (at ≡ 0) → has_items (take at run) ≡ true
some-before [] at inside there = absurd (omega (arith, inside))
some-before (b ∷ bs) zero inside there = absurd (there refl)
some-before (b ∷ bs) (suc at) inside there = refl

pub weighted-behind : (run : List ℕ) (found : Option ℕ) (at factor : ℕ) → IsLastByte (is_byte 94) run found → found ≡ Some at → ¬ (at ≡ 0) → factor_of (behind-place run at) ≡ Some factor
    → option_and_then weighted (at_last_caret run) ≡ Some (record { term = take at run; factor = factor })
weighted-behind run found at factor last is there some = (cut-at run found at last is).1
    ∙ ap (λ (b : Bool). with-or-none b (take at run) (factor_of (behind-place run at))) (some-before run at (cut-at run found at last is).0 there)
    ∙ ap (with-or-none true (take at run)) some

-- the mention of a run
pub weighted-run : (run : List ℕ) (m : Mention) → option_and_then weighted (at_last_caret run) ≡ Some m → m ≡ plain_mention run
unfolding plain_mention
weighted-run run m is = cc

pub whole-run : (run : List ℕ) → option_and_then weighted (at_last_caret run) ≡ None → record { term = run; factor = 1 } ≡ plain_mention run
unfolding plain_mention
whole-run run is = cc
