-- What the code's steps read: places of a list.
use Rattle.shared_lemmas.proofs.Common.{◌≡◌, ℕ, zero, suc, ◌+◌, ◌-◌, ◌<◌, ◌≤◌, ◌&&◌, List, [], ◌∷◌, length, get_or, drop, true, false, refl, sym, ap, ◌∙◌, arith, Some, Option, slice_get, length-drop}
use Rattle.jass_base.specs.declared.answer.Hit.{Hit}
use Rattle.run_audit.specs.Private.Grading.{is_safe, is_safe_from, are_safe, ends_safe}

-- the last of a list, by its place
pub ends_last : (bound : ℕ) (hits : List Hit) (last : Hit) (other : Option Hit) → slice_get hits (length hits - 1) ≡ Some last → is_safe_from bound last other ≡ ends_safe bound hits other
ends_last bound [] last other is = absurd (cc)
ends_last bound (a ∷ []) last other is = let e : a ≡ last = cc in ap (λ (h : Hit). is_safe_from bound h other) (sym e)
ends_last bound (a ∷ b ∷ hits) last other is =
    let n : length (a ∷ b ∷ hits) - 1 ≡ suc (length (b ∷ hits) - 1) = omega arith in
    ends_last bound (b ∷ hits) last other (rw n at is)

safe_at : (bound : ℕ) (hits : List Hit) (d : Hit) (i : ℕ) → suc i < length hits → are_safe bound (drop i hits) ≡ (is_safe bound (get_or hits i d) (get_or hits (suc i) d) && are_safe bound (drop (suc i) hits))
safe_at bound [] d i inside = absurd (omega arith)
safe_at bound (a ∷ []) d i inside = absurd (omega arith)
safe_at bound (a ∷ b ∷ hits) d zero inside = refl
safe_at bound (a ∷ b ∷ hits) d (suc i) inside = safe_at bound (b ∷ hits) d i (omega arith)

safe_next : (bound : ℕ) (hits : List Hit) (d : Hit) (next : ℕ) → 1 ≤ next → next < length hits → are_safe bound (drop (next - 1) hits) ≡ (is_safe bound (get_or hits (next - 1) d) (get_or hits next d) && are_safe bound (drop next hits))
safe_next bound hits d zero low inside = absurd (omega arith)
safe_next bound hits d (suc i) low inside = let e : suc i - 1 ≡ i = omega arith in rw e (safe_at bound hits d i inside)

pub kept_step : (bound : ℕ) (hits : List Hit) (d : Hit) (next : ℕ) → 1 ≤ next → next < length hits → are_safe bound hits ≡ are_safe bound (drop (next - 1) hits) → is_safe bound (get_or hits (next - 1) d) (get_or hits next d) ≡ true → are_safe bound hits ≡ are_safe bound (drop (next + 1 - 1) hits)
kept_step bound hits d next low inside so_far safe =
    let e : next ≡ next + 1 - 1 = omega arith in
    so_far ∙ safe_next bound hits d next low inside ∙ ap (λ b. b && are_safe bound (drop next hits)) safe ∙ ap (λ n. are_safe bound (drop n hits)) e

pub broken_step : (bound : ℕ) (hits : List Hit) (d : Hit) (next : ℕ) → 1 ≤ next → next < length hits → are_safe bound hits ≡ are_safe bound (drop (next - 1) hits) → is_safe bound (get_or hits (next - 1) d) (get_or hits next d) ≡ false → false ≡ are_safe bound hits
broken_step bound hits d next low inside so_far unsafe =
    sym (so_far ∙ safe_next bound hits d next low inside ∙ ap (λ b. b && are_safe bound (drop next hits)) unsafe)

few_safe : (bound : ℕ) (hits : List Hit) → length hits ≤ 1 → are_safe bound hits ≡ true
few_safe bound [] few = refl
few_safe bound (a ∷ []) few = refl
few_safe bound (a ∷ b ∷ hits) few = absurd (omega arith)

pub last_step : (bound : ℕ) (hits : List Hit) (next : ℕ) → 1 ≤ next → length hits ≤ next → are_safe bound hits ≡ are_safe bound (drop (next - 1) hits) → true ≡ are_safe bound hits
last_step bound hits next low past so_far = sym (so_far ∙ few_safe bound (drop (next - 1) hits) (let n = length-drop (next - 1) hits in omega arith))
