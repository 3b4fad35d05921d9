-- What the options of `import`, `search` and `serve` say is within its limits, and so is what stands for none.
use Rattle.shared_lemmas.proofs.Common.{◌≡◌, ℕ, ◌≤◌, List, [], ◌∷◌, length, Option, Some, None, Bor, refl, subst, arith, eqb, codes, option_map, unwrap_or, slice_split, All-from_recursion, length-slice_split}
use Rattle.jass_words.proofs.Below.{Budget, Bits, Raw, Of}
use Rattle.jass_base.specs.declared.answer.Budget.TheVariants as budgets
use Rattle.weights.specs.Quantizing.{IsImpactWidth}
use Rattle.jass_words.specs.declared.keys.Key.{Key}
use Rattle.jass_words.specs.declared.keys.Key.TheVariants as keys
use Rattle.jass_words.specs.declared.options.Options.{Options}
use Rattle.jass_words.specs.Numbers.{IsNumber, IsBudget}
use Rattle.jass_words.specs.Options.{AreBudgets, IsBits, IsTag}
use Rattle.jass_words.specs.Private.Reading.{AreRead, found}
use Rattle.jass_words.proofs.Settings.{fits_or}
use Rattle.jass_words.proofs.Spelling.{as_many}

abbrev pub IsHits : ℕ → Type 0
IsHits k = (1 ≤ k) × (k ≤ 100000)

abbrev pub IsFew : List Budget → Type 0
IsFew limits = (1 ≤ length limits) × (length limits ≤ 16)

number_fits : (most : ℕ) (value : List ℕ) (n : ℕ) → IsNumber value 1 most n → (1 ≤ n) × (n ≤ most)
number_fits most value n is = (is.some, is.limit)

few_budgets : (value : List ℕ) (limits : List Budget) → AreBudgets value limits → IsFew limits
few_budgets value limits are =
    let parts = as_many IsBudget (slice_split (λ b. eqb b 44) value) limits are.each in
    (omega (arith, parts, length-slice_split (λ b. eqb b 44) value), are.few)

a_width : (value : List ℕ) (bits : Bits) → IsBits value bits → IsImpactWidth bits
a_width value Raw is = tt
a_width value (Of bits) is = (is.1, is.2)

usual_tag : IsTag (codes "jass")
usual_tag = record {
  some = omega arith;
  fits = omega arith;
  visible = All-from_recursion (λ b. (33 ≤ b) × (b ≤ 126)) (codes "jass") ((omega arith, omega arith), ((omega arith, omega arith), ((omega arith, omega arith), ((omega arith, omega arith), tt))));
}

pub hits_within : (usual : ℕ) → IsHits usual → (allowed : List Key) (words : List (List ℕ)) (read : Options) → AreRead allowed words read → IsHits (unwrap_or read.hits usual)
hits_within usual fits allowed words read seen = fits_or keys.Hits IsHits (number_fits 100000) allowed words read seen usual fits

pub budgets_within : (allowed : List Key) (words : List (List ℕ)) (read : Options) → AreRead allowed words read → IsFew (unwrap_or read.limits (budgets.All ∷ []))
budgets_within allowed words read seen = fits_or keys.Limits IsFew few_budgets allowed words read seen (budgets.All ∷ []) (omega arith, omega arith)

pub tag_within : (allowed : List Key) (words : List (List ℕ)) (read : Options) → AreRead allowed words read → IsTag (unwrap_or (found read keys.Tag) (codes "jass"))
tag_within allowed words read seen = fits_or keys.Tag IsTag (λ value tag is. is.1) allowed words read seen (codes "jass") usual_tag

pub width_within : (allowed : List Key) (words : List (List ℕ)) (read : Options) → AreRead allowed words read → IsImpactWidth (unwrap_or read.bits Raw)
width_within allowed words read seen = fits_or keys.Width IsImpactWidth a_width allowed words read seen Raw tt

pub frames_within : (allowed : List Key) (words : List (List ℕ)) (read : Options) (frames : ℕ) → AreRead allowed words read → read.frames ≡ Some frames → (1 ≤ frames) × (frames ≤ 1048576)
frames_within allowed words read frames seen is =
    subst (λ (x : Option ℕ). (1 ≤ unwrap_or x 1) × (unwrap_or x 1 ≤ 1048576)) is (fits_or keys.Frames (λ n. (1 ≤ n) × (n ≤ 1048576)) (number_fits 1048576) allowed words read seen 1 (omega arith, omega arith))

-- the text behind a reference, or a usual one
pub now_or : (tag : Option (Bor (List ℕ))) (usual : Bor (List ℕ)) → (unwrap_or tag usual).now ≡ unwrap_or (option_map (λ t. t.now) tag) usual.now
now_or (Some tag) usual = refl
now_or None usual = refl
