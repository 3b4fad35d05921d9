-- Budgets between commas.
use Rattle.shared_lemmas.proofs.Common.{◌≡◌, ℕ, ◌<◌, ◌≤◌, List, [], ◌∷◌, ◌++◌, length, sym, ap, subst, ◌∙◌, arith, eqb, append_assoc, Bor, Option, Some, None, lit<, false, IfSome, IsSplitOnceResult, split_once_first, slice_split_none, slice_split_first, fails_before_first, All-from_get_or}
use Rattle.shared_lemmas.proofs.Common.{slice_split, position_or_len, before_first, after_first}
use Rattle.std.proofs.Common.{length-append}
use Rattle.jass_base.specs.declared.answer.Budget.{Budget}
use Rattle.jass_words.specs.Numbers.{IsBudget}
use Rattle.jass_words.specs.Spelled.{Spell}
use Rattle.jass_words.specs.Options.{AreBudgets}
use Rattle.jass_words.proofs.Spelling.{as_many, spelled_more, none_spelled}

abbrev pub parts_of : List ℕ → List (List ℕ)
parts_of value = slice_split (λ b. eqb b 44) value

-- the parts before what is left spell the budgets
pub record IsSplit (value : List ℕ) (read : List Budget) (rest : List ℕ) : Type 0 where
  pub front : List (List ℕ)
  pub parts : parts_of value ≡ front ++ parts_of rest
  pub spelled : Spell IsBudget front read

pub split_more : (value : List ℕ) (read : List Budget) (rest first behind : List ℕ) (budget : Budget) → IsSplit value read rest → parts_of rest ≡ first ∷ parts_of behind → IsBudget first budget → IsSplit value (read ++ budget ∷ []) behind
split_more value read rest first behind budget split cut is = record {
  front = split.front ++ first ∷ [];
  parts = split.parts ∙ ap (λ (ps : List (List ℕ)). split.front ++ ps) cut ∙ sym (append_assoc split.front (first ∷ []) (parts_of behind));
  spelled = spelled_more IsBudget split.front read first budget split.spelled is;
}

-- a part that is no budget
pub split_bad : (value : List ℕ) (read : List Budget) (rest first : List ℕ) (more : List (List ℕ)) → IsSplit value read rest → parts_of rest ≡ first ∷ more → ((budget : Budget) → ¬ IsBudget first budget) → (limits : List Budget) → ¬ AreBudgets value limits
split_bad value read rest first more split cut none limits are =
    none_spelled IsBudget split.front first more limits none (subst (λ (ps : List (List ℕ)). Spell IsBudget ps limits) (split.parts ∙ ap (λ (ps : List (List ℕ)). split.front ++ ps) cut) are.each)

-- a part too many
pub split_full : (value : List ℕ) (read : List Budget) (rest first : List ℕ) (more : List (List ℕ)) → IsSplit value read rest → parts_of rest ≡ first ∷ more → 16 ≤ length read → (limits : List Budget) → ¬ AreBudgets value limits
split_full value read rest first more split cut full limits are =
    let sizes : length (parts_of value) ≡ length (split.front ++ first ∷ more) = ap length (split.parts ∙ ap (λ (ps : List (List ℕ)). split.front ++ ps) cut) in
    omega (arith, full, sizes, length-append split.front (first ∷ more), as_many IsBudget (parts_of value) limits are.each, as_many IsBudget split.front read split.spelled, are.few)

-- the last part
pub split_last : (value : List ℕ) (read : List Budget) (rest : List ℕ) (budget : Budget) → IsSplit value read rest → parts_of rest ≡ rest ∷ [] → IsBudget rest budget → length (read ++ budget ∷ []) ≤ 16 → AreBudgets value (read ++ budget ∷ [])
split_last value read rest budget split cut is few = record {
  each = subst (λ (ps : List (List ℕ)). Spell IsBudget ps (read ++ budget ∷ [])) (sym (split.parts ∙ ap (λ (ps : List (List ℕ)). split.front ++ ps) cut)) (spelled_more IsBudget split.front read rest budget split.spelled is);
  few = few;
}

pub cut_first : (rest first behind : List ℕ) → position_or_len (λ b. eqb b 44) rest < length rest → first ≡ before_first (λ b. eqb b 44) rest → behind ≡ after_first (λ b. eqb b 44) rest → parts_of rest ≡ first ∷ parts_of behind
cut_first rest first behind within before after = slice_split_first (λ b. eqb b 44) rest 0 within ∙ ap (λ (w : List ℕ). w ∷ parts_of (after_first (λ b. eqb b 44) rest)) (sym before) ∙ ap (λ (w : List ℕ). first ∷ parts_of w) (sym after)

-- what is cut at the first comma, and what has none
pub cut_some : (rest : List ℕ) (first behind : Bor (List ℕ)) → IsSplitOnceResult 44 rest (Some (first, behind)) → parts_of rest ≡ first.now ∷ parts_of behind.now
cut_some rest first behind cases =
    let (within, before, after) = split_once_first 44 rest (Some (first, behind)) cases (lit< tt) in
    cut_first rest first.now behind.now within before after

pub cut_none : (rest : List ℕ) → IsSplitOnceResult 44 rest None → parts_of rest ≡ rest ∷ []
cut_none rest cases =
    let whole = split_once_first 44 rest None cases (lit< tt) in
    slice_split_none (λ b. eqb b 44) rest (All-from_get_or (λ (b : ℕ). eqb b 44 ≡ false) rest 0 (λ i within. fails_before_first (λ b. eqb b 44) rest i 0 (omega (arith, within, whole))))

pub last_read : (value : List ℕ) (read : List Budget) (rest : List ℕ) (budget : Budget) (r : Option (List Budget)) → IsSplit value read rest → parts_of rest ≡ rest ∷ [] → IsBudget rest budget → IfSome r (λ more. more ≡ read ++ budget ∷ []) → IfSome r (λ more. length more ≤ 16)
    → IfSome r (λ limits. AreBudgets value limits)
last_read value read rest budget None split cut is same few = tt
last_read value read rest budget (Some more) split cut is same few =
    subst (λ (ls : List Budget). AreBudgets value ls) (sym same) (split_last value read rest budget split cut is (subst (λ (ls : List Budget). length ls ≤ 16) same few))
