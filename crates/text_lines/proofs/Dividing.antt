-- The first line of a text, and the others.
use Rattle.shared_lemmas.proofs.Common.{◌≡◌, ◌≢◌, ℕ, zero, suc, ◌+◌, ◌-◌, ◌<◌, ◌≤◌, Bool, true, false, List, [], ◌∷◌, ◌++◌, length, take, drop, map, refl, ap, sym, subst, ◌∙◌, arith, inl, inr, cases_Bool, length-map, length-drop, take_all, All-from_recursion, recursion_from_All, slice_split_at}
use Rattle.shared_lemmas.proofs.Common.{slice_split_none, slice_split-cons_yes, slice_split-cons_no, length-slice_split, All, ◌==◌, slice_index, Option, Some, None, slice_split, onto_first, AllByRecursion, MakesProgress, item_count, strip_carriage_return}
use Rattle.std.proofs.lemmas.Bool.{eqb-true}
use Rattle.memchr.specs.Find.{IsFirstByte, is_byte}
use Rattle.text_lines.specs.declared.lines.Line.{Line}
use Rattle.text_lines.specs.Lines.{LineData, lines_of, lines_of_parts, numbered_from, HasNumberUpTo}

abbrev pub is_feed : ℕ → Bool
is_feed b = b == 10

-- there is a part
some_part : (text : List ℕ) → 0 < length (slice_split is_feed text)
some_part text = omega (arith, length-slice_split is_feed text)

one_more : (x : List ℕ) (parts : List (List ℕ)) → 0 < length parts → lines_of_parts (x ∷ parts) ≡ x ∷ lines_of_parts parts
one_more x [] some = absurd (omega (arith, some))
one_more x (y ∷ more) some = refl

pub no_lines : lines_of [] ≡ []
unfolding lines_of
no_lines = refl

from_parts : (text x : List ℕ) (rest : List ℕ) → slice_split is_feed text ≡ x ∷ slice_split is_feed rest → lines_of text ≡ strip_carriage_return x ∷ lines_of rest
unfolding lines_of
from_parts text x rest is = ap (λ parts. map strip_carriage_return (lines_of_parts parts)) is ∙ ap (map strip_carriage_return) (one_more x (slice_split is_feed rest) (some_part rest))

from_one_part : (text : List ℕ) → slice_split is_feed text ≡ text ∷ [] → text ≢ [] → lines_of text ≡ strip_carriage_return text ∷ []
unfolding lines_of
from_one_part [] is some = absurd (some refl)
from_one_part (b ∷ bs) is some = ap (λ parts. map strip_carriage_return (lines_of_parts parts)) is

-- a line feed behind bytes that are none
pub not_feeds : (line : List ℕ) → All (λ b. b ≢ 10) line → All (λ b. is_feed b ≡ false) line
not_feeds line all = All-from_recursion (λ b. is_feed b ≡ false) line (onward line (recursion_from_All (λ b. b ≢ 10) line all))
  where
    not_ten : (b : ℕ) → b ≢ 10 → is_feed b ≡ false
    not_ten b other = elim (cases_Bool (is_feed b)) [ inl e ↦ absurd (other (eqb-true b 10 e)) | inr e ↦ e ]

    onward : (xs : List ℕ) → AllByRecursion (λ b. b ≢ 10) xs → AllByRecursion (λ b. is_feed b ≡ false) xs
    onward [] each = tt
    onward (x ∷ xs) each = (not_ten x each.0, onward xs each.1)

pub line_and_more : (line rest : List ℕ) → All (λ b. b ≢ 10) line → lines_of (line ++ 10 ∷ rest) ≡ strip_carriage_return line ∷ lines_of rest
line_and_more line rest all = from_parts (line ++ 10 ∷ rest) line rest (slice_split_at is_feed line 10 rest (not_feeds line all) refl)

pub one_line : (line : List ℕ) → All (λ b. b ≢ 10) line → line ≢ [] → lines_of line ≡ strip_carriage_return line ∷ []
one_line line all some = from_one_part line (slice_split_none is_feed line (not_feeds line all)) some

-- the first line feed
cut_there : (text : List ℕ) (end : ℕ) → end < length text → is_feed (slice_index text end) ≡ true → ((k : ℕ) → k < end → ¬ (is_feed (slice_index text k) ≡ true)) → slice_split is_feed text ≡ take end text ∷ slice_split is_feed (drop (end + 1) text)
cut_there text end inside feed before = let same : suc end ≡ end + 1 = omega arith in subst (λ n. slice_split is_feed text ≡ take end text ∷ slice_split is_feed (drop n text)) same (cut text end inside feed before)
  where
    cut : (xs : List ℕ) (i : ℕ) → i < length xs → is_feed (slice_index xs i) ≡ true → ((k : ℕ) → k < i → ¬ (is_feed (slice_index xs k) ≡ true)) → slice_split is_feed xs ≡ take i xs ∷ slice_split is_feed (drop (suc i) xs)
    cut [] i inside at none = absurd (omega (arith, inside))
    cut (x ∷ xs) zero inside at none = slice_split-cons_yes is_feed x xs at
    cut (x ∷ xs) (suc i) inside at none =
        slice_split-cons_no is_feed x xs (other (is_feed x) refl (none 0 (omega arith)))
        ∙ ap (onto_first x) (cut xs i (omega (arith, inside)) at (λ k less. none (suc k) (omega (arith, less))))
      where
        other : (b : Bool) → is_feed x ≡ b → ¬ (is_feed x ≡ true) → is_feed x ≡ false
        other true e never = absurd (never e)
        other false e never = e

uncut : (text : List ℕ) → ((k : ℕ) → k < length text → ¬ (is_feed (slice_index text k) ≡ true)) → slice_split is_feed text ≡ text ∷ []
uncut [] none = refl
uncut (x ∷ xs) none =
    slice_split-cons_no is_feed x xs (other (is_feed x) refl (none 0 (omega arith)))
    ∙ ap (onto_first x) (uncut xs (λ k less. none (suc k) (omega (arith, less))))
  where
    other : (b : Bool) → is_feed x ≡ b → ¬ (is_feed x ≡ true) → is_feed x ≡ false
    other true e never = absurd (never e)
    other false e never = e

pub line_to_feed : (text : List ℕ) (found : Option ℕ) (end : ℕ) → IsFirstByte (is_byte 10) text found → found ≡ Some end → lines_of text ≡ strip_carriage_return (take end text) ∷ lines_of (take (length text - (end + 1)) (drop (end + 1) text))
line_to_feed text None end first is = cc
line_to_feed text (Some at) end first is =
    let same : at ≡ end = cc in
    let whole = take_all (length text - (at + 1)) (drop (at + 1) text) (omega (arith, length-drop (at + 1) text)) in
    subst (λ n. lines_of text ≡ strip_carriage_return (take n text) ∷ lines_of (take (length text - (n + 1)) (drop (n + 1) text))) same
    (from_parts text (take at text) (drop (at + 1) text) (cut_there text at first.0.high first.1 (λ k less. first.0.before k (omega arith) less))
    ∙ ap (λ rest. strip_carriage_return (take at text) ∷ lines_of rest) (sym whole))

pub line_to_end : (text : List ℕ) (found : Option ℕ) → IsFirstByte (is_byte 10) text found → found ≡ None → 0 < length text → lines_of text ≡ strip_carriage_return text ∷ lines_of []
line_to_end text None first is some = from_one_part text (uncut text (λ k less. first k (omega arith) less)) (λ empty. omega (arith, ap length empty, some)) ∙ ap (λ xs. strip_carriage_return text ∷ xs) (sym no_lines)
line_to_end text (Some at) first is some = cc

-- no more lines than bytes
fewer : (text : List ℕ) → length (lines_of_parts (slice_split is_feed text)) ≤ length text
fewer [] = omega arith
fewer (b ∷ bs) = here (is_feed b) refl (fewer bs)
  where
    began : (parts : List (List ℕ)) → 0 < length parts → length (lines_of_parts (onto_first b parts)) ≤ suc (length (lines_of_parts parts))
    began [] some = absurd (omega (arith, some))
    began (y ∷ []) some = omega arith
    began (y ∷ z ∷ more) some = omega arith

    here : (x : Bool) → is_feed b ≡ x → length (lines_of_parts (slice_split is_feed bs)) ≤ length bs → length (lines_of_parts (slice_split is_feed (b ∷ bs))) ≤ suc (length bs)
    here true e few = omega (arith, few, ap (λ parts. length (lines_of_parts parts)) (slice_split-cons_yes is_feed b bs e), ap length (one_more [] (slice_split is_feed bs) (some_part bs)))
    here false e few = omega (arith, few, ap (λ parts. length (lines_of_parts parts)) (slice_split-cons_no is_feed b bs e), began (slice_split is_feed bs) (some_part bs))

pub few_lines : (text : List ℕ) → length (lines_of text) ≤ length text
unfolding lines_of
few_lines text = omega (arith, fewer text, length-map (lines_of_parts (slice_split is_feed text)) strip_carriage_return)

-- the numbers of lines
numbers_within : (limit n : ℕ) (lines : List (List ℕ)) → 1 ≤ n → n + length lines ≤ limit + 1 → AllByRecursion (HasNumberUpTo limit) (numbered_from n lines)
numbers_within limit n [] counted within = tt
numbers_within limit n (x ∷ xs) counted within =
    (record { counted = counted; within = omega (arith, within) }, numbers_within limit (n + 1) xs (omega (arith, counted)) (omega (arith, within)))

pub numbers_of_lines : (text : List ℕ) → AllByRecursion (HasNumberUpTo (length text)) (numbered_from 1 (lines_of text))
numbers_of_lines text = numbers_within (length text) 1 (lines_of text) (omega arith) (omega (arith, few_lines text))

-- the first of some lines with their numbers
pub numbered_first : (number : ℕ) (lines : List (List ℕ)) (line : List ℕ) (rest : List (List ℕ)) → lines ≡ line ∷ rest → numbered_from number lines ≡ record { number = number; bytes = line } ∷ numbered_from (number + 1) rest
numbered_first number lines line rest is = ap (numbered_from number) is

pub numbered_none : (number : ℕ) (text : List ℕ) → length text ≡ 0 → numbered_from number (lines_of text) ≡ []
numbered_none number [] empty = ap (numbered_from number) no_lines
numbered_none number (b ∷ bs) empty = absurd (omega (arith, empty))

-- a line given leaves fewer
pub goes_on : (can : List LineData → Type 0) → ((t : List LineData) → can t) → (old new : List LineData) (x : LineData) (line : Line) → old ≡ x ∷ new → MakesProgress can (item_count (λ (lines : List LineData). lines)) old (Some line) new
goes_on can always old new x line is = record { on = λ fin. (always new, cc, omega (arith, ap length is)); keeps = always new; rests = λ fin. tt }
