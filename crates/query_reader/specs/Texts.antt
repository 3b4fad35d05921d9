-- The mentions in a text. The rules of runs and factors are this project's; letters, numbers and case folding are Unicode's (UAX 44, and section 3.13 of the standard).
use Rattle.std.specs.Prelude.{ℕ, Bool, true, false, ◌==◌, ◌&&◌, ◌||◌, List, [], ◌∷◌, length, map, filter, Option, Some, None, nat_le, encode_utf8_all, if◌then◌else◌}
use Rattle.std.specs.List.{slice_split}
use Rattle.std.specs.Str.{chars}
use Rattle.std.specs.Option.{option_map, option_and_then, unwrap_or}
use Rattle.unicode.specs.Binary.{is_alphabetic}
use Rattle.unicode.specs.GeneralCategory.{general_category, general_category_eq}
use Rattle.ucd_category.specs.declared.GeneralCategory.TheVariants.{DecimalNumber}
use Rattle.caseless.specs.Caseless.{default_case_fold}
use Rattle.jass_base.specs.Decimal.{decimal_of}
use Rattle.query_reader.specs.declared.mode.Mode.{Mode}
use Rattle.query_reader.specs.declared.mode.Mode.TheVariants.{Plain, Folded}
use Rattle.query_reader.specs.Mentions.{Mention}
use Rattle.jass_base.specs.declared.limits.TheConstants.{MOST_TIMES}

abbrev pub has_items : List ℕ → Bool
has_items [] = false
has_items (x ∷ xs) = true

-- a factor text: 1 to 3 ASCII digits that stand for 1 to 255
abbrev pub factor_in_range : ℕ → Option ℕ
factor_in_range n = if nat_le 1 n && nat_le n MOST_TIMES then Some n else None

abbrev pub factor_of : List ℕ → Option ℕ
factor_of text = if nat_le (length text) 3 then option_and_then factor_in_range (decimal_of text) else None

-- Plain mentions.

-- space and tab
abbrev pub is_blank : ℕ → Bool
is_blank b = b == 32 || b == 9

-- what stands before the last `^` of a run and behind it
pub record Cut : Type 0 where
  pub before : List ℕ
  pub behind : List ℕ

abbrev pub cut_later : ℕ → List ℕ → Option Cut → Option Cut
cut_later b bytes (Some cut) = Some (record { before = b ∷ cut.before; behind = cut.behind })
cut_later b bytes None = if b == 94 then Some (record { before = []; behind = bytes }) else None

unfoldable pub at_last_caret : List ℕ → Option Cut
at_last_caret [] = None
at_last_caret (b ∷ bytes) = cut_later b bytes (at_last_caret bytes)

-- at least one byte, and a factor
abbrev pub weighted : Cut → Option Mention
weighted cut = if has_items cut.before then option_map (λ factor. record { term = cut.before; factor = factor }) (factor_of cut.behind) else None

-- a run: the last `^` decides whether it ends in a factor
unfoldable pub plain_mention : List ℕ → Mention
plain_mention run = unwrap_or (option_and_then weighted (at_last_caret run)) (record { term = run; factor = 1 })

-- the runs between blanks
abbrev pub blank_runs : List ℕ → List (List ℕ)
blank_runs text = filter has_items (slice_split is_blank text)

-- a mention for each
unfoldable pub plain_mentions : List ℕ → List Mention
plain_mentions text = map plain_mention (filter has_items (slice_split is_blank text))

-- Folded mentions.

-- a letter or a decimal digit of any script
unfoldable pub is_word : ℕ → Bool
is_word c = is_alphabetic c || general_category_eq (general_category c) DecimalNumber

-- what stands between characters that are none, and whether a `^` follows it
pub record Part : Type 0 where
  pub run : List ℕ
  pub caret : Bool

abbrev pub onto_first_part : ℕ → List Part → List Part
onto_first_part c [] = []
onto_first_part c (part ∷ parts) = record part { run = c ∷ part.run } ∷ parts

unfoldable pub parts_of : List ℕ → List Part
parts_of [] = record { run = []; caret = false } ∷ []
parts_of (c ∷ cs) = if is_word c then onto_first_part c (parts_of cs) else record { run = []; caret = c == 94 } ∷ parts_of cs

-- the term of a run: its case folding, in UTF-8
unfoldable pub folded_term : List ℕ → List ℕ
folded_term run = encode_utf8_all (default_case_fold run)

-- a run directly followed by one `^`, and this by a run that is a factor
abbrev pub factor_behind : Part → Part → Option ℕ
factor_behind part next = if part.caret then factor_of next.run else None

abbrev pub with_factor : Part → Option ℕ → List Mention → List Mention → List Mention
with_factor part (Some factor) behind_next from_next = record { term = folded_term part.run; factor = factor } ∷ behind_next
with_factor part None behind_next from_next = record { term = folded_term part.run; factor = 1 } ∷ from_next

-- the runs from left to right; one that is a factor is no mention, and takes no factor
unfoldable pub folded_parts : List Part → List Mention
folded_parts [] = []
folded_parts (part ∷ []) = if has_items part.run then with_factor part None [] [] else []
folded_parts (part ∷ next ∷ parts) =
    if has_items part.run then with_factor part (factor_behind part next) (folded_parts parts) (folded_parts (next ∷ parts))
    else folded_parts (next ∷ parts)

-- the mentions in the characters of a text
unfoldable pub folded_mentions : List ℕ → List Mention
folded_mentions cs = folded_parts (parts_of cs)

unfoldable pub mentions_of : Mode → List ℕ → List Mention
mentions_of Plain text = plain_mentions text
mentions_of Folded text = folded_mentions (chars text)
