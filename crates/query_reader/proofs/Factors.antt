-- Each factor is at least 1.
use Rattle.shared_lemmas.proofs.Common.{◌≡◌, ℕ, ◌≤◌, Bool, true, false, cond, List, [], ◌∷◌, length, map, refl, arith, leb-true, Option, Some, None, nat_le, filter, IfSome, ◌&&◌, AllByRecursion, slice_split, option_map, option_and_then, unwrap_or, chars}
use Rattle.jass_base.specs.Decimal.{decimal_of}
use Rattle.query_reader.specs.declared.mode.Mode.{Mode}
use Rattle.query_reader.specs.declared.mode.Mode.TheVariants.{Plain, Folded}
use Rattle.query_reader.specs.Mentions.{Mention}
use Rattle.query_reader.specs.Texts.{Cut, Part, has_items, is_blank, factor_of, factor_in_range, at_last_caret, weighted, plain_mention, plain_mentions, with_factor, factor_behind, folded_parts, parts_of, folded_mentions, mentions_of}

abbrev Counts : Mention → Type 0
Counts m = 1 ≤ m.factor

in-range : (n : ℕ) → IfSome (factor_in_range n) (λ f. 1 ≤ f)
in-range n = at (nat_le 1 n) (nat_le n 255) refl
  where
    at : (low high : Bool) → nat_le 1 n ≡ low → IfSome (cond (low && high) (Some n) None) (λ f. 1 ≤ f)
    at true true e = leb-true 1 n e
    at true false e = tt
    at false high e = tt

factor-counts : (text : List ℕ) → IfSome (factor_of text) (λ f. 1 ≤ f)
factor-counts text = at (nat_le (length text) 3) (decimal_of text)
  where
    at : (short : Bool) (o : Option ℕ) → IfSome (cond short (option_and_then factor_in_range o) None) (λ f. 1 ≤ f)
    at true None = tt
    at true (Some n) = in-range n
    at false o = tt

-- plain mentions
weighted-counts : (cut : Cut) → IfSome (weighted cut) Counts
weighted-counts cut = at (has_items cut.before) (factor_of cut.behind) (factor-counts cut.behind)
  where
    at : (some : Bool) (o : Option ℕ) → IfSome o (λ f. 1 ≤ f) → IfSome (cond some (option_map (λ factor. record { term = cut.before; factor = factor }) o) None) Counts
    at true None is = tt
    at true (Some f) is = is
    at false o is = tt

plain-counts : (run : List ℕ) → Counts (plain_mention run)
unfolding plain_mention
plain-counts run = at (at_last_caret run)
  where
    or-one : (o : Option Mention) → IfSome o Counts → Counts (unwrap_or o (record { term = run; factor = 1 }))
    or-one None is = omega arith
    or-one (Some m) is = is

    at : (o : Option Cut) → Counts (unwrap_or (option_and_then weighted o) (record { term = run; factor = 1 }))
    at None = omega arith
    at (Some cut) = or-one (weighted cut) (weighted-counts cut)

all-plain : (runs : List (List ℕ)) → AllByRecursion Counts (map plain_mention runs)
all-plain [] = tt
all-plain (run ∷ runs) = (plain-counts run, all-plain runs)

-- folded mentions
with-factor-counts : (part : Part) (o : Option ℕ) (behind from : List Mention) → IfSome o (λ f. 1 ≤ f) → AllByRecursion Counts behind → AllByRecursion Counts from → AllByRecursion Counts (with_factor part o behind from)
with-factor-counts part None behind from is first second = (omega arith, second)
with-factor-counts part (Some f) behind from is first second = (is, first)

behind-counts : (part next : Part) → IfSome (factor_behind part next) (λ f. 1 ≤ f)
behind-counts part next = at part.caret
  where
    at : (caret : Bool) → IfSome (cond caret (factor_of next.run) None) (λ f. 1 ≤ f)
    at true = factor-counts next.run
    at false = tt

all-parts : (parts : List Part) → AllByRecursion Counts (folded_parts parts)
unfolding folded_parts
all-parts [] = tt
all-parts (part ∷ []) = at (has_items part.run)
  where
    at : (some : Bool) → AllByRecursion Counts (cond some (with_factor part None [] []) [])
    at true = (omega arith, tt)
    at false = tt
all-parts (part ∷ next ∷ parts) = at (has_items part.run) (all-parts parts) (all-parts (next ∷ parts))
  where
    at : (some : Bool) → AllByRecursion Counts (folded_parts parts) → AllByRecursion Counts (folded_parts (next ∷ parts))
        → AllByRecursion Counts (cond some (with_factor part (factor_behind part next) (folded_parts parts) (folded_parts (next ∷ parts))) (folded_parts (next ∷ parts)))
    at true first second = with-factor-counts part (factor_behind part next) (folded_parts parts) (folded_parts (next ∷ parts)) (behind-counts part next) first second
    at false first second = second

pub all-count : (mode : Mode) (text : List ℕ) → AllByRecursion (λ (m : Mention). 1 ≤ m.factor) (mentions_of mode text)
unfolding mentions_of plain_mentions folded_mentions
all-count Plain text = all-plain (filter has_items (slice_split is_blank text))
all-count Folded text = all-parts (parts_of (chars text))
