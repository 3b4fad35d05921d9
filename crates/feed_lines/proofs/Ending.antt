-- The lines of a text that end by LF.
use Rattle.shared_lemmas.proofs.Common.{◌≡◌, ◌≢◌, ℕ, ◌+◌, ◌-◌, ◌<◌, ◌≤◌, Bool, true, false, List, [], ◌∷◌, ◌++◌, length, take, map, refl, ap, ◌∙◌, arith, length-take, slice_split_at, slice_split_none, length-slice_split, All, ◌==◌, slice_index, if◌then◌else◌, slice_split, strip_carriage_return}
use Rattle.text_lines.proofs.Dividing.{not_feeds, is_feed}
use Rattle.feed_lines.specs.Lines.{ended_lines, ended_parts}

one_more : (x : List ℕ) (parts : List (List ℕ)) → 0 < length parts → ended_parts (x ∷ parts) ≡ x ∷ ended_parts parts
one_more x [] some = absurd (omega (arith, some))
one_more x (y ∷ more) some = refl

pub none_ended : (text : List ℕ) → All (λ b. b ≢ 10) text → ended_lines text ≡ []
unfolding ended_lines
none_ended text all = ap (λ parts. map strip_carriage_return (ended_parts parts)) (slice_split_none is_feed text (not_feeds text all))

pub one_ended : (line rest : List ℕ) → All (λ b. b ≢ 10) line → ended_lines (line ++ 10 ∷ rest) ≡ strip_carriage_return line ∷ ended_lines rest
unfolding ended_lines
one_ended line rest all =
    ap (λ parts. map strip_carriage_return (ended_parts parts)) (slice_split_at is_feed line 10 rest (not_feeds line all) refl)
    ∙ ap (map strip_carriage_return) (one_more line (slice_split is_feed rest) (omega (arith, length-slice_split is_feed rest)))

-- at most one byte is dropped
pub nearly_whole : (line : List ℕ) → length line ≤ length (strip_carriage_return line) + 1
nearly_whole line = here (slice_index line (length line - 1) == 13)
  where
    here : (b : Bool) → length line ≤ length (if b then take (length line - 1) line else line) + 1
    here true = omega (arith, length-take (length line - 1) line)
    here false = omega arith
