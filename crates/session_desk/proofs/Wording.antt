-- The words of a line, and the checks before them.
use Rattle.shared_lemmas.proofs.Common.{◌≡◌, ℕ, ◌<◌, ◌≤◌, Bool, true, false, not, cond, List, ◌∷◌, length, [], take, drop, refl, ap, sym, subst, ◌∙◌, arith, take-length, drop-length, is_utf8-from_IsUtf8, Option, Some, None, nat_lt, slice_get, get_or, unwrap_or, is_utf8, IsUtf8}
use Rattle.session_desk.proofs.Below.{IsFirstByte, is_byte2, is_blank, blank_runs, BeginsWithout, first-run, only-run, is-short}
use Rattle.shared_lemmas.proofs.Texts.{no_utf8}
use Rattle.session_desk.specs.Lines.{DeskCommand, command_in, read_desk_line}

-- a word ends at the first blank behind it, or at the end
pub word_there : (text : List ℕ) (found : Option ℕ) (end : ℕ) → IsFirstByte (is_byte2 32 9) text found → end ≡ unwrap_or found (length text) → BeginsWithout is_blank text → 0 < length text
    → (blank_runs text ≡ take end text ∷ blank_runs (drop end text)) × (length (drop end text) < length text)
word_there text (Some at) end first is begins some =
    subst (λ n. (blank_runs text ≡ take n text ∷ blank_runs (drop n text)) × (length (drop n text) < length text)) (sym is) (first-run text (Some at) at first refl begins)
word_there text None end first is begins some =
    subst (λ n. (blank_runs text ≡ take n text ∷ blank_runs (drop n text)) × (length (drop n text) < length text)) (sym is) (
      only-run text None first refl some ∙ ap (λ t. t ∷ blank_runs []) (sym (take-length text)) ∙ ap (λ t. take (length text) text ∷ blank_runs t) (sym (drop-length text)),
      omega (arith, ap length (drop-length text), some),
    )

abbrev line_checks : Bool → Bool → Option DeskCommand → Option DeskCommand
line_checks long utf8 command = cond long None (cond (not utf8) None command)

checked : (line : List ℕ) (long utf8 : Bool) → nat_lt 1048576 (length line) ≡ long → is_utf8 line ≡ utf8 → read_desk_line line ≡ line_checks long utf8 (command_in (blank_runs line))
unfolding read_desk_line
checked line long utf8 a b = ap (λ (x : Bool). line_checks x (is_utf8 line) (command_in (blank_runs line))) a
    ∙ ap (λ (x : Bool). line_checks long x (command_in (blank_runs line))) b

-- a line that isn't text
pub bad_text : (line : List ℕ) → length line ≤ 1048576 → ¬ IsUtf8 line → read_desk_line line ≡ None
bad_text line few never = checked line false false (is-short (length line) few) (no_utf8 line never)

-- a line that is
pub good_text : (line : List ℕ) → length line ≤ 1048576 → IsUtf8 line → read_desk_line line ≡ command_in (blank_runs line)
good_text line few utf8 = checked line false true (is-short (length line) few) (is_utf8-from_IsUtf8 line utf8)

-- a text that begins with an ASCII byte
pub small_first : (text bytes : List ℕ) (byte : ℕ) → bytes ≡ text → slice_get bytes 0 ≡ Some byte → byte < 128 → (0 < length text) × (get_or text 0 0 < 128)
small_first text [] byte is there small = cc
small_first text (x ∷ xs) byte is there small =
    let same : x ≡ byte = cc in subst (λ t. (0 < length t) × (get_or t 0 0 < 128)) is (omega arith, omega (arith, small, same))
