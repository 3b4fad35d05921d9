-- Bytes of a content from a place on.
use Rattle.shared_lemmas.proofs.Common.{◌≡◌, ℕ, ◌+◌, ◌-◌, ◌≤◌, List, [], ◌++◌, length, take, drop, refl, sym, ap, ◌∙◌, arith, drop-drop, drop-take, take_all, take-take, take-append-le, take-add, take-append-add, take-append_seam, min-eq_left}
use Rattle.std.proofs.Common.{length-take, length-drop, length-append}
use Rattle.std.proofs.lemmas.List.{append_assoc}
use Rattle.jass_base.specs.Outside.{AreBytesAt}
use Rattle.whole_files.specs.Windows.{AreFrom}

pub none_from : (content : List ℕ) (start : ℕ) → AreFrom content start []
none_from content start = record { front = refl; within = omega arith }

-- bytes hold what they have from a place on, and the front of what grew
pub all_from : (at : ℕ) (bytes : List ℕ) → AreFrom bytes at (drop at bytes)
all_from at bytes = record { front = sym (take_all (length (drop at bytes)) (drop at bytes) (omega arith)); within = omega arith }

pub kept_front : (bytes front grown more : List ℕ) → grown ≡ bytes ++ more → AreFrom bytes 0 front → AreFrom grown 0 front
kept_front bytes front grown more is kept = record {
  front = kept.front ∙ sym (take-append-le (length front) bytes more kept.within) ∙ ap (take (length front)) (sym is);
  within = omega (arith, kept.within, ap length is, length-append bytes more);
}

-- without the first so many
pub later_from : (content bytes rest : List ℕ) (start at : ℕ) → AreFrom content start bytes → start ≤ at → at ≤ start + length bytes → rest ≡ drop (at - start) bytes → AreFrom content at rest
later_from content bytes rest start at is first last same =
    let cut : ℕ = at - start in
    let size : length rest ≡ length bytes - cut = ap length same ∙ length-drop cut bytes in
    let split : length bytes ≡ cut + length rest = omega (arith, size) in
    let place : start + cut ≡ at = omega arith in
    record {
      front = same ∙ ap (drop cut) is.front ∙ ap (λ n. drop cut (take n (drop start content))) split ∙ drop-take cut (length rest) (drop start content) ∙ ap (take (length rest)) (drop-drop cut start content ∙ ap (λ n. drop n content) place);
      within = omega (arith, size, is.within, length-drop start content, length-drop at content);
    }

-- with the bytes that were read behind them
pub more_from : (content bytes piece grown : List ℕ) (start at count : ℕ) → at ≡ start + length bytes → grown ≡ bytes ++ take count piece → AreFrom content start bytes → AreBytesAt content at count piece → AreFrom content start grown
more_from content bytes piece grown start at count place is from read =
    let here : drop at content ≡ drop (length bytes) (drop start content) = ap (λ n. drop n content) place ∙ sym (drop-drop (length bytes) start content) in
    let got : take count piece ≡ take count (drop (length bytes) (drop start content)) = read.bytes ∙ ap (take count) here in
    let size : length grown ≡ length bytes + count
    = ap length is ∙ length-append bytes (take count piece) ∙ ap (λ n. length bytes + n) (ap length read.bytes ∙ length-take count (drop at content) ∙ min-eq_left read.within) in
    record {
      front = is ∙ ap (λ (xs : List ℕ). xs ++ take count piece) from.front ∙ ap (λ (xs : List ℕ). take (length bytes) (drop start content) ++ xs) got ∙ sym (take-add (length bytes) count (drop start content)) ∙ ap (λ n. take n (drop start content)) (sym size);
      within = omega (arith, size, read.within, ap length here, length-drop (length bytes) (drop start content), from.within);
    }

-- a piece that was read into room behind the bytes, where what wasn't read is cut off
pub read_behind : (bytes room now piece rest later : List ℕ) (held whole wide n : ℕ) → held ≡ length bytes → now ≡ take wide bytes ++ room → held ≤ wide → n ≤ length piece → held + n ≤ whole
    → take (held + n) (take whole ((take held now ++ (piece ++ rest)) ++ later)) ≡ bytes ++ take n piece
read_behind bytes room now piece rest later held whole wide n size is inside few within =
    let all : now ≡ bytes ++ room = is ∙ ap (λ (xs : List ℕ). xs ++ room) (take_all wide bytes (omega (arith, size, inside))) in
    let first : take held now ≡ bytes = ap (take held) all ∙ ap (λ n. take n (bytes ++ room)) size ∙ take-append_seam bytes room in
    take-take (held + n) whole ((take held now ++ (piece ++ rest)) ++ later) within
    ∙ ap (take (held + n)) (ap (λ (xs : List ℕ). (xs ++ (piece ++ rest)) ++ later) first ∙ append_assoc bytes (piece ++ rest) later ∙ ap (λ (xs : List ℕ). bytes ++ xs) (append_assoc piece rest later))
    ∙ ap (λ m. take (m + n) (bytes ++ (piece ++ (rest ++ later)))) size
    ∙ take-append-add bytes (piece ++ (rest ++ later)) n
    ∙ ap (λ (xs : List ℕ). bytes ++ xs) (take-append-le n piece (rest ++ later) few)
