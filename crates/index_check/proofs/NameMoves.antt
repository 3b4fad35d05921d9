-- A name of a content, read in a piece that begins with it.
use Rattle.shared_lemmas.proofs.Common.{◌≡◌, ℕ, ◌+◌, ◌≤◌, ◌==◌, ◌||◌, not, false, nat_lt, List, length, slice_range, Err, refl, ap, sym, ◌∙◌, arith, nat_tests, or_parts}
use Rattle.jass_base.specs.declared.limits.TheConstants.{LONGEST_NAME}
use Rattle.index_layout.specs.Bytes.{u32_in}
use Rattle.index_layout.specs.Reading.{is_name_text, name_checks, name_end, name_in}
use Rattle.index_layout.specs.declared.refusal.OpenRefusal.{OpenRefusal}
use Rattle.index_file.proofs.Pieces.{piece_range, piece_u32}
use Rattle.index_check.specs.Private.Answers.{moved}
use Rattle.index_file.specs.Pieces.{IsPiece}
use Rattle.index_layout.proofs.Judging.{NoneWrong}
use Rattle.index_check.proofs.Judging.{SameChecks, judged_small, judged_then, same_reach}

size_same : (content bytes : List ℕ) (at count : ℕ) → IsPiece content at count bytes → nat_lt (length bytes) 4 ≡ false → u32_in content at ≡ u32_in bytes 0
size_same content bytes at count piece long =
    let inside : 0 + 4 ≤ length bytes = grind (arith, nat_tests, long) in
    let place : at + 0 ≡ at = omega arith in
    sym (piece_u32 content bytes at 0 piece.from inside ∙ ap (u32_in content) place)

size_reached : (content bytes : List ℕ) (at count : ℕ) → IsPiece content at count bytes → 4 ≤ count → (at + 4 ≤ length content → u32_in content at ≤ LONGEST_NAME → count ≡ 4 + u32_in content at)
    → nat_lt (length bytes) 4 ≡ false → (u32_in bytes 0 == 0 || nat_lt LONGEST_NAME (u32_in bytes 0)) ≡ false → u32_in bytes 0 + 4 ≤ count
size_reached content bytes at count piece few room long fits =
    let inside : 4 ≤ length bytes = grind (arith, nat_tests, long) in
    let same = size_same content bytes at count piece long in
    let short = (or_parts (u32_in bytes 0 == 0) (nat_lt LONGEST_NAME (u32_in bytes 0)) fits).1 in
    let most : u32_in bytes 0 ≤ 1048576 = grind (arith, nat_tests, short) in
    let there : at + 4 ≤ length content = (let e = piece.within in omega (arith, e, inside)) in
    let small : u32_in content at ≤ 1048576 = omega (arith, same, most) in
    let is = room there small in
    omega (arith, is, same)

name_same : (content bytes : List ℕ) (at count : ℕ) → IsPiece content at count bytes → nat_lt (length bytes) 4 ≡ false → nat_lt (length bytes) (4 + u32_in bytes 0) ≡ false → name_in content at ≡ name_in bytes 0
unfolding name_in
name_same content bytes at count piece long whole =
    let same = size_same content bytes at count piece long in
    let inside : 4 + u32_in bytes 0 ≤ length bytes = grind (arith, nat_tests, whole) in
    let order : 4 ≤ 4 + u32_in bytes 0 = omega arith in
    let end : at + 4 + u32_in content at ≡ at + (4 + u32_in bytes 0) = omega (arith, same) in
    ap (slice_range content (at + 4)) end ∙ sym (piece_range content bytes at 4 (4 + u32_in bytes 0) piece.from order inside)

name_checks_same : (content bytes : List ℕ) (at count : ℕ) → IsPiece content at count bytes → 4 ≤ count → (at + 4 ≤ length content → u32_in content at ≤ LONGEST_NAME → count ≡ 4 + u32_in content at)
    → SameChecks at (name_checks content at) (name_checks bytes 0)
unfolding name_checks
name_checks_same content bytes at count piece few room =
    let here : at ≡ at + 0 = omega arith in (
      record { wrong = same_reach at (length bytes) (length content) count (at + 4) 4 piece.within piece.enough refl few; at = here; why = refl },
      λ long. (
        record { wrong = ap (λ n. n == 0 || nat_lt LONGEST_NAME n) (size_same content bytes at count piece long); at = here; why = refl },
        λ fits. (
          record {
            wrong = (
                let end : at + 4 + u32_in content at ≡ at + (4 + u32_in bytes 0) = (let e = size_same content bytes at count piece long in omega (arith, e)) in
                let reach : 4 + u32_in bytes 0 ≤ count = (let e = size_reached content bytes at count piece few room long fits in omega (arith, e)) in
                same_reach at (length bytes) (length content) count (at + 4 + u32_in content at) (4 + u32_in bytes 0) piece.within piece.enough end reach);
            at = here;
            why = refl;
          },
          λ whole. (record { wrong = ap (λ name. not (is_name_text name)) (name_same content bytes at count piece long whole); at = here; why = refl }, λ plain. tt),
        ),
      ),
    )

name_behind : (content bytes : List ℕ) (at count : ℕ) → IsPiece content at count bytes → NoneWrong (name_checks bytes 0) → at + 4 + u32_in content at ≡ at + (4 + u32_in bytes 0)
unfolding name_checks
name_behind content bytes at count piece none = let e = size_same content bytes at count piece none.0 in omega (arith, e)

pub name_moved : (content bytes : List ℕ) (at count : ℕ) → IsPiece content at count bytes → 4 ≤ count → (at + 4 ≤ length content → u32_in content at ≤ LONGEST_NAME → count ≡ 4 + u32_in content at)
    → name_end content at ≡ moved at (name_end bytes 0)
unfolding name_end
name_moved content bytes at count piece few room =
    judged_then at (0 + 4 + u32_in bytes 0) (at + 4 + u32_in content at) (name_checks content at) (name_checks bytes 0) (name_checks_same content bytes at count piece few room)
    (name_behind content bytes at count piece)

pub name_small : (bytes : List ℕ) (r : OpenRefusal) → name_end bytes 0 ≡ Err r → r.at ≡ 0
unfolding name_end name_checks
name_small bytes r is =
    let none : 0 ≤ 0 = omega arith in
    let e = judged_small 0 (4 + u32_in bytes 0) (name_checks bytes 0) r (none, λ a. (none, λ b. (none, λ c. (none, λ d. tt)))) is in
    omega (arith, e)
