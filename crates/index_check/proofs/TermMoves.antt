-- A term of a content, read in a piece that begins with it.
use Rattle.shared_lemmas.proofs.Common.{◌≡◌, ℕ, ◌+◌, ◌≤◌, ◌==◌, ◌&&◌, not, Bool, true, false, nat_lt, List, ◌++◌, length, take, slice_range, Option, Ok, Err, refl, ap, ap₂, sym, subst, ◌∙◌, arith, nat_tests, nat_eq, common_prefix_len-le}
use Rattle.index_layout.specs.Bytes.{u16_in, u32_in}
use Rattle.index_layout.specs.Layout.{shared_with}
use Rattle.index_layout.specs.Reading.{before_bytes, heads_in, is_next_term, segments_place, term_checks, term_end, term_in}
use Rattle.index_layout.specs.declared.refusal.OpenRefusal.{OpenRefusal}
use Rattle.index_file.proofs.Pieces.{piece_range, piece_u16, piece_u32}
use Rattle.index_check.specs.Private.Answers.{moved}
use Rattle.index_file.specs.Pieces.{IsPiece}
use Rattle.index_layout.proofs.Judging.{NoneWrong, judged_ok}
use Rattle.index_check.proofs.Judging.{SameChecks, judged_small, judged_then, same_reach}

-- a term has no more bytes of the one before than that has
pub shared_fits : (before term : List ℕ) (shared : ℕ) (rises : Bool) → (shared_with before term == shared && rises) ≡ true → shared ≤ length before
shared_fits before term shared true is = let e : shared_with before term ≡ shared = grind (arith, nat_tests, is) in subst (λ n. n ≤ length before) e (common_prefix_len-le nat_eq before term).0
shared_fits before term shared false is = absurd (grind (arith, nat_tests, is))

shared_same : (content bytes : List ℕ) (at count : ℕ) → IsPiece content at count bytes → nat_lt (length bytes) 4 ≡ false → u16_in content at ≡ u16_in bytes 0
shared_same content bytes at count piece long =
    let inside : 0 + 2 ≤ length bytes = grind (arith, nat_tests, long) in
    let place : at + 0 ≡ at = omega arith in
    sym (piece_u16 content bytes at 0 piece.from inside ∙ ap (u16_in content) place)

size_same : (content bytes : List ℕ) (at count : ℕ) → IsPiece content at count bytes → nat_lt (length bytes) 4 ≡ false → u16_in content (at + 2) ≡ u16_in bytes 2
size_same content bytes at count piece long =
    let inside : 2 + 2 ≤ length bytes = grind (arith, nat_tests, long) in
    sym (piece_u16 content bytes at 2 piece.from inside)

place_same : (content bytes : List ℕ) (at count : ℕ) → IsPiece content at count bytes → nat_lt (length bytes) 4 ≡ false → segments_place content at ≡ at + (4 + u16_in bytes 2)
place_same content bytes at count piece long = let e = size_same content bytes at count piece long in omega (arith, e)

place_reached : (content bytes : List ℕ) (at count : ℕ) → IsPiece content at count bytes → (at + 4 ≤ length content → count ≡ 8 + u16_in content (at + 2))
    → nat_lt (length bytes) 4 ≡ false → 4 + u16_in bytes 2 + 4 ≤ count
place_reached content bytes at count piece room long =
    let inside : 4 ≤ length bytes = grind (arith, nat_tests, long) in
    let same = size_same content bytes at count piece long in
    let there : at + 4 ≤ length content = (let e = piece.within in omega (arith, e, inside)) in
    let is = room there in
    omega (arith, is, same)

term_same : (content bytes : List ℕ) (before : Option (List ℕ)) (at count : ℕ) → IsPiece content at count bytes → nat_lt (length bytes) 4 ≡ false → nat_lt (length bytes) (4 + u16_in bytes 2 + 4) ≡ false
    → term_in content before at ≡ term_in bytes before 0
unfolding term_in
term_same content bytes before at count piece long whole =
    let inside : 4 + u16_in bytes 2 ≤ length bytes = grind (arith, nat_tests, whole) in
    let order : 4 ≤ 4 + u16_in bytes 2 = omega arith in
    let rest : slice_range content (at + 4) (segments_place content at) ≡ slice_range bytes 4 (4 + u16_in bytes 2)
    = ap (slice_range content (at + 4)) (place_same content bytes at count piece long) ∙ sym (piece_range content bytes at 4 (4 + u16_in bytes 2) piece.from order inside) in
    ap₂ (λ n (xs : List ℕ). take n (before_bytes before) ++ xs) (shared_same content bytes at count piece long) rest

heads_same : (content bytes : List ℕ) (at count : ℕ) → IsPiece content at count bytes → nat_lt (length bytes) 4 ≡ false → nat_lt (length bytes) (4 + u16_in bytes 2 + 4) ≡ false
    → u32_in content (segments_place content at) ≡ u32_in bytes (4 + u16_in bytes 2)
heads_same content bytes at count piece long whole =
    let inside : 4 + u16_in bytes 2 + 4 ≤ length bytes = grind (arith, nat_tests, whole) in
    ap (u32_in content) (place_same content bytes at count piece long) ∙ sym (piece_u32 content bytes at (4 + u16_in bytes 2) piece.from inside)

term_checks_same : (content bytes : List ℕ) (before : Option (List ℕ)) (at count : ℕ) → IsPiece content at count bytes → 8 ≤ count → (at + 4 ≤ length content → count ≡ 8 + u16_in content (at + 2))
    → SameChecks at (term_checks content before at) (term_checks bytes before 0)
unfolding term_checks
term_checks_same content bytes before at count piece few room =
    let here : at ≡ at + 0 = omega arith in
    let four : 4 ≤ count = omega (arith, few) in (
      record { wrong = same_reach at (length bytes) (length content) count (at + 4) 4 piece.within piece.enough refl four; at = here; why = refl },
      λ long. (
        record {
          wrong = (
              let end : segments_place content at + 4 ≡ at + (4 + u16_in bytes 2 + 4) = (let e = place_same content bytes at count piece long in omega (arith, e)) in
              same_reach at (length bytes) (length content) count (segments_place content at + 4) (4 + u16_in bytes 2 + 4) piece.within piece.enough end (place_reached content bytes at count piece room long));
          at = here;
          why = refl;
        },
        λ whole. (
          record { wrong = ap₂ (λ n (term : List ℕ). not (is_next_term before n term)) (shared_same content bytes at count piece long) (term_same content bytes before at count piece long whole); at = here; why = refl },
          λ next. (record { wrong = ap (λ n. n == 0) (heads_same content bytes at count piece long whole); at = place_same content bytes at count piece long; why = refl }, λ some. tt),
        ),
      ),
    )

term_behind : (content bytes : List ℕ) (before : Option (List ℕ)) (at count : ℕ) → IsPiece content at count bytes → NoneWrong (term_checks bytes before 0) → segments_place content at + 4 ≡ at + (4 + u16_in bytes 2 + 4)
unfolding term_checks
term_behind content bytes before at count piece none = let e = place_same content bytes at count piece none.0 in omega (arith, e)

pub term_moved : (content bytes : List ℕ) (before : Option (List ℕ)) (at count : ℕ) → IsPiece content at count bytes → 8 ≤ count → (at + 4 ≤ length content → count ≡ 8 + u16_in content (at + 2))
    → term_end content before at ≡ moved at (term_end bytes before 0)
unfolding term_end
term_moved content bytes before at count piece few room =
    judged_then at (4 + u16_in bytes 2 + 4) (segments_place content at + 4) (term_checks content before at) (term_checks bytes before 0) (term_checks_same content bytes before at count piece few room)
    (term_behind content bytes before at count piece)

pub term_there : (content bytes : List ℕ) (before : Option (List ℕ)) (at count place : ℕ) → IsPiece content at count bytes → 8 ≤ count → (at + 4 ≤ length content → count ≡ 8 + u16_in content (at + 2))
    → term_end bytes before 0 ≡ Ok place → (term_in content before at ≡ term_in bytes before 0) × (heads_in content at ≡ heads_in bytes 0)
unfolding term_end term_checks heads_in
term_there content bytes before at count place piece few room is =
    let none = (judged_ok (term_checks bytes before 0) (4 + u16_in bytes 2 + 4) place is).0 in
    (term_same content bytes before at count piece none.0 none.1.0, heads_same content bytes at count piece none.0 none.1.0)

-- the place of a refusal lies in the piece
pub term_small : (bytes : List ℕ) (before : Option (List ℕ)) (r : OpenRefusal) → term_end bytes before 0 ≡ Err r → r.at ≤ length bytes
unfolding term_end term_checks
term_small bytes before r is =
    let none : 0 ≤ length bytes = omega arith in
    judged_small (length bytes) (4 + u16_in bytes 2 + 4) (term_checks bytes before 0) r
    (none, λ long. (none, λ whole. (none, λ next. ((let e : 4 + u16_in bytes 2 ≤ length bytes = grind (arith, nat_tests, whole) in e), λ some. tt)))) is
