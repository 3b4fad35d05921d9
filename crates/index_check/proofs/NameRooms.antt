-- How many bytes of a name are held.
use Rattle.shared_lemmas.proofs.Common.{◌≡◌, ◌≤◌, ◌+◌, ◌⊎◌, inl, inr, ℕ, List, length, ap, sym, ◌∙◌, arith, subst, Ok}
use Rattle.index_layout.specs.Bytes.{u32_in}
use Rattle.index_layout.specs.Reading.{name_end}
use Rattle.index_layout.specs.Refusals.{Fails}
use Rattle.index_layout.specs.declared.refusal.OpenFault.{OpenFault}
use Rattle.index_file.specs.Parts.{moved_fault}
use Rattle.index_file.proofs.Pieces.{piece_u32}
use Rattle.index_file.specs.Answers.{Stops}
use Rattle.index_check.specs.Private.Answers.{moved}
use Rattle.index_file.specs.Pieces.{IsPiece}
use Rattle.index_check.proofs.Judging.{stops_moved}
use Rattle.index_check.proofs.NameMoves.{name_moved, name_small}
use Rattle.index_file.proofs.Stopping.{stops_as}
use Rattle.jass_base.specs.declared.limits.TheConstants.{LONGEST_FILE, LONGEST_NAME}

-- the piece has so many bytes where the content has
piece_whole : (content bytes : List ℕ) (at count : ℕ) → IsPiece content at count bytes → at + count ≤ length content → count ≤ length bytes
piece_whole content bytes at count is many = by_reach is.enough
  where
    by_reach : ((count ≤ length bytes) ⊎ (at + length bytes ≡ length content)) → count ≤ length bytes
    by_reach (inl all) = all
    by_reach (inr end) = omega (arith, end, many)

-- the room is that of the name in the content
pub name_room_told : (content first : List ℕ) (at room : ℕ) → IsPiece content at 4 first → (4 ≤ length first → u32_in first 0 ≤ LONGEST_NAME → room ≡ 4 + u32_in first 0)
    → at + 4 ≤ length content → u32_in content at ≤ LONGEST_NAME → room ≡ 4 + u32_in content at
name_room_told content first at room is told many few =
    let all : 4 ≤ length first = piece_whole content first at 4 is many in
    let inside : 0 + 4 ≤ length first = omega (arith, all) in
    let place : at + 0 ≡ at = omega arith in
    let same : u32_in first 0 ≡ u32_in content at = piece_u32 content first at 0 is.from inside ∙ ap (u32_in content) place in
    let little : u32_in first 0 ≤ LONGEST_NAME = omega (arith, same, few) in
    told all little ∙ ap (λ n. 4 + n) same

-- a name that ends in the piece ends in the content
pub name_ends : (content bytes : List ℕ) (at room size : ℕ) → IsPiece content at room bytes → 4 ≤ room → (at + 4 ≤ length content → u32_in content at ≤ LONGEST_NAME → room ≡ 4 + u32_in content at)
    → name_end bytes 0 ≡ Ok size → name_end content at ≡ Ok (at + size)
name_ends content bytes at room size is some told end = name_moved content bytes at room is some told ∙ ap (moved at) end

-- a fault of the piece stops the content
pub name_stops : (content bytes : List ℕ) (at room : ℕ) (fault result : OpenFault) → IsPiece content at room bytes → 4 ≤ room → (at + 4 ≤ length content → u32_in content at ≤ LONGEST_NAME → room ≡ 4 + u32_in content at)
    → at ≤ LONGEST_FILE → Fails fault (name_end bytes 0) → result ≡ moved_fault at fault → Stops result (name_end content at)
name_stops content bytes at room fault result is some told few fails same =
    subst (λ (f : OpenFault). Stops f (name_end content at)) (sym same)
    (stops_as (moved_fault at fault) (name_end content at) (moved at (name_end bytes 0)) (name_moved content bytes at room is some told)
    (stops_moved at fault (name_end bytes 0) fails (λ r refused. (let e : r.at ≡ 0 = name_small bytes r refused in omega (arith, e, few)))))
