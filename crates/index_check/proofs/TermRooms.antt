-- The room that a term takes up to its heads.
use Rattle.shared_lemmas.proofs.Common.{◌≡◌, ◌≤◌, ◌<◌, ◌+◌, ◌-◌, ◌*◌, ℕ, inl, inr, List, length, ap, ◌∙◌, arith}
use Rattle.index_layout.specs.Bytes.{u16_in, u32_in}
use Rattle.index_layout.specs.Reading.{heads_in, segments_place}
use Rattle.index_file.proofs.Pieces.{piece_u16, piece_u32}
use Rattle.index_file.specs.Pieces.{IsPiece}

-- a piece that holds four bytes tells the room of the term
pub room_there : (content bytes : List ℕ) (at room : ℕ) → IsPiece content at 4 bytes → (4 ≤ length bytes → room ≡ 8 + u16_in bytes 2) → at + 4 ≤ length content → room ≡ 8 + u16_in content (at + 2)
room_there content bytes at room piece told there =
    let four : 4 ≤ length bytes = elim piece.enough [ inl l ↦ l | inr r ↦ omega (arith, r, there) ] in
    told four ∙ ap (λ n. 8 + n) (piece_u16 content bytes at 2 piece.from (omega (arith, four)))

-- the place of a term's heads and their number, where the term is held
pub heads_found : (content bytes first : List ℕ) (at room : ℕ) → IsPiece content at 4 first → (4 ≤ length first → room ≡ 8 + u16_in first 2) → IsPiece content at room bytes → 8 ≤ room → room ≤ length bytes
    → (at + room ≡ segments_place content at + 4) × (u32_in bytes (room - 4) ≡ heads_in content at)
unfolding heads_in
heads_found content bytes first at room one told piece some held =
    let is = room_there content first at room one told (let w = piece.within in omega (arith, some, held, w)) in
    let place : at + (room - 4) ≡ segments_place content at = omega (arith, is) in
    (omega (arith, is), piece_u32 content bytes at (room - 4) piece.from (omega (arith, some, held)) ∙ ap (u32_in content) place)

-- a term whose heads lie in the content is held where so many bytes are asked for
pub term_held : (content bytes first : List ℕ) (at room : ℕ) → IsPiece content at 4 first → (4 ≤ length first → room ≡ 8 + u16_in first 2) → IsPiece content at room bytes
    → segments_place content at + 4 + 11 * heads_in content at ≤ length content → ¬ (length bytes < room)
term_held content bytes first at room one told piece fits short =
    let is = room_there content first at room one told (omega (arith, fits)) in
    elim piece.enough [ inl l ↦ omega (arith, l, short) | inr r ↦ omega (arith, r, is, fits, short) ]

pub heads_held : (content bytes : List ℕ) (place size : ℕ) → IsPiece content place size bytes → place + size ≤ length content → ¬ (length bytes < size)
heads_held content bytes place size piece fits short = elim piece.enough [ inl l ↦ omega (arith, l, short) | inr r ↦ omega (arith, r, fits, short) ]
