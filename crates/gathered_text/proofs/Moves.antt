-- Texts copied by a few moves of the same size.
use Rattle.shared_lemmas.proofs.Common.{◌≡◌, ℕ, ◌+◌, ◌-◌, ◌≤◌, min, List, ◌++◌, length, take, refl, sym, ap, ◌∙◌, arith, take-take, take_all, length-take-le, length-chunk, length-put_chunk, take_more_put_chunk, append_assoc, take-add, take-append-add}
use lib.Lanes.{chunk, put_chunk}

module _ (from : List ℕ) where
  -- a copy of a text, done up to a place
  abbrev Done : ℕ → List ℕ → Type 0
  Done n copy = (length copy ≡ length from) × (take n copy ≡ take n from)

  -- a move more, which begins at the latest where the copy ends
  next : (copy : List ℕ) (m i n : ℕ) → i ≤ m → i + n ≤ length from → Done m copy → Done (i + n) (put_chunk i copy (chunk i n from))
  next copy m i n joined more done =
      let size : length (chunk i n from) ≡ n = length-chunk i n from more in (
        length-put_chunk i copy (chunk i n from) ∙ done.0,
        take_more_put_chunk i copy (chunk i n from) (i + n) (omega (arith, size)) (omega (arith, more, done.0))
            ∙ ap (λ (xs : List ℕ). xs ++ chunk i n from) (sym (take-take i m copy joined) ∙ ap (λ (xs : List ℕ). take i xs) done.1 ∙ take-take i m from joined)
            ∙ sym (take-add i n from),
      )

  -- all is done
  whole : (copy : List ℕ) (n : ℕ) → n ≡ length from → Done n copy → copy ≡ from
  whole copy n end done = sym (take_all n copy (omega (arith, end, done.0))) ∙ done.1 ∙ take_all n from (omega (arith, end))

  module _ (to : List ℕ) (size : length to ≡ length from) where
    -- the first bytes, and then the last
    pub two_moves : (n : ℕ) → n ≤ length from → length from ≤ n + n → put_chunk (length from - n) (put_chunk 0 to (chunk 0 n from)) (chunk (length from - n) n from) ≡ from
    two_moves n fits covered =
        whole _ (length from - n + n) (omega (arith, fits))
        (next (put_chunk 0 to (chunk 0 n from)) (0 + n) (length from - n) n (omega (arith, covered)) (omega (arith, fits))
        (next to 0 0 n (omega arith) (omega (arith, fits)) (size, refl)))

    -- four moves of eight bytes
    pub by_eights : (second third : ℕ) → 8 ≤ length from → length from ≤ 32 → second ≡ min (length from - 8) 8 → third ≡ min (length from - 8) 16
        → put_chunk (length from - 8) (put_chunk third (put_chunk second (put_chunk 0 to (chunk 0 8 from)) (chunk second 8 from)) (chunk third 8 from)) (chunk (length from - 8) 8 from) ≡ from
    by_eights second third some few two three =
        let one = next to 0 0 8 (omega arith) (omega (arith, some)) (size, refl) in
        let both = next _ (0 + 8) second 8 (omega (arith, two)) (omega (arith, some, two)) one in
        let more = next _ (second + 8) third 8 (omega (arith, two, three)) (omega (arith, some, three)) both in
        whole _ (length from - 8 + 8) (omega (arith, some)) (next _ (third + 8) (length from - 8) 8 (omega (arith, three, few)) (omega (arith, some)) more)

module _ (to row : List ℕ) (at : ℕ) where
  -- the first bytes of a row, moved to a place
  abbrev Moved : ℕ → List ℕ → Type 0
  Moved n moved = take (at + n) moved ≡ take at to ++ take n row

  -- sixteen more
  next_move : (moved : List ℕ) (i : ℕ) → i + 16 ≤ length row → at + i + 16 ≤ length moved → Moved i moved → Moved (i + 16) (put_chunk (at + i) moved (chunk i 16 row))
  next_move moved i more room so_far =
      let size : length (chunk i 16 row) ≡ 16 = length-chunk i 16 row more in
      take_more_put_chunk (at + i) moved (chunk i 16 row) (at + (i + 16)) (omega (arith, size)) (omega (arith, room))
      ∙ ap (λ (xs : List ℕ). xs ++ chunk i 16 row) so_far
      ∙ append_assoc (take at to) (take i row) (chunk i 16 row)
      ∙ ap (λ (xs : List ℕ). take at to ++ xs) (sym (take-add i 16 row))

  -- some of them
  fewer : (moved : List ℕ) (m n : ℕ) → n ≤ m → at ≤ length to → Moved m moved → Moved n moved
  fewer moved m n few inside all =
      let start : length (take at to) ≡ at = length-take-le at to inside in
      sym (take-take (at + n) (at + m) moved (omega (arith, few)))
      ∙ ap (λ (xs : List ℕ). take (at + n) xs) all
      ∙ ap (λ i. take (i + n) (take at to ++ take m row)) (sym start)
      ∙ take-append-add (take at to) (take m row) n
      ∙ ap (λ (xs : List ℕ). take at to ++ xs) (take-take n m row few)

  module _ (size : length row ≡ 64) (room : at + 64 ≤ length to) where
    abbrev half : List ℕ
    half = put_chunk (at + 16) (put_chunk at to (chunk 0 16 row)) (chunk 16 16 row)

    half_size : length half ≡ length to
    half_size = length-put_chunk (at + 16) (put_chunk at to (chunk 0 16 row)) (chunk 16 16 row) ∙ length-put_chunk at to (chunk 0 16 row)

    half_moved : Moved 32 half
    half_moved =
        let first : length (chunk 0 16 row) ≡ 16 = length-chunk 0 16 row (omega (arith, size)) in
        next_move (put_chunk at to (chunk 0 16 row)) 16 (omega (arith, size)) (omega (arith, room, length-put_chunk at to (chunk 0 16 row)))
        (take_more_put_chunk at to (chunk 0 16 row) (at + 16) (omega (arith, first)) (omega (arith, room)))

    -- the first half of a row of 64 bytes, of which some count
    pub half_a_row : (n : ℕ) → n ≤ 32 → Moved n half
    half_a_row n few = fewer half 32 n few (omega (arith, room)) half_moved

    -- all of it
    pub whole_row : (n : ℕ) → n ≤ 64 → Moved n (put_chunk (at + 48) (put_chunk (at + 32) half (chunk 32 16 row)) (chunk 48 16 row))
    whole_row n few =
        let third : List ℕ = put_chunk (at + 32) half (chunk 32 16 row) in
        let long : length third ≡ length to = length-put_chunk (at + 32) half (chunk 32 16 row) ∙ half_size in
        fewer (put_chunk (at + 48) third (chunk 48 16 row)) 64 n few (omega (arith, room))
        (next_move third 48 (omega (arith, size)) (omega (arith, room, long)) (next_move half 32 (omega (arith, size)) (omega (arith, room, half_size)) half_moved))
