-- Documents that are read block by block.
use Rattle.shared_lemmas.proofs.Common.{◌≡◌, ◌≤◌, ◌+◌, ℕ, List, ◌++◌, length, take, drop, ap, sym, ◌∙◌, append_assoc, arith, take-append_seam, take-append-add, take-append-drop, length-take-le}
use Rattle.std.proofs.Common.{length-append, length-drop}

-- the documents are those in front, and those that are still given
pub record ReadSoFar (gives : List ℕ → Type 0) (filled : ℕ) (docs out : List ℕ) : Type 0 where
  pub rest : List ℕ
  pub given : gives rest
  pub is : docs ≡ take filled out ++ rest
  pub inside : filled ≤ length out

pub block_read : (gives later : List ℕ → Type 0) (filled n : ℕ) (docs out block part tail : List ℕ) → ReadSoFar gives filled docs out → part ≡ take n block → n ≤ length block
    → ((rest : List ℕ) → gives rest → take n block ≡ take n rest) → ((rest : List ℕ) → gives rest → later (drop n rest)) → ReadSoFar later (filled + n) docs (take filled out ++ (part ++ tail))
block_read gives later filled n docs out block part tail so_far is few here next =
    let rest = so_far.rest in
    let front : length (take filled out) ≡ filled = length-take-le filled out so_far.inside in
    let own : length part ≡ n = ap length is ∙ length-take-le n block few in
    let new : take (filled + n) (take filled out ++ (part ++ tail)) ≡ take filled out ++ part
    = ap (λ k. take (k + n) (take filled out ++ (part ++ tail))) (sym front)
    ∙ take-append-add (take filled out) (part ++ tail) n
    ∙ ap (λ k. take filled out ++ take k (part ++ tail)) (sym own)
    ∙ ap (λ (xs : List ℕ). take filled out ++ xs) (take-append_seam part tail) in
    let first : part ≡ take n rest = is ∙ here rest so_far.given in
    record {
      rest = drop n rest;
      given = next rest so_far.given;
      is = so_far.is
          ∙ ap (λ (xs : List ℕ). take filled out ++ xs) (sym (take-append-drop n rest))
          ∙ sym (append_assoc (take filled out) (take n rest) (drop n rest))
          ∙ ap (λ (xs : List ℕ). (take filled out ++ xs) ++ drop n rest) (sym first)
          ∙ ap (λ (xs : List ℕ). xs ++ drop n rest) (sym new);
      inside = omega (arith, front, own, length-append (take filled out) (part ++ tail), length-append part tail);
    }

pub block_room : (gives : List ℕ → Type 0) (filled n : ℕ) (docs out block : List ℕ) → ReadSoFar gives filled docs out → n ≤ length block → ((rest : List ℕ) → gives rest → take n block ≡ take n rest) → length docs ≤ length out → filled + n ≤ length out
block_room gives filled n docs out block so_far few here room =
    let rest = so_far.rest in
    let front : length (take filled out) ≡ filled = length-take-le filled out so_far.inside in
    let own : length (take n rest) ≡ n = ap length (sym (here rest so_far.given)) ∙ length-take-le n block few in
    let many = ap length so_far.is ∙ length-append (take filled out) rest in
    omega (arith, front, own, many, room, ap length (sym (take-append-drop n rest)) ∙ length-append (take n rest) (drop n rest))

pub length_put : (filled k n : ℕ) (out block part : List ℕ) → k ≡ n → filled + n ≤ length out → part ≡ take n block → n ≤ length block → length (take filled out ++ (part ++ drop k (drop filled out))) ≡ length out
length_put filled k n out block part same room is few =
    let own : length part ≡ n = ap length is ∙ length-take-le n block few in
    let front : length (take filled out) ≡ filled = length-take-le filled out (omega (arith, room)) in
    omega (arith, own, front, same, room, length-append (take filled out) (part ++ drop k (drop filled out)), length-append part (drop k (drop filled out)), length-drop k (drop filled out), length-drop filled out)
