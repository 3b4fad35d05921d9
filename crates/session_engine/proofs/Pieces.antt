-- A segment that is scored piece by piece.
use Rattle.std.proofs.Common.{◌≡◌, ℕ, ◌+◌, ◌<◌, ◌≤◌, List, [], ◌∷◌, ◌++◌, length, refl, sym, ap, ◌∙◌, arith, length-append}
use Rattle.session_engine.proofs.Below.{PoolView, LeavesPool, Piece, HandsOut, piece_count, piece_docs, segment_at, IndexData, IsWellFormed, segments_at, AreDocs, added, Scores, AreScoresOf, ScoresStand, own_chain, own_view, scores_of}
use Rattle.session_engine.proofs.PartlyScored.{AreScoredBut, all_scored, more_scored, none_scored}

-- some documents of a segment have their weight, and the rest is left to hand out
pub record IsPart (left : List ℕ → Type 0) (weight : ℕ) (docs : List ℕ) (first : Scores) (old : PoolView) (now : Scores) (new : PoolView) (before steps : ℕ) : Type 0 where
  pub rest : List ℕ
  pub stays : left rest
  pub scored : AreScoredBut weight docs rest first old now new
  pub counted : steps + length rest ≡ before + length docs

empty : (docs : List ℕ) → length docs ≡ 0 → docs ≡ []
empty [] none = refl
empty (doc ∷ docs) none = absurd (omega arith)

-- none of them has its weight
pub begun : (left : List ℕ → Type 0) (weight : ℕ) (docs : List ℕ) (first : Scores) (old : PoolView) (steps : ℕ) → left docs → ScoresStand first old → LeavesPool old old (own_chain first)
    → IsPart left weight docs first old first old steps steps
begun left weight docs first old steps stays stand leaves = record {
  rest = docs;
  stays = stays;
  scored = none_scored weight docs docs first old refl stand leaves;
  counted = omega arith;
}

module _ {left : List ℕ → Type 0} {weight : ℕ} {docs : List ℕ} {first : Scores} {old : PoolView} {now : Scores} {new : PoolView} {before steps : ℕ}
    (part : IsPart left weight docs first old now new before steps) where
  -- as many are left as have no step yet
  pub as_many : (count still : ℕ) → count ≡ length docs → steps + still ≡ before + count → length part.rest ≡ still
  as_many count still counts sums = let was = part.counted in omega (arith, was, counts, sums)

  -- all have their weight once none is left
  pub finished : length part.rest ≡ 0 → part.scored.done ≡ docs
  finished none = all_scored part.scored (empty part.rest none)

  module _ {later : List ℕ → Type 0} (piece : Piece) (block : List ℕ) (handed : HandsOut later piece block part.rest) where
    -- the piece and what is left behind it
    parted : length part.rest ≡ piece_count piece + length handed.rest
    parted =
        let split = ap (λ (l : List ℕ). length l) (sym handed.parted) ∙ length-append (piece_docs piece block) handed.rest in
        omega (arith, split, handed.count)

    -- it has no more than are left, and one where any is
    pub at_most : (still : ℕ) → length part.rest ≡ still → piece_count piece ≤ still
    at_most still many = omega (arith, parted, many)

    pub at_least : (still : ℕ) → length part.rest ≡ still → 0 < still → 1 ≤ piece_count piece
    at_least still many some = handed.some (λ none. let nil = ap (λ (l : List ℕ). length l) none in omega (arith, nil, many, some))

    pub more : (next : Scores) (pool : PoolView) (after : ℕ)
        → ScoresStand next pool → scores_of next pool ≡ added weight (piece_docs piece block) (scores_of now new)
        → length (own_view next pool).frames ≤ length (own_view now new).frames + length (piece_docs piece block)
        → AreScoresOf now next → LeavesPool new pool (own_chain now) → after ≡ steps + length (piece_docs piece block)
        → ((weight : ℕ) (docs more scores : List ℕ) → added weight (docs ++ more) scores ≡ added weight more (added weight docs scores))
        → ((a b c : PoolView) (chain : ℕ) → LeavesPool a b chain → LeavesPool b c chain → LeavesPool a c chain)
        → IsPart later weight docs first old next pool before after
    more next pool after stand sums frames same leaves counted parts both = record {
      rest = handed.rest;
      stays = handed.stays;
      scored = more_scored part.scored (piece_docs piece block) handed.rest (sym handed.parted) next pool stand sums frames same leaves parts both;
      counted = let was = part.counted in omega (arith, was, parted, handed.count, counted);
    }

-- the documents of a segment are the index's
pub segment_inside : (index : IndexData) (t s : ℕ) → IsWellFormed index → t < length index.terms → s < length (segments_at index.terms t) → AreDocs (length index.names) (segment_at index.terms t s).docs
segment_inside index t s is inside there = ((is.terms t (record { term = []; segments = [] }) inside).segments s (record { impact = 0; docs = [] }) there).docs
