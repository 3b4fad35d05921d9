-- Impacts that are written piece by piece.
use Rattle.shared_lemmas.proofs.Common.{◌≡◌, ℕ, ◌+◌, ◌<◌, ◌≤◌, List, [], ◌∷◌, ◌++◌, length, refl, sym, ap, subst, ◌∙◌, arith, All, append_assoc, append-nil, All-from_recursion, recursion_from_All}
use Rattle.shared_lemmas.proofs.Lists.{all_front, all_back}
use Rattle.std.proofs.Common.{length-append}
use Rattle.jass_base.specs.Gaps.{AreDocs}
use Rattle.index_file.specs.Places.{segment_at}
use Rattle.index_file.specs.Sources.{HandsOut, piece_count, piece_docs}
use Rattle.index_file.specs.declared.piece.Piece.{Piece}
use Rattle.index_model.specs.Index.{IndexData, IsWellFormed}
use Rattle.index_model.specs.Querying.{segments_at}
use Rattle.max_score.specs.Private.Stamping.{stamped}
use Rattle.max_score.proofs.Stamps.{length_stamped}

pub stamped_on : (impact : ℕ) (docs more impacts : List ℕ) → stamped impact (docs ++ more) impacts ≡ stamped impact more (stamped impact docs impacts)
stamped_on impact [] more impacts = refl
stamped_on impact (d ∷ docs) more impacts = stamped_on impact docs more _

-- the impact is written at all of some documents but those that are left
pub record IsStampedBut (impact : ℕ) (docs left first now : List ℕ) : Type 0 where
  pub done : List ℕ
  pub parted : done ++ left ≡ docs
  pub sums : now ≡ stamped impact done first

pub none_stamped : (impact : ℕ) (docs left first : List ℕ) → left ≡ docs → IsStampedBut impact docs left first first
none_stamped impact docs left first is = record { done = []; parted = is; sums = refl }

module _ {impact : ℕ} {docs left first now : List ℕ} (part : IsStampedBut impact docs left first now) where
  pub all_stamped : left ≡ [] → now ≡ stamped impact docs first
  all_stamped none = part.sums ∙ ap (λ l. stamped impact l first) (sym (append-nil part.done) ∙ ap (λ l. part.done ++ l) (sym none) ∙ part.parted)

  pub same_length : length now ≡ length first
  same_length = ap (λ (l : List ℕ). length l) part.sums ∙ length_stamped impact part.done first

  module _ (block rest : List ℕ) (cut : left ≡ block ++ rest) where
    pub more_stamped : (next : List ℕ) → next ≡ stamped impact block now → IsStampedBut impact docs rest first next
    more_stamped next is = record {
      done = part.done ++ block;
      parted = append_assoc part.done block rest ∙ ap (λ l. part.done ++ l) (sym cut) ∙ part.parted;
      sums = is ∙ ap (stamped impact block) part.sums ∙ sym (stamped_on impact part.done block first);
    }

    pub block_inside : All (λ doc. doc < length first) docs → All (λ doc. doc < length now) block
    block_inside inside = subst (λ n. All (λ doc. doc < n) block) (sym same_length)
        (front block rest (subst (All (λ doc. doc < length first)) cut (back part.done left (subst (All (λ doc. doc < length first)) (sym part.parted) inside))))
      where
        front : (xs ys : List ℕ) → All (λ doc. doc < length first) (xs ++ ys) → All (λ doc. doc < length first) xs
        front xs ys all = All-from_recursion (λ doc. doc < length first) xs (all_front (λ doc. doc < length first) xs ys (recursion_from_All (λ doc. doc < length first) (xs ++ ys) all))

        back : (xs ys : List ℕ) → All (λ doc. doc < length first) (xs ++ ys) → All (λ doc. doc < length first) ys
        back xs ys all = All-from_recursion (λ doc. doc < length first) ys (all_back (λ doc. doc < length first) xs ys (recursion_from_All (λ doc. doc < length first) (xs ++ ys) all))

-- some documents of a segment have their impact, and the rest is left to hand out
pub record IsPart (left : List ℕ → Type 0) (impact : ℕ) (docs first now : List ℕ) (before steps : ℕ) : Type 0 where
  pub rest : List ℕ
  pub stays : left rest
  pub stamped : IsStampedBut impact docs rest first now
  pub counted : steps + length rest ≡ before + length docs

empty : (docs : List ℕ) → length docs ≡ 0 → docs ≡ []
empty [] none = refl
empty (doc ∷ docs) none = absurd (omega arith)

pub begun : (left : List ℕ → Type 0) (impact : ℕ) (docs first : List ℕ) (steps : ℕ) → left docs → IsPart left impact docs first first steps steps
begun left impact docs first steps stays = record { rest = docs; stays = stays; stamped = none_stamped impact docs docs first refl; counted = omega arith }

module _ {left : List ℕ → Type 0} {impact : ℕ} {docs first now : List ℕ} {before steps : ℕ} (part : IsPart left impact docs first now before steps) where
  -- as many are left as have no step yet
  pub as_many : (count still : ℕ) → count ≡ length docs → steps + still ≡ before + count → length part.rest ≡ still
  as_many count still counts sums = let was = part.counted in omega (arith, was, counts, sums)

  pub finished : length part.rest ≡ 0 → now ≡ stamped impact docs first
  finished none = all_stamped part.stamped (empty part.rest none)

  module _ {later : List ℕ → Type 0} (piece : Piece) (block : List ℕ) (handed : HandsOut later piece block part.rest) where
    -- the piece and what is left behind it
    parted : length part.rest ≡ piece_count piece + length handed.rest
    parted =
        let split = ap (λ (l : List ℕ). length l) (sym handed.parted) ∙ length-append (piece_docs piece block) handed.rest in
        omega (arith, split, handed.count)

    -- it has no more than are left, and one where any is
    pub at_most : (still : ℕ) → length part.rest ≡ still → piece_count piece ≤ still
    at_most still many = omega (arith, parted, many)

    pub at_least : (still : ℕ) → length part.rest ≡ still → 0 < still → 1 ≤ piece_count piece
    at_least still many some = handed.some (λ none. let nil = ap (λ (l : List ℕ). length l) none in omega (arith, nil, many, some))

    pub more : (next : List ℕ) (after : ℕ) → next ≡ stamped impact (piece_docs piece block) now → after ≡ steps + length (piece_docs piece block) → IsPart later impact docs first next before after
    more next after is counted = record {
      rest = handed.rest;
      stays = handed.stays;
      stamped = more_stamped part.stamped (piece_docs piece block) handed.rest (sym handed.parted) next is;
      counted = let was = part.counted in omega (arith, was, parted, handed.count, counted);
    }

-- the documents of a segment are the index's
pub segment_inside : (index : IndexData) (t s : ℕ) → IsWellFormed index → t < length index.terms → s < length (segments_at index.terms t) → AreDocs (length index.names) (segment_at index.terms t s).docs
segment_inside index t s is inside there = ((is.terms t (record { term = []; segments = [] }) inside).segments s (record { impact = 0; docs = [] }) there).docs
