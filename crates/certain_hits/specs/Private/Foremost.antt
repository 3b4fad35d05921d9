-- What is kept of hits that come one after the other, so that the first of them are known.
use Rattle.std.specs.Prelude.{ℕ, ◌≡◌, ◌+◌, ◌≤◌, ◌⊎◌, List, [], ◌∷◌, ◌++◌, length, take, IsPermutation}
use Rattle.std.specs.List.{AllByRecursion}
use Rattle.jass_base.specs.declared.answer.Hit.{Hit}
use Rattle.ranking_model.specs.Order.{sorted}
use Rattle.ranking_model.specs.Scores.{rank_cmp, AreAhead}

-- the first m of some hits, in order
abbrev pub foremost : ℕ → List Hit → List Hit
foremost m hits = take m (sorted rank_cmp hits)

-- there are m of them, and none has less than the floor
pub record AreFull (m floor : ℕ) (first : List Hit) : Type 0 where
  pub many : length first ≡ m
  pub high : AllByRecursion (λ hit. floor ≤ hit.score) first

-- the first m of those kept are those of all that came; whoever comes with no more than the floor isn't one of them
pub record Holds (m floor : ℕ) (kept all : List Hit) : Type 0 where
  pub first : foremost m kept ≡ foremost m all
  pub full : (floor ≡ 0) ⊎ AreFull m floor (foremost m all)

-- the first m of some hits in some order, the last of them behind the others
pub record HasFirst (hits first : List Hit) (m : ℕ) (last : Hit) : Type 0 where
  pub front : List Hit
  pub others : List Hit
  pub same : IsPermutation hits (front ++ last ∷ others)
  pub are : first ≡ front ++ last ∷ []
  pub size : m ≡ length front + 1
  pub ahead : AreAhead front (last ∷ [])
  pub behind : AreAhead (last ∷ []) others
