-- The first of some hits.
use Rattle.std.specs.Prelude.{ℕ, ◌≡◌, ◌+◌, IsPermutation, List, [], ◌∷◌, ◌++◌, length}
use Rattle.jass_base.specs.declared.answer.Hit.{Hit}
use Rattle.ranking_model.specs.Scores.{AreAhead}

-- the first k hits in some order, of which the last has this score
pub record HasFirst (hits first : List Hit) (k least : ℕ) : Type 0 where
  pub front : List Hit
  pub last : Hit
  pub others : List Hit
  pub same : IsPermutation hits (front ++ last ∷ others)
  pub are : first ≡ front ++ last ∷ []
  pub size : k ≡ length front + 1
  pub ahead : AreAhead front (last ∷ [])
  pub behind : AreAhead (last ∷ []) others
  pub score : least ≡ last.score
