-- Where a walk over the documents stands.
use Rattle.std.specs.Prelude.{ℕ, ◌≡◌, ◌+◌, ◌-◌, ◌/◌, ◌^◌, ◌≤◌, List}
use Rattle.max_score.specs.declared.candidates.Candidates.{Candidates}
use Rattle.max_score.specs.declared.term_list.TermList.{TermList}
use Rattle.max_score.specs.Private.Lists.{scores_in}
use Rattle.max_score.specs.Private.Room.{HasRoom}
use Rattle.max_score.specs.Private.Standing.{Stands}

-- all documents below one have been met
abbrev pub HasMet : ℕ → List TermList → ℕ → Candidates → Type 0
HasMet docs lists doc best = Stands (scores_in docs lists) best.k doc best.threshold best.hits.items

-- a walk that has come to a document
pub record IsWalking (docs asked : ℕ) (lists : List TermList) (doc : ℕ) (best : Candidates) : Type 0 where
  pub met : HasMet docs lists doc best
  pub room : HasRoom best
  pub k : best.k ≡ asked
  pub inside : doc ≤ docs

-- a walk in a window of 64 documents, of whose marks those from the document on are left
pub record IsMarking (docs asked : ℕ) (lists : List TermList) (from marks doc ahead : ℕ) (best : Candidates) : Type 0 where
  pub walking : IsWalking docs asked lists doc best
  pub reached : from ≤ doc
  pub within : doc ≤ from + 64
  pub left : ahead ≡ marks / 2 ^ (doc - from)
