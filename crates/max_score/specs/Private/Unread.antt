-- The posting lists of a query, before and after they have been read.
use Rattle.std.specs.Prelude.{ℕ, IsPermutation, ◌≡◌, ◌≤◌, Bool, false, All, List, [], map}
use Rattle.jass_base.specs.declared.query_term.QueryTerm.{QueryTerm}
use Rattle.index_model.specs.Index.{IndexData}
use Rattle.max_score.specs.Cursors.{read_over, unread}
use Rattle.max_score.specs.declared.candidates.Candidates.{Candidates}
use Rattle.max_score.specs.declared.term_list.TermList.{TermList}
use Rattle.max_score.specs.Private.Lists.{weight_in}
use Rattle.max_score.specs.Private.Room.{HasRoom}

-- the term of a list, and how often the query names it
abbrev pub named_by : TermList → QueryTerm
named_by list = record { term = list.cursor.term; times = list.times }

-- a list that has been read over an index; none of its weights is above its greatest, which is at most 65,535 * 255
pub record IsRead (index : IndexData) (list : TermList) : Type 0 where
  pub cursor : list.cursor ≡ read_over index list.cursor.term
  pub greatest : (doc : ℕ) → weight_in doc list ≤ list.greatest
  pub small : list.greatest ≤ 16711425

-- before a search has its answer nothing has been read and no candidate taken in
pub record IsKept (docs : ℕ) (terms : List QueryTerm) (all : List TermList) (best : Candidates) (answered : Bool) : Type 0 where
  pub named : answered ≡ false → IsPermutation terms (map named_by all)
  pub unread : answered ≡ false → All (λ (list : TermList). list.cursor ≡ unread list.cursor.term docs) all
  pub none : answered ≡ false → best.hits.items ≡ []
  pub room : answered ≡ false → HasRoom best
