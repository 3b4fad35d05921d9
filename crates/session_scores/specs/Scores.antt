-- The scores of a session and its first k + 1 documents, in a pool.
use Rattle.std.specs.Prelude.{◌≡◌, ℕ, List, true}
use Rattle.frame_pool.specs.Pool.{PoolView}
use Rattle.frame_pool.specs.ChainView.{ChainView}
use Rattle.accumulator_pages.specs.Pages as accumulator
use Rattle.topk_heap.specs.Noting.{AreNoted}
use Rattle.topk_heap.specs.Standing.{HoldsFirst, without_heap}
use Rattle.session_scores.specs.View.{ScoresRoom}
use Rattle.session_scores.specs.declared.scores.Scores.{Scores}

-- ---- what is seen of the scores

-- the chain that they stand in
abbrev pub own_chain : Scores → ℕ
own_chain s = accumulator.own_chain s.pages

-- how many documents they are of
abbrev pub docs_of : Scores → ℕ
docs_of s = accumulator.docs_of s.pages

-- how many documents are asked for
abbrev pub k_of : Scores → ℕ
k_of s = s.top.k

-- what they see of their pool
abbrev pub own_view : Scores → PoolView → ChainView
own_view s pool = accumulator.own_view s.pages pool

-- the score of each document
abbrev pub scores_of : Scores → PoolView → List ℕ
scores_of s pool = accumulator.pages_scores s.pages pool

-- what there is room for
abbrev pub room_of : Scores → ScoresRoom
room_of s = record { table = accumulator.table_room s.pages; notes = s.reached.room; raised = s.top.room }

-- the scores of one chain, of as many documents, with as many asked for, in the same room
pub record AreScoresOf (old new : Scores) : Type 0 where
  pub chain : own_chain new ≡ own_chain old
  pub docs : docs_of new ≡ docs_of old
  pub k : k_of new ≡ k_of old
  pub room : room_of new ≡ room_of old

-- ---- standing

-- the heap has the first k + 1 documents by the scores that they have now
abbrev pub IsSettled : Scores → PoolView → Type 0
IsSettled s pool = HoldsFirst s.top (scores_of s pool)

-- whoever passes the hit `last` is noted, whatever the heap has, and k + 1 documents do; no document has a heap place
pub record ScoresStand (s : Scores) (pool : PoolView) : Type 0 where
  pub pages : accumulator.Stands s.pages pool
  pub noted : AreNoted (without_heap s.top) s.last (scores_of s pool) (accumulator.pages_places s.pages pool)
      s.reached.docs
  pub settled : s.settled ≡ true → IsSettled s pool
