-- The scores and heap places of a session, in the frames of its chain.
use Rattle.std.specs.Prelude.{◌≡◌, ◌≢◌, ℕ, ◌+◌, ◌/◌, ◌<◌, ◌≤◌, ◌==◌, min, if◌then◌else◌, List, length, slice_index, count_by, Option, Some, None}
use Rattle.frame_pool.specs.Pool.{PoolView, IsInUse}
use Rattle.frame_pool.specs.ChainView.{ChainView, LacksPage, chain_view, number_with_page, view_scores, view_places}
use Rattle.accumulator_pages.specs.Adding.{page_count}
use Rattle.accumulator_pages.specs.declared.pages.Pages.{Pages}

-- ---- what is seen of the pages

-- the chain that the pages stand in
abbrev pub own_chain : Pages → ℕ
own_chain pages = pages.chain

-- how many documents they have scores for
abbrev pub docs_of : Pages → ℕ
docs_of pages = pages.docs

-- what the pages see of their pool
abbrev pub own_view : Pages → PoolView → ChainView
own_view pages pool = chain_view pool (own_chain pages)

-- the score of each document
abbrev pub pages_scores : Pages → PoolView → List ℕ
pages_scores pages pool = view_scores (docs_of pages) (own_view pages pool)

-- the heap place of each document
abbrev pub pages_places : Pages → PoolView → List ℕ
pages_places pages pool = view_places (docs_of pages) (own_view pages pool)

-- for how many entries the table has room
abbrev pub table_room : Pages → ℕ
table_room pages = pages.room

-- the pages of one chain, for as many documents, with as much room
pub record ArePagesOf (old new : Pages) : Type 0 where
  pub chain : own_chain new ≡ own_chain old
  pub docs : docs_of new ≡ docs_of old
  pub room : table_room new ≡ table_room old

-- ---- room for frames

-- the page has a frame, or the chain's promise isn't used up
abbrev pub HasRoom : ChainView → ℕ → Type 0
HasRoom view page = LacksPage view page → length view.frames < view.promise

-- the promise holds the frames of so many more documents, out of so many in all
abbrev pub HasRoomFor : ChainView → ℕ → ℕ → Type 0
HasRoomFor view docs more = min (page_count docs) (length view.frames + more) ≤ view.promise

-- ---- standing

-- the entry of a page that has no frame
abbrev pub no_frame : ℕ
no_frame = 4294967295

-- what an entry of the table says
abbrev pub frame_of_entry : ℕ → Option ℕ
frame_of_entry entry = if entry == no_frame then None else Some entry

-- a table with an entry for each page of so many documents tells the frames of a chain, and all of them
pub record TableStands (table : List ℕ) (docs : ℕ) (view : ChainView) : Type 0 where
  pub covers : length table ≡ page_count docs
  pub entries : (page : ℕ) → page < length table → number_with_page view page ≡ frame_of_entry (slice_index table page)
  pub frames : length view.frames + count_by (λ entry. entry == no_frame) table ≡ length table

-- what is seen of pages tells what their chain holds
pub record TellsChain (pages : Pages) (view : ChainView) : Type 0 where
  pub table : TableStands pages.table pages.docs view
  pub frames : pages.frames ≡ length view.frames

-- a page has a touched document
abbrev pub HasTouched : List ℕ → ℕ → Type 0
HasTouched scores page = (doc : ℕ) × (doc / 256 ≡ page) × (0 < slice_index scores doc)

-- each page with a frame has a touched document
abbrev pub AreUsed : List ℕ → List ℕ → Type 0
AreUsed table scores = (page : ℕ) → page < length table → slice_index table page ≢ no_frame → HasTouched scores page

-- the pages tell what their chain holds, and each page with a frame has a touched document
pub record PagesStand (pages : Pages) (view : ChainView) : Type 0 where
  pub fields : TellsChain pages view
  pub used : AreUsed pages.table (view_scores pages.docs view)

-- the pages stand in the pool: nothing is read of it but their own chain
pub record Stands (pages : Pages) (pool : PoolView) : Type 0 where
  pub in_use : IsInUse pool (own_chain pages)
  pub here : PagesStand pages (own_view pages pool)
