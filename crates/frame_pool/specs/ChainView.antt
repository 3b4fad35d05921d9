-- What the owner of a chain sees of a pool.
use Rattle.std.specs.Prelude.{◌≡◌, ◌≢◌, ◌↔◌, ℕ, ◌/◌, ◌%◌, ◌==◌, if◌then◌else◌, List, ◌∷◌, length, map, slice_index, Option, Some, None, option_map, find, is_some}
use Rattle.std.specs.List.{range_with_len}
use Rattle.frame_pool.specs.Pool.{FrameContent, PoolView, content_of, chain_of, spare_of, IsInUse}

-- a frame of a chain: its number, and what it holds
pub record HeldFrame : Type 0 where
  pub number : ℕ
  pub content : FrameContent

-- the promise of a chain, and its frames, newest first
pub record ChainView : Type 0 where
  pub promise : ℕ
  pub frames : List HeldFrame

abbrev pub held_frame : PoolView → ℕ → HeldFrame
held_frame pool frame = record { number = frame; content = content_of pool frame }

-- the view of the chain of this number
abbrev pub chain_view : PoolView → ℕ → ChainView
chain_view pool chain = record { promise = (chain_of pool chain).promise; frames = map (held_frame pool) (chain_of pool chain).frames }

-- the view with one frame more in front
abbrev pub with_first_held : ChainView → ℕ → FrameContent → ChainView
with_first_held view number content = record view { frames = record { number = number; content = content } ∷ view.frames }

-- ---- frames by their pages

-- the frame of a chain with this page, if it has one
abbrev pub frame_with_page : ChainView → ℕ → Option HeldFrame
frame_with_page view page = find (λ f. f.content.page == page) view.frames

-- its number
abbrev pub number_with_page : ChainView → ℕ → Option ℕ
number_with_page view page = option_map (λ f. f.number) (frame_with_page view page)

-- the chain has this frame for this page
abbrev pub HasPage : ChainView → ℕ → ℕ → Type 0
HasPage view page frame = number_with_page view page ≡ Some frame

-- the chain has no frame with this page
abbrev pub LacksPage : ChainView → ℕ → Type 0
LacksPage view page = number_with_page view page ≡ None

-- the frame is in a chain
abbrev pub IsTaken : PoolView → ℕ → Type 0
IsTaken pool frame = (chain page : ℕ) × HasPage (chain_view pool chain) page frame

-- ---- scores and heap places of documents: page d / 256 holds document d, in slot d mod 256

-- the value in a slot of a frame, and 0 where there is no frame
abbrev pub slot_value : (FrameContent → List ℕ) → Option HeldFrame → ℕ → ℕ
slot_value values None slot = 0
slot_value values (Some frame) slot = slice_index (values frame.content) slot

-- the value of each of so many documents
abbrev pub view_values : (FrameContent → List ℕ) → ℕ → ChainView → List ℕ
view_values values docs view = map (λ d. slot_value values (frame_with_page view (d / 256)) (d % 256)) (range_with_len 0 docs)

-- the score of each of so many documents; 0 where the chain has no frame with the document's page
abbrev pub view_scores : ℕ → ChainView → List ℕ
view_scores docs view = view_values (λ c. c.scores) docs view

-- the heap place of each of so many documents; 0 where the chain has no frame with the document's page
abbrev pub view_places : ℕ → ChainView → List ℕ
view_places docs view = view_values (λ c. c.places) docs view

-- the scores with those of one page in place of what they were
abbrev pub with_page : ℕ → List ℕ → List ℕ → List ℕ
with_page page slots scores =
    map (λ d. if d / 256 == page then slice_index slots (d % 256) else slice_index scores d) (range_with_len 0 (length scores))

-- ---- what calls leave

-- a chain has the same promise, as many frames, and the same frame for each page
pub record KeepsFrames (old new : ChainView) : Type 0 where
  pub promise : new.promise ≡ old.promise
  pub count : length new.frames ≡ length old.frames
  pub pages : (page : ℕ) → number_with_page new page ≡ number_with_page old page

-- the chain is in use or not as before, and its owner sees what it saw
pub record KeepsChain (old new : PoolView) (chain : ℕ) : Type 0 where
  pub in_use : IsInUse new chain ↔ IsInUse old chain
  pub view : chain_view new chain ≡ chain_view old chain

-- each other chain stays
abbrev pub LeavesOthers : PoolView → PoolView → ℕ → Type 0
LeavesOthers old new chain = (other : ℕ) → other ≢ chain → KeepsChain old new other

-- a call on one chain leaves each other chain, how many frames there are, which chain numbers are in use, how many frames
-- are spare, and the chain's promise
pub record LeavesPool (old new : PoolView) (chain : ℕ) : Type 0 where
  pub others : LeavesOthers old new chain
  pub frames : length new.frames ≡ length old.frames
  pub in_use : map is_some new.chains ≡ map is_some old.chains
  pub spare : spare_of new ≡ spare_of old
  pub promise : (chain_view new chain).promise ≡ (chain_view old chain).promise
