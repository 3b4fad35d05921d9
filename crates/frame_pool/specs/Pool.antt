-- What contracts see of a pool of frames.
use Rattle.std.specs.Prelude.{◌≡◌, ℕ, ◌-◌, ◌<◌, ◌==◌, if◌then◌else◌, Bool, List, [], ◌∷◌, ◌++◌, length, replicate, take, slice_get, slice_set, slice_index_or, sum_by, Contains, Option, Some, None, unwrap_or, IsSome, is_some, nat_lt}
use Rattle.std.specs.List.{list_all}
use Rattle.frame_pool.specs.declared.refusal.PoolRefusal.{PoolRefusal}
use Rattle.frame_pool.specs.declared.refusal.PoolRefusal.TheVariants.{Chains, Short}

-- what a frame holds: the number of its page, and a score and a heap place for each of the page's 256 documents
pub record FrameContent : Type 0 where
  pub page : ℕ
  pub scores : List ℕ
  pub places : List ℕ

-- a chain in use: how many frames are promised to it, and the numbers of those that it has, newest first
pub record ChainEntry : Type 0 where
  pub promise : ℕ
  pub frames : List ℕ

-- a pool: the content of each frame, and the chain of each chain number that is in use
pub record PoolView : Type 0 where
  pub frames : List FrameContent
  pub chains : List (Option ChainEntry)

-- ---- frames and chains

-- the frame of a page without scores
abbrev pub cleared : ℕ → FrameContent
cleared page = record { page = page; scores = replicate 256 0; places = replicate 256 0 }

-- what the frame of this number holds
abbrev pub content_of : PoolView → ℕ → FrameContent
content_of pool frame = slice_index_or pool.frames frame (cleared 0)

-- the chain number is in use, so its chain is this pool's
abbrev pub IsInUse : PoolView → ℕ → Type 0
IsInUse pool chain = IsSome (slice_index_or pool.chains chain None)

-- the chain of this number; without promise and frames where the number isn't in use
abbrev pub chain_of : PoolView → ℕ → ChainEntry
chain_of pool chain = unwrap_or (slice_index_or pool.chains chain None) (record { promise = 0; frames = [] })

-- the chain has this frame
abbrev pub HasFrame : PoolView → ℕ → ℕ → Type 0
HasFrame pool chain frame = Contains (chain_of pool chain).frames frame

-- the frame is one of the pool's, and no chain has it
pub record IsFree (pool : PoolView) (frame : ℕ) : Type 0 where
  pub exists : frame < length pool.frames
  pub in_no_chain : (chain : ℕ) → HasFrame pool chain frame → ⊥

-- the number that stands behind this one in a list
abbrev pub number_after : List ℕ → ℕ → Option ℕ
number_after [] number = None
number_after (x ∷ xs) number = if x == number then slice_get xs 0 else number_after xs number

-- ---- promises

abbrev pub promise_of : Option ChainEntry → ℕ
promise_of None = 0
promise_of (Some chain) = chain.promise

-- the sum of all promises in use
abbrev pub promised : PoolView → ℕ
promised pool = sum_by promise_of pool.chains

-- how many frames aren't promised
abbrev pub spare_of : PoolView → ℕ
spare_of pool = length pool.frames - promised pool

abbrev pub all_in_use : PoolView → Bool
all_in_use pool = list_all is_some pool.chains

-- why a promise of n frames is refused, if it is
abbrev pub promise_refusal : PoolView → ℕ → Option PoolRefusal
promise_refusal pool n =
    if all_in_use pool then Some (Chains (length pool.chains)) else if nat_lt (spare_of pool) n then Some (Short n (spare_of pool)) else None

-- ---- what calls make

-- a pool of so many frames and chain numbers, none of them in use
pub record IsUnused (pool : PoolView) (frame_count chain_count : ℕ) : Type 0 where
  pub frames : length pool.frames ≡ frame_count
  pub chains : pool.chains ≡ replicate chain_count None

-- a chain number that wasn't in use has a promise and no frames; nothing else has changed
pub record Promises (old new : PoolView) (chain n : ℕ) : Type 0 where
  pub was_unused : slice_index_or old.chains chain None ≡ None
  pub exists : chain < length old.chains
  pub chains : new.chains ≡ slice_set old.chains chain (Some (record { promise = n; frames = [] }))
  pub frames : new.frames ≡ old.frames

-- the chain with one frame more, now its first
abbrev pub with_first : ChainEntry → ℕ → ChainEntry
with_first chain frame = record chain { frames = frame ∷ chain.frames }

-- the frame with one score changed
abbrev pub with_score : FrameContent → ℕ → ℕ → FrameContent
with_score content slot score = record content { scores = slice_set content.scores slot score }

-- the 256 slots of a page that a list makes: it is cut, or filled up with 0. Each row that a pool lends has 256 slots, and a list of
-- 256 stays as it is: a contract knows what is left in a row only as a list.
unfoldable pub slots_of : List ℕ → List ℕ
slots_of list = take 256 (list ++ replicate 256 0)

-- the frame with other scores
abbrev pub with_scores : FrameContent → List ℕ → FrameContent
with_scores content slots = record content { scores = slots_of slots }

-- the pool with other scores in one of its frames
abbrev pub with_frame_scores : PoolView → ℕ → List ℕ → PoolView
with_frame_scores pool frame slots = record pool { frames = slice_set pool.frames frame (with_scores (content_of pool frame) slots) }

-- the frame with one heap place changed
abbrev pub with_place : FrameContent → ℕ → ℕ → FrameContent
with_place content slot place = record content { places = slice_set content.places slot place }
