-- What each pool keeps.
use Rattle.std.specs.Prelude.{◌≡◌, ◌≢◌, ℕ, ◌<◌, ◌≤◌, length, AllPairs}
use Rattle.frame_pool.specs.Pool.{PoolView, content_of, chain_of, HasFrame, promised}
use Rattle.frame_pool.specs.ChainView.{chain_view, HasPage}

-- a frame is free or in exactly one chain, once; a chain has no more frames than were promised to it, and all promises can be
-- met; the pages of a chain differ, so each of its frames is found by its page; a frame has 256 slots
pub record IsSound (pool : PoolView) : Type 0 where
  pub exists : (chain frame : ℕ) → HasFrame pool chain frame → frame < length pool.frames
  pub one_chain : (chain other frame : ℕ) → HasFrame pool chain frame → HasFrame pool other frame → chain ≡ other
  pub once : (chain : ℕ) → AllPairs (λ a b. a ≢ b) (chain_of pool chain).frames
  pub within_promise : (chain : ℕ) → length (chain_of pool chain).frames ≤ (chain_of pool chain).promise
  pub promises_fit : promised pool ≤ length pool.frames
  pub pages_differ : (chain : ℕ) → AllPairs (λ a b. (content_of pool a).page ≢ (content_of pool b).page) (chain_of pool chain).frames
  pub found : (chain frame : ℕ) → HasFrame pool chain frame → HasPage (chain_view pool chain) (content_of pool frame).page frame
  pub score_slots : (frame : ℕ) → length (content_of pool frame).scores ≡ 256
  pub place_slots : (frame : ℕ) → length (content_of pool frame).places ≡ 256
