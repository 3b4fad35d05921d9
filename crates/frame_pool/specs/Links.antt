-- How a pool's table of frames and its leases stand for what contracts see of it.
use Rattle.std.specs.Prelude.{ℕ, zero, suc, List, [], ◌∷◌, map, slice_index_or, Option, Some, None}
pub use Rattle.frame_pool.specs.Frames.{Frame, blank, free_frame}
use Rattle.frame_pool.specs.declared.lease.Lease.{Lease}
use Rattle.frame_pool.specs.Pool.{FrameContent, ChainEntry, PoolView}

-- the frame that is linked behind a frame
abbrev pub link_of : List Frame → ℕ → ℕ
link_of frames f = (slice_index_or frames f blank).next

-- so many frames along the links
abbrev pub walk : (ℕ → ℕ) → ℕ → ℕ → List ℕ
walk next zero f = []
walk next (suc k) f = f ∷ walk next k (next f)

-- what a frame holds, without its link
abbrev pub frame_content : Frame → FrameContent
frame_content f = record { page = f.page; scores = f.scores; places = f.places }

-- the chain of a lease: its first frame, and as many along the links as it has
abbrev pub chain_entry : (ℕ → ℕ) → Option Lease → Option ChainEntry
chain_entry next None = None
chain_entry next (Some l) = Some (record { promise = l.promise; frames = walk next l.taken l.first })

-- what a pool with these frames and leases shows
abbrev pub view_of : List Frame → List (Option Lease) → PoolView
view_of frames leases = record { frames = map frame_content frames; chains = map (chain_entry (link_of frames)) leases }
