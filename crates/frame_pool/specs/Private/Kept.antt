-- What a pool's fields keep.
use Rattle.std.specs.Prelude.{◌≡◌, ◌≢◌, ℕ, ◌+◌, ◌-◌, ◌<◌, ◌≤◌, zero, suc, List, [], ◌∷◌, length, map, slice_index_or, sum_by, Option, Some, None}
use Rattle.std.specs.List.{AllByRecursion}
use Rattle.frame_pool.specs.Frames.{Frame}
use Rattle.frame_pool.specs.declared.lease.Lease.{Lease}
use Rattle.frame_pool.specs.Links.{blank, link_of, walk}
use Rattle.frame_pool.specs.Private.Links.{no_frame, page_of}
use Rattle.jass_base.specs.declared.limits.TheConstants.{MOST_FRAMES}

-- the walk ends at this frame, which has no frame behind it; where there is no frame, none is first
abbrev pub Ends : (ℕ → ℕ) → ℕ → ℕ → ℕ → Type 0
Ends next zero first last = first ≡ no_frame
Ends next (suc zero) first last = (first ≡ last) × (next first ≡ no_frame)
Ends next (suc (suc k)) first last = Ends next (suc k) (next first) last

-- no number stands twice
abbrev pub Distinct : List ℕ → Type 0
Distinct [] = Unit {0}
Distinct (x ∷ xs) = AllByRecursion (λ y. y ≢ x) xs × Distinct xs

-- these are frames of one owner, each once
pub record Belong (n : ℕ) (owner : ℕ → ℕ) (o : ℕ) (frames : List ℕ) : Type 0 where
  pub owned : AllByRecursion (λ f. (f < n) × (owner f ≡ o)) frames
  pub once : Distinct frames

-- what a lease keeps
pub record LeaseKept (n : ℕ) (next page owner : ℕ → ℕ) (chain : ℕ) (lease : Lease) : Type 0 where
  pub belong : Belong n owner (chain + 1) (walk next lease.taken lease.first)
  pub ends : Ends next lease.taken lease.first lease.last
  pub within : lease.taken ≤ lease.promise
  pub pages : Distinct (map page (walk next lease.taken lease.first))

-- the same of a chain number that may be in no use
abbrev pub EachKept : ℕ → (ℕ → ℕ) → (ℕ → ℕ) → (ℕ → ℕ) → ℕ → Option Lease → Type 0
EachKept n next page owner chain None = Unit {0}
EachKept n next page owner chain (Some lease) = LeaseKept n next page owner chain lease

abbrev pub taken_by : Option Lease → ℕ
taken_by None = 0
taken_by (Some lease) = lease.taken

abbrev pub promised_to : Option Lease → ℕ
promised_to None = 0
promised_to (Some lease) = lease.promise

-- what a pool of n frames keeps: each frame has an owner, which is 0 for a free frame and c + 1 for one of chain c
pub record Kept (n : ℕ) (next page : ℕ → ℕ) (free : ℕ) (leases : List (Option Lease)) (promised : ℕ) : Type 0 where
  pub owner : ℕ → ℕ
  pub free_frames : Belong n owner 0 (walk next (n - sum_by taken_by leases) free)
  pub each : (c : ℕ) → EachKept n next page owner c (slice_index_or leases c None)
  pub promised_is : promised ≡ sum_by promised_to leases
  pub fits : promised ≤ n
  pub small : n ≤ MOST_FRAMES
  pub few : length leases ≤ 1024

-- a frame has 256 slots
pub record IsSized (frame : Frame) : Type 0 where
  pub scores : length frame.scores ≡ 256
  pub places : length frame.places ≡ 256

-- what a pool with these frames, leases, first free frame and sum of promises keeps
pub record PoolKept (frames : List Frame) (leases : List (Option Lease)) (free promised : ℕ) : Type 0 where
  pub lists : Kept (length frames) (link_of frames) (page_of frames) free leases promised
  pub sized : (f : ℕ) → IsSized (slice_index_or frames f blank)
