-- What calls leave of a lease and of the free list.
use Rattle.std.specs.Prelude.{ℕ, ◌+◌, ◌==◌, if◌then◌else◌, List, slice_index_or, slice_set}
use Rattle.frame_pool.specs.Frames.{Frame, blank}
use Rattle.frame_pool.specs.declared.lease.Lease.{Lease}

-- the lease with one frame more in front
abbrev pub grown : Lease → ℕ → Lease
grown lease frame = record { promise = lease.promise; taken = lease.taken + 1; first = frame; last = (if lease.taken == 0 then frame else lease.last) }

-- the frames with the free list linked behind those of a lease
abbrev pub relinked : List Frame → Lease → ℕ → List Frame
relinked frames lease free =
    if lease.taken == 0 then frames else slice_set frames lease.last (record (slice_index_or frames lease.last blank) { next = free })

-- and the first of the list that this makes
abbrev pub relinked_first : Lease → ℕ → ℕ
relinked_first lease free = if lease.taken == 0 then free else lease.first
