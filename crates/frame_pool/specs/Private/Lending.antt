-- What frames are once a row of scores is given back.
use Rattle.std.specs.Prelude.{ℕ, List, slice_set}
use Rattle.std.specs.Borrow.{Array, Fml, Lends, MutBor, u32}
use Rattle.frame_pool.specs.Frames.{Frame}
use Rattle.frame_pool.specs.Private.Tables.{frame_at, rescored}
use Rattle.frame_pool.specs.contracts.store.FrameStore.{the_row as store_row}

-- the frames end with the last values behind the row as the scores of one of them
abbrev pub LendsRow : MutBor (List Frame) → ℕ → MutBor (List ℕ) → Fml
LendsRow store frame row = Lends store_row (Array u32 0) store row (λ slots. slice_set store.now frame (rescored (frame_at store.now frame) slots))
