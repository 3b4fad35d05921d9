-- What a pool is once scores that were lent are given back.
use Rattle.std.specs.Prelude.{ℕ, List}
use Rattle.std.specs.Borrow.{Array, Fml, Lends, MutBor, u32}
use Rattle.frame_pool.specs.Pool.{PoolView, with_frame_scores}
use Rattle.frame_pool.specs.contracts.pool.FramePool.{the_row as pool_row}

-- the pool ends with the last values behind the row as the scores of a frame
abbrev pub LendsScores : MutBor PoolView → ℕ → MutBor (List ℕ) → Fml
LendsScores pool frame row = Lends pool_row (Array u32 0) pool row (with_frame_scores pool.now frame)
