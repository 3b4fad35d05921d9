-- Reading packed lanes, in the order in which faults are told.
use Rattle.std.specs.Prelude.{ℕ, zero, suc, ◌+◌, ◌*◌, ◌/◌, ◌%◌, ◌==◌, List, [], ◌∷◌, ◌++◌, length, take, drop, sum, nat_lt, if◌then◌else◌, Result, Ok, Err}
use Rattle.std.specs.List.{list_all}
use Rattle.jass_base.specs.Gaps.{◌>>=◌, docs_from, read_gaps}
use Rattle.jass_base.specs.declared.payload_fault.PayloadFault.{PayloadFault}
use Rattle.jass_base.specs.declared.payload_fault.PayloadFault.TheVariants.{Cut, Shape, DocRange}
use Rattle.lane_kernels.specs.Block.{block_values}
use Rattle.lane_kernels.specs.Width.{least_width}

-- the gaps of a block, and how many bytes it has
pub record PackedBlock : Type 0 where
  pub gaps : List ℕ
  pub size : ℕ

-- the block of this width that the bytes begin with; a lesser width must not hold its gaps
abbrev pub block_at_width : ℕ → List ℕ → Result PackedBlock PayloadFault
block_at_width width bytes =
    if nat_lt (length bytes) (16 * width) then Err Cut
    else (if least_width (block_values (take (16 * width) bytes) width) == width
    then Ok (record { gaps = block_values (take (16 * width) bytes) width; size = 16 * width + 1 }) else Err Shape)

-- the block that the bytes begin with
unfoldable pub block_in : List ℕ → Result PackedBlock PayloadFault
block_in [] = Err Cut
block_in (width ∷ bytes) = if nat_lt 32 width then Err Shape else block_at_width width bytes

-- the documents below d of so many blocks and of so many gaps behind them, the first at least `least`, or the first fault
abbrev pub read_blocks : ℕ → ℕ → ℕ → ℕ → List ℕ → Result (List ℕ) PayloadFault
read_blocks d least zero rest bytes = read_gaps d least rest bytes
read_blocks d least (suc blocks) rest bytes = block_in bytes >>= λ block.
    if list_all (λ doc. nat_lt doc d) (docs_from least block.gaps)
    then (read_blocks d (least + sum block.gaps + 128) blocks rest (drop block.size bytes) >>= λ docs. Ok (docs_from least block.gaps ++ docs))
    else Err DocRange

-- `count` documents below d, or the first fault
abbrev pub read_packed : ℕ → ℕ → List ℕ → Result (List ℕ) PayloadFault
read_packed d count bytes = read_blocks d 0 (count / 128) (count % 128) bytes
