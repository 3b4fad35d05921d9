use Rattle.std.proofs.Common.{◌≡◌, ◌++◌, map, take}
use Rattle.index_model.specs.Views.{segment_data}
use Rattle.index_write.specs.Chosen.{head_data, chosen_heads}
use Rattle.index_write.proofs.head.push_heads.Given as goal

abbrev pub invariant-loop-segment : goal.invariant-loop-segment
invariant-loop-segment l = map head_data l.heads ≡ map head_data l.fn.heads ++ chosen_heads l.d (map segment_data (take l.segment-index l.segments))
