use Rattle.std.proofs.Common.{◌≡◌, ◌+◌, length, drop, map}
use Rattle.index_model.specs.Views.{segment_data}
use Rattle.index_write.specs.Chosen.{chosen_payloads}
use Rattle.index_write.proofs.lengths.segments_len.Given as goal

abbrev pub invariant-loop-segment : goal.invariant-loop-segment
invariant-loop-segment l =
    l.len + length (chosen_payloads l.d (map segment_data (drop l.segment-index l.segments))) ≡ length (chosen_payloads l.d (map segment_data l.segments))
