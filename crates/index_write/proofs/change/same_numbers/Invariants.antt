use Rattle.std.proofs.Common.{◌≡◌, drop, map}
use Rattle.index_model.specs.Views.{segment_data}
use Rattle.index_write.specs.Chosen.{head_data, chosen_heads}
use Rattle.index_write.specs.Streaming.{heads_change}
use Rattle.index_write.proofs.change.same_numbers.Given as goal

abbrev pub invariant-loop-i : goal.invariant-loop-i
invariant-loop-i l =
    heads_change (map head_data (drop l.i l.kept)) (chosen_heads l.d (map segment_data (drop l.i l.segments)))
    ≡ heads_change (map head_data l.kept) (chosen_heads l.d (map segment_data l.segments))
