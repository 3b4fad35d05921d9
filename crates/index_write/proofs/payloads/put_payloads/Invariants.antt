use Rattle.std.proofs.Common.{◌≡◌, ◌++◌, map, take}
use Rattle.index_model.specs.Views.{segment_data}
use Rattle.index_write.specs.Chosen.{chosen_payloads}
use Rattle.index_write.proofs.payloads.put_payloads.Given as goal

abbrev pub invariant-loop-i : goal.invariant-loop-i
invariant-loop-i l = l.out ≡ l.fn.out ++ chosen_payloads l.d (map segment_data (take l.i l.segments))
