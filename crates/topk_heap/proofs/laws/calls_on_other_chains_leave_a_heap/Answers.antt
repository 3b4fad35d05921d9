use Rattle.topk_heap.proofs.Known.{left}
use Rattle.topk_heap.proofs.laws.calls_on_other_chains_leave_a_heap.Goals as goal

pub returns : goal.returns
returns c = left
