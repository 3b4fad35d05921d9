use Rattle.topk_heap.proofs.Known.{next_inside}
use Rattle.topk_heap.proofs.laws.the_runner_up_is_a_document.Goals as goal

pub returns : goal.returns
returns c = next_inside
