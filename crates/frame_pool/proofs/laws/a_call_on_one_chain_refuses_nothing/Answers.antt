use Rattle.frame_pool.proofs.Leaving.{leaves-in_use, leaves-refusal}
use Rattle.frame_pool.proofs.laws.a_call_on_one_chain_refuses_nothing.Goals as goal

pub returns : goal.returns
returns c = record { in_use = leaves-in_use; refusal = leaves-refusal }
