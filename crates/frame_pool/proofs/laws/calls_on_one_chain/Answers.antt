use Rattle.frame_pool.proofs.Leaving.{leaves_itself, leaves_twice}
use Rattle.frame_pool.proofs.laws.calls_on_one_chain.Goals as goal

pub returns : goal.returns
returns c = record { none = leaves_itself; two = leaves_twice }
