use Rattle.sharp_bounds.proofs.Sharp.{final_is_sharp}
use Rattle.sharp_bounds.proofs.laws.a_final_answer_is_sharply_final.Goals as goal

pub returns : goal.returns
returns c = final_is_sharp
