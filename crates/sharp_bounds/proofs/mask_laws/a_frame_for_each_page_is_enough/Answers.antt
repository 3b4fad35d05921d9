use Rattle.sharp_bounds.proofs.Marks.{frame_for_each}
use Rattle.sharp_bounds.proofs.mask_laws.a_frame_for_each_page_is_enough.Goals as goal

pub returns : goal.returns
returns c = frame_for_each
