use Rattle.sharp_bounds.proofs.Marks.{unseen_is}
use Rattle.sharp_bounds.proofs.mask_laws.the_clear_bits_tell_what_is_unseen.Goals as goal

pub returns : goal.returns
returns c = unseen_is
