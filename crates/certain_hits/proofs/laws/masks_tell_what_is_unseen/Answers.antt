use Rattle.sharp_search.proofs.Advancing.{limits_are}
use Rattle.certain_hits.proofs.laws.masks_tell_what_is_unseen.Goals as goal

pub returns : goal.returns
returns c = λ n plan masks weights marked is. limits_are n plan masks weights marked is c.the_clear_bits_tell_what_is_unseen.ensures
