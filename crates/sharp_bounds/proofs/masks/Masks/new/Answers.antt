use Rattle.sharp_bounds.proofs.MaskRows.{new_masks}
use Rattle.sharp_bounds.proofs.masks.Masks.new.Goals as goal

pub returns-in-Ok-vec-clause-masks : goal.returns-in-Ok-vec-clause-masks
returns-in-Ok-vec-clause-masks c = new_masks _ _ _ c.in-Ok.ensures.items
