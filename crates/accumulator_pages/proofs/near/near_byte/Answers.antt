use Rattle.accumulator_pages.proofs.NearBits.{mask_bit, mask_small}
use Rattle.accumulator_pages.proofs.near.near_byte.Goals as goal

pub overflow_cast-result : goal.overflow_cast-result
overflow_cast-result c = record { fits = mask_small c.args.w c.args.from c.args.place c.args.slots.now c.requires }

pub returns : goal.returns
returns c = mask_bit c.args.w c.args.from c.args.place c.args.slots.now c.requires
