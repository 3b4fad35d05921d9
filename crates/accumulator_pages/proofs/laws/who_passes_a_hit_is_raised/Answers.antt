use Rattle.accumulator_pages.proofs.Raising.{raised-all, raised-only, raised-once}
use Rattle.accumulator_pages.proofs.laws.who_passes_a_hit_is_raised.Goals as goal

pub returns : goal.returns
returns c = record { all = raised-all; only = raised-only; once = raised-once }
