use Rattle.std.proofs.Common.{refl}
use Rattle.impact_segments.proofs.ListRange.{each_inside, range_by_lists, widened_low, widened_more_by}
use Rattle.impact_segments.proofs.laws.widened_lists_have_the_range.Goals as goal

pub returns : goal.returns
returns c = record {
  raw = λ range other w. refl;
  one_more = widened_more_by;
  range = range_by_lists;
  inside = each_inside;
  low = widened_low;
}
