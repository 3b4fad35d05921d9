use Rattle.feed_lines.proofs.Ending.{nearly_whole}
use Rattle.feed_lines.proofs.laws.a_line_loses_one_byte.Goals as goal

pub returns : goal.returns
returns c = nearly_whole
