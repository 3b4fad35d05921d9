use Rattle.std.proofs.Common.{sym}
use Rattle.gathered_text.proofs.Digits.{decimal_three}
use Rattle.gathered_text.proofs.digit_count.three_digits.Goals as goal

pub returns : goal.returns
returns c = sym (decimal_three c.args.number c.requires.0 c.requires.1)
