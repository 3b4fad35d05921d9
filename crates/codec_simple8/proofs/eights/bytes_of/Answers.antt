use Rattle.shared_lemmas.proofs.Common.{◌≡◌, ◌+◌, ap, arith, digits_l}
use Rattle.codec_simple8.proofs.eights.bytes_of.Goals as goal

pub returns : goal.returns
returns c = let same : c.args.values + 0 ≡ c.args.values = omega arith in ap (digits_l 256 16) same
