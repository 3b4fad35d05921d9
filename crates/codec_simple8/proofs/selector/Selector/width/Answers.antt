use Rattle.std.proofs.Common.{refl}
use Rattle.codec_simple8.specs.Simple8.{width_of}
use Rattle.codec_simple8.proofs.selector.Selector.width.Goals as goal

pub returns : goal.returns
unfolding width_of
returns c = refl
