use Rattle.std.proofs.Common.{refl}
use Rattle.codec_simple8.specs.Simple8.{count_of}
use Rattle.codec_simple8.proofs.selector.Selector.count.Goals as goal

pub returns : goal.returns
unfolding count_of
returns c = refl
