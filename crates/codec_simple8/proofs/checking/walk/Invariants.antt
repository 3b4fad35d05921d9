use Rattle.codec_simple8.specs.Simple8.{read_words}
use Rattle.codec_simple8.proofs.Reading.{Walk}
use Rattle.codec_simple8.proofs.checking.walk.Given as goal

abbrev pub invariant-loop-left : goal.invariant-loop-left
invariant-loop-left l = Walk (read_words l.count l.d 0 l.count l.bytes) l.d l.bytes l.at l.left l.least

abbrev pub decreases-loop-left : goal.decreases-loop-left
decreases-loop-left l = l.left
