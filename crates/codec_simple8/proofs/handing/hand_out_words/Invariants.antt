use Rattle.codec_simple8.specs.Simple8.{read_words}
use Rattle.codec_simple8.proofs.HandedWords.{Handed}
use Rattle.codec_simple8.proofs.handing.hand_out_words.Given as goal

abbrev pub invariant-words : goal.invariant-words
invariant-words l = Handed (read_words l.count l.d 0 l.count l.bytes) l.d l.bytes l.count l.at l.left l.least l.fn.out l.out

abbrev pub decreases-words : goal.decreases-words
decreases-words l = l.left
