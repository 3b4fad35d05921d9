use Rattle.std.proofs.Common.{◌≡◌, ◌-◌, ◌^◌, length}
use Rattle.jass_words.specs.Words.{texts}
use Rattle.jass.proofs.SoFar.{SoFar}
use Rattle.jass.proofs.words.words_through.Given as goal

abbrev pub invariant-words : goal.invariant-words
invariant-words g l = record { so_far : SoFar (g.A.Arguments.told l.arguments) (texts l.words.items); room : length l.buffer ≡ 65536 }

abbrev pub decreases-words : goal.decreases-words
decreases-words g l = 2 ^ 64 - length l.words.items
