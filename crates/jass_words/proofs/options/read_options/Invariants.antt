use Rattle.std.proofs.Common.{take, drop}
use Rattle.jass_words.specs.Words.{texts}
use Rattle.jass_words.specs.Private.Reading.{AreRead}
use Rattle.jass_words.proofs.options.read_options.Given as goal

abbrev pub invariant-loop-n : goal.invariant-loop-n
invariant-loop-n l = AreRead l.allowed (take l.n (drop l.place (texts l.words))) l.read
