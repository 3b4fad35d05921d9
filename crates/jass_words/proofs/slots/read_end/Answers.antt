use Rattle.std.proofs.Common.{refl, arith, length-drop}
use Rattle.jass_words.specs.Words.{texts}
use Rattle.jass_words.proofs.Faults.{bad_more}
use Rattle.jass_words.proofs.Terms.{size_of_texts}
use Rattle.jass_words.proofs.slots.read_end.Goals as goal

pub returns-then-words-place-clause-fault : goal.returns-then-words-place-clause-fault
returns-then-words-place-clause-fault c =
    (1, refl, bad_more _ (omega (arith, length-drop c.args.place (texts c.args.words.now), size_of_texts c.args.words.now, c.if-words-place.true)))
