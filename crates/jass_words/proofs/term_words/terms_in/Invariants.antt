use Rattle.shared_lemmas.proofs.Common.{take, AllByRecursion}
use Rattle.jass_words.specs.Slots.{IsTerm}
use Rattle.jass_words.specs.Words.{texts}
use Rattle.jass_words.proofs.term_words.terms_in.Given as goal

abbrev pub invariant-loop-place : goal.invariant-loop-place
invariant-loop-place l = AllByRecursion IsTerm (take l.place (texts l.words))
