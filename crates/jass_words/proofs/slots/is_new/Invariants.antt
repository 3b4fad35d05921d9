use Rattle.shared_lemmas.proofs.Common.{◌≢◌, take, AllByRecursion}
use Rattle.jass_words.specs.Words.{texts}
use Rattle.jass_words.proofs.slots.is_new.Given as goal

abbrev pub invariant-loop-other : goal.invariant-loop-other
invariant-loop-other l = AllByRecursion (λ other. other ≢ l.word) (texts (take l.other-index l.before))
