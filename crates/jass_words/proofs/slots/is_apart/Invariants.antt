use Rattle.shared_lemmas.proofs.Common.{◌≢◌, take, AllByRecursion}
use Rattle.std.proofs.Common.{map}
use Rattle.jass_words.proofs.slots.is_apart.Given as goal

abbrev pub invariant-loop-other : goal.invariant-loop-other
invariant-loop-other l = AllByRecursion (λ other. other ≢ l.word) (map (λ other. other.now) (take l.other-index l.others))
