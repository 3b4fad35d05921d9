use Rattle.shared_lemmas.proofs.Common.{◌≢◌, take, AllByRecursion}
use Rattle.jass_words.specs.Table.{word_of, all_names}
use Rattle.jass_words.proofs.names.Name.of.Given as goal

abbrev pub invariant-loop-name : goal.invariant-loop-name
invariant-loop-name l = AllByRecursion (λ name. l.word ≢ word_of name) (take l.name-index all_names)
