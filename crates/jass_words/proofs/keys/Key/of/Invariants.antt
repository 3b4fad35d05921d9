use Rattle.shared_lemmas.proofs.Common.{◌≢◌, take, AllByRecursion}
use Rattle.jass_words.specs.Options.{key_text}
use Rattle.jass_words.proofs.Tables.{all_keys}
use Rattle.jass_words.proofs.keys.Key.of.Given as goal

abbrev pub invariant-loop-key : goal.invariant-loop-key
invariant-loop-key l = AllByRecursion (λ key. l.text ≢ key_text key) (take l.key-index all_keys)
