use Rattle.shared_lemmas.proofs.Common.{refl}
use Rattle.jass_words.specs.declared.keys.Key.TheVariants as keys
use Rattle.jass_words.proofs.options.Options.none.Goals as goal

pub returns : goal.returns
returns c = elim [ keys.Hits ↦ refl | key ↦ refl ]
