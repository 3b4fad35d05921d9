use Rattle.shared_lemmas.proofs.Common.{refl}
use Rattle.jass_words.specs.declared.keys.Key.TheVariants as keys
use Rattle.jass_words.specs.declared.option_words.OptionWord.TheVariants as option_words
use Rattle.jass_words.proofs.Settings.{takes_so}
use Rattle.jass_words.proofs.options.Options.put.Goals as goal

pub returns-in-Hits : goal.returns-in-Hits
returns-in-Hits c = takes_so _ _ _ _ c.in-Hits.is (elim [ keys.Hits ↦ refl | key ↦ refl ])

pub returns-in-Limits : goal.returns-in-Limits
returns-in-Limits c = takes_so _ _ _ _ c.in-Limits.is (elim [ keys.Limits ↦ refl | key ↦ refl ])

pub returns-in-Tag : goal.returns-in-Tag
returns-in-Tag c = takes_so c.args.self.now c.args.option (option_words.Tag c.in-Tag.tag) _ c.in-Tag.is (elim [ keys.Tag ↦ refl | key ↦ refl ])

pub returns-in-Reading : goal.returns-in-Reading
returns-in-Reading c = takes_so _ _ _ _ c.in-Reading.is (elim [ keys.Reading ↦ refl | key ↦ refl ])

pub returns-in-Stopping : goal.returns-in-Stopping
returns-in-Stopping c = takes_so _ _ _ _ c.in-Stopping.is (elim [ keys.Stopping ↦ refl | key ↦ refl ])

pub returns-in-Weights : goal.returns-in-Weights
returns-in-Weights c = takes_so _ _ _ _ c.in-Weights.is (elim [ keys.Weights ↦ refl | key ↦ refl ])

pub returns-in-Width : goal.returns-in-Width
returns-in-Width c = takes_so _ _ _ _ c.in-Width.is (elim [ keys.Width ↦ refl | key ↦ refl ])

pub returns-in-Frames : goal.returns-in-Frames
returns-in-Frames c = takes_so _ _ _ _ c.in-Frames.is (elim [ keys.Frames ↦ refl | key ↦ refl ])
