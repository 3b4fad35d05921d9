use Rattle.jass_words.proofs.Short.{short_words}
use Rattle.jass_words.proofs.laws.a_command_has_short_words.Goals as goal

pub returns : goal.returns
returns c = short_words
