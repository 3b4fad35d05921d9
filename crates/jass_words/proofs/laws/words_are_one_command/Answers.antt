use Rattle.jass_words.proofs.Forms.{one_command}
use Rattle.jass_words.proofs.laws.words_are_one_command.Goals as goal

pub returns : goal.returns
returns c = one_command
