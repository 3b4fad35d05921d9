use Rattle.shared_lemmas.proofs.Common.{◌≡◌, ℕ, List, Some, IfOk, IfErr, Result, Ok, Err, slice_get}
use Rattle.jass_words.specs.declared.command.Command.{Command}
use Rattle.jass_words.specs.declared.names.Name.{Name}
use Rattle.jass_words.specs.declared.word_fault.WordFault.{WordFault}
use Rattle.jass_words.specs.Commands.{command_data}
use Rattle.jass_words.specs.Table.{word_of}
use Rattle.jass_words.specs.Words.{texts, IsCommand, IsBadWord}
use Rattle.jass_words.specs.Private.Reading.{ReadsAs}
use Rattle.jass_words.proofs.Faults.{is_command, is_bad_word, no_name}
use Rattle.jass_words.proofs.reading.read_words.Goals as goal

commands : (name : Name) (words : List (List ℕ)) (r : Result Command WordFault) → slice_get words 0 ≡ Some (word_of name) → ReadsAs name words r → IfOk r (λ command. IsCommand words (command_data command))
commands name words (Ok command) first read = is_command name words (command_data command) first read
commands name words (Err fault) first read = tt

faults : (name : Name) (words : List (List ℕ)) (r : Result Command WordFault) → slice_get words 0 ≡ Some (word_of name) → ReadsAs name words r → IfErr r (λ fault. IsBadWord words fault.which)
faults name words (Ok command) first read = tt
faults name words (Err fault) first read = is_bad_word name words fault.which first read

pub returns-in_default-clause-bad_word : goal.returns-in_default-clause-bad_word
returns-in_default-clause-bad_word c = no_name (texts c.args.words.now) (c.name_of.ensures.none c.in_default.is)

pub returns-clause-command : goal.returns-clause-command
returns-clause-command c = commands c.in-Some.name (texts c.args.words.now) c.read_behind.result c.in-Some.ensures.some c.read_behind.ensures

pub returns-clause-bad_word : goal.returns-clause-bad_word
returns-clause-bad_word c = faults c.in-Some.name (texts c.args.words.now) c.read_behind.result c.in-Some.ensures.some c.read_behind.ensures
