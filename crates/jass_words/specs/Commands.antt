-- A command in memory as plain data.
use Rattle.jass_words.specs.declared.command.Command.{Command}
use Rattle.jass_words.specs.declared.command.Command.TheVariants as commands
use Rattle.jass_words.specs.Grants.{granted}
use Rattle.jass_words.specs.Words.{CommandData, Once, Rewrite, Import, Check, Export, Migrate, Search, Shards, Exhaust, Audit, Serve, Trial, Help, Version, texts}

abbrev pub command_data : Command → CommandData
command_data (commands.Once once) = Once once.ciff.now once.k once.budget (texts once.terms.now)
command_data (commands.Rewrite from to) = Rewrite from.now to.now
command_data (commands.Import import) = Import import.ciff.now import.index.now import.rule import.bits
command_data (commands.Check index) = Check index.now
command_data (commands.Export index ciff) = Export index.now ciff.now
command_data (commands.Migrate from to) = Migrate from.now to.now
command_data (commands.Search index queries run budgets asked until) =
    Search index.now queries.now run.now asked.k (granted budgets) asked.tag.now asked.mode until
command_data (commands.Shards shards) = Shards (texts shards.indexes.now) shards.queries.now shards.run.now shards.asked.k
    (granted shards.budgets) shards.asked.tag.now shards.asked.mode
command_data (commands.Exhaust index queries run asked) =
    Exhaust index.now queries.now run.now asked.k asked.tag.now asked.mode
command_data (commands.Audit audit) = Audit audit.index.now audit.queries.now audit.run.now audit.reports.now
    audit.asked.k (granted audit.budgets) audit.asked.tag.now audit.asked.mode
command_data (commands.Serve serve) = Serve serve.index.now serve.frames
command_data (commands.Trial trial) = Trial trial.seed trial.docs trial.terms trial.queries
command_data commands.Help = Help
command_data commands.Version = Version
