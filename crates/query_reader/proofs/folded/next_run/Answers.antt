use Rattle.std.proofs.Common.{◌∙◌, sym, rules}
use Rattle.query_reader.proofs.WordRuns.{none-left}
use Rattle.query_reader.proofs.folded.next_run.Goals as goal

pub returns-then-is_empty : goal.returns-then-is_empty
returns-then-is_empty c = sym c.without_gap-text.ensures.mentions ∙ none-left c.without_gap-text.result.now (search rules)
