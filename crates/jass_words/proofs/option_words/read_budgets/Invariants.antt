use Rattle.std.proofs.Common.{length}
use denote.Text.{Utf8}
use denote.Shadow.{shadow}
use Rattle.jass_words.proofs.Commas.{IsSplit}
use Rattle.jass_words.proofs.option_words.read_budgets.Given as goal

abbrev pub invariant-budgets : goal.invariant-budgets
invariant-budgets l = shadow (Utf8 l.rest) × IsSplit l.value l.budgets l.rest

abbrev pub decreases-budgets : goal.decreases-budgets
decreases-budgets l = length l.rest
