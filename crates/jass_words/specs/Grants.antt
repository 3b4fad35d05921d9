-- The budgets of a search, in the order in which they are granted.
use Rattle.std.specs.Prelude.{List, take}
use Rattle.jass_base.specs.declared.answer.Budget.{Budget}
use Rattle.jass_words.specs.declared.grants.Grants.{Grants}

abbrev pub granted : Grants → List Budget
granted grants = take grants.count grants.items
