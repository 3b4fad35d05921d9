use Rattle.ranking_model.proofs.Growing.{prefixes_many, prefixes_from}
use Rattle.ranking_model.proofs.prefix_laws.each_budget_has_its_prefix.Goals as goal

pub returns-clause-many : goal.returns-clause-many
returns-clause-many c = prefixes_many

pub returns-clause-from : goal.returns-clause-from
returns-clause-from c = prefixes_from
