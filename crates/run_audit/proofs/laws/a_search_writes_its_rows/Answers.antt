use Rattle.run_audit.proofs.Written.{search_written}
use Rattle.run_audit.proofs.laws.a_search_writes_its_rows.Goals as goal

pub returns : goal.returns
returns c names flat queries search = search_written names flat search.k search.budgets search.tag queries
