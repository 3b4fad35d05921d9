use Rattle.run_audit.proofs.Identified.{ids_are_columns}
use Rattle.run_audit.proofs.laws.ids_of_a_query_file_are_columns.Goals as goal

pub returns : goal.returns
returns c bytes mode terms queries is = ids_are_columns bytes mode terms queries is.lines
