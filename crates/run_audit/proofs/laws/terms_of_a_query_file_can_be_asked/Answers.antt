use Rattle.run_audit.proofs.Named.{terms_are_askable}
use Rattle.run_audit.proofs.laws.terms_of_a_query_file_can_be_asked.Goals as goal

pub returns : goal.returns
returns c = terms_are_askable
