use Rattle.jass_top.proofs.OneOutput.{one_output}
use Rattle.jass_top.proofs.laws.a_command_has_one_output.Goals as goal

pub returns : goal.returns
returns c = one_output c.the_grade_is_one.ensures.one c.an_audit_has_one_verdict.ensures c.the_rule_says_where_to_stop.ensures.one_grade
