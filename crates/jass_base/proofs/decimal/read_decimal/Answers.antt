use Rattle.std.proofs.Common.{sym, ◌∙◌, arith}
use Rattle.jass_base.proofs.DecimalLemmas.{decimal_of-value}
use Rattle.jass_base.proofs.decimal.read_decimal.Goals as goal

pub returns : goal.returns
returns c = c.value_of.ensures ∙ decimal_of-value c.args.bytes.now (sym c.is_empty.ensures ∙ c.if-is_empty.false) (omega arith)
