use Rattle.std.proofs.Common.{arith, sym, ◌∙◌}
use Rattle.index_version1.specs.Private.Tables.{before_of}
use Rattle.index_version1.proofs.TermSteps.{term_not, term_empty}
use Rattle.index_version1.proofs.term.read_term.Goals as goal

pub returns-in_default-clause-exact : goal.returns-in_default-clause-exact
returns-in_default-clause-exact c =
    term_not c.args.bytes.now (before_of c.args.before.now) c.args.at c.u16_at-size.result c.refused-in_default.result c.u16_at-size.ensures c.refused-in_default.ensures (omega arith) (omega arith) c.in_default.ensures.cases.0

pub returns-then-count-eq0-clause-exact : goal.returns-then-count-eq0-clause-exact
returns-then-count-eq0-clause-exact c =
    term_empty c.args.bytes.now (before_of c.args.before.now) c.args.at c.u16_at-size.result c.refused-then-count-eq0.result c.u16_at-size.ensures c.refused-then-count-eq0.ensures (omega arith) (omega arith) c.in-Ok.ensures.cases.1
    (sym c.if-not-rises.ensures) (sym c.u32_at-count.ensures ∙ c.if-count-eq0.true)
