use Rattle.std.proofs.Common.{List, subst}
use Rattle.trec_run.specs.declared.run_line.RunLine.{RunLine}
use Rattle.run_audit.specs.Private.Places.{Advances}
use Rattle.run_audit.specs.Rows.{hit_rows}
use Rattle.run_audit.proofs.budgets.check_answer.Goals as goal

pub returns-clause-run : goal.returns-clause-run
returns-clause-run c =
    subst (λ (rows : List RunLine). Advances c.args.given.now.run.now c.args.places.now.run c.check_hits.new.place rows)
    (λ i. hit_rows c.args.index.now.index.names (c.as_str.ensures.bytes i) c.args.tag.now 1 (c.as_slice.ensures i)) c.check_hits.ensures.advances
