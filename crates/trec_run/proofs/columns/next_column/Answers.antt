use Rattle.std.proofs.Common.{◌∙◌, sym, length}
use Rattle.std.proofs.lemmas.Bool.{eqb-true}
use Rattle.trec_run.proofs.Parts.{none_there}
use Rattle.trec_run.proofs.columns.next_column.Goals as goal

pub returns : goal.returns
returns c = c.loop-rest.invariant.0 ∙ none_there c.loop-rest.rest.now (eqb-true (length c.loop-rest.rest.now) 0 (sym c.loop-rest-test.ensures))
