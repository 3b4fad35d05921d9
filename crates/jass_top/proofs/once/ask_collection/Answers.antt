use Rattle.std.proofs.Common.{subst}
use Rattle.jass_top.proofs.Below.{IndexData}
use Rattle.jass_top.specs.Private.Causes.{Runs}
use Rattle.jass_top.specs.Private.HeldIndexes.{asking_meaning}
use Rattle.jass_top.specs.Private.OnceTexts.{once_of}
use Rattle.jass_top.specs.Private.Worlds.{with_output, with_steps}
use Rattle.jass_top.proofs.once.ask_collection.Goals as goal

pub returns : goal.returns
returns g c = λ beside.
    subst (λ (index : IndexData). Runs (asking_meaning c.args.input.now index (once_of c.args.question)) (with_output g.O.Sink c.args.out.now (with_steps c.args.steps.now beside))
    (with_output g.O.Sink c.ask_made-answered.new.out (with_steps c.ask_made-answered.new.steps beside)) c.ask_made-answered.result)
    c.in-Ok.ensures.made (c.ask_made-answered.ensures beside)
