use Rattle.std.proofs.Common.{refl, subst}
use Rattle.jass_top.proofs.Below.{IndexData, index_data}
use Rattle.jass_top.specs.Private.Causes.{Runs}
use Rattle.jass_top.specs.Private.HeldIndexes.{asking_meaning}
use Rattle.jass_top.specs.Private.OnceTexts.{once_of}
use Rattle.jass_top.specs.Private.Worlds.{with_output, with_steps}
use Rattle.jass_top.proofs.Stopping.{ran_on_output, stopped}
use Rattle.jass_top.proofs.once.ask_made.Goals as goal

pub returns-in-Err : goal.returns-in-Err
returns-in-Err g c = λ beside.
    ran_on_output refl refl refl refl refl refl refl refl
    (stopped (asking_meaning c.args.input.now (index_data c.args.index.now) (once_of c.args.question)) (with_output g.O.Sink c.args.out.now (with_steps c.args.steps.now beside)) c.in-Err.stop
    c.in-Err.ensures.unmade)

pub returns : goal.returns
returns g c = λ beside.
    subst (λ (made : IndexData). Runs (asking_meaning c.args.input.now made (once_of c.args.question)) (with_output g.O.Sink c.args.out.now (with_steps c.args.steps.now beside))
    (with_output g.O.Sink c.ask_source-answered.new.out (with_steps c.ask_source-answered.new.steps beside)) c.ask_source-answered.result)
    c.in-Ok.ensures.index (c.ask_source-answered.ensures beside)
