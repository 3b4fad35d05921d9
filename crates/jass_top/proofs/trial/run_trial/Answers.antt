use Rattle.std.proofs.Common.{◌≡◌, refl, ap, subst}
use Rattle.index_layout.specs.View.{FileView}
use Rattle.trial_data.specs.Trials.{queries_from, trial_queries}
use Rattle.jass_top.specs.Private.Causes.{Runs}
use Rattle.jass_top.specs.Meanings.{Meaning}
use Rattle.jass_top.specs.TrialMeaning.{trial_index, trial_meaning, tried_meaning}
use Rattle.jass_top.specs.Private.Worlds.{with_output, with_steps}
use Rattle.jass_top.proofs.Stopping.{ran_on_output, stopped}
use Rattle.jass_top.proofs.trial.run_trial.Goals as goal

pub returns-in-Err : goal.returns-in-Err
returns-in-Err g c = λ beside.
    ran_on_output refl refl refl refl refl refl refl refl
    (stopped (trial_meaning c.args.seed c.args.docs c.args.terms c.args.queries) (with_output g.O.Sink c.args.out.now (with_steps c.args.steps.now beside)) c.in-Err.stop
    c.in-Err.ensures.unmade)

pub returns : goal.returns
unfolding trial_queries
returns g c = λ beside.
    let index : (c.in-Ok.made.0).index ≡ trial_index c.args.seed c.args.docs c.args.terms = ap (λ (v : FileView). v.index) c.in-Ok.ensures.file in
    let asked = ap (queries_from c.args.terms c.args.queries) c.in-Ok.ensures.draws in
    subst (λ (m : Meaning). Runs m (with_output g.O.Sink c.args.out.now (with_steps c.args.steps.now beside)) (with_output g.O.Sink c.try_file-tried.new.out (with_steps c.try_file-tried.new.steps beside)) c.try_file-tried.result)
    (λ i. tried_meaning (index i) (asked i)) (c.try_file-tried.ensures beside)
