use Rattle.jass_top.proofs.Tried.{summed_up}
use Rattle.jass_top.proofs.laws.a_trial_leaves_its_summary.Goals as goal

pub returns : goal.returns
returns c = λ index queries is.
    summed_up c.a_prefix_has_one_report.ensures.report c.reports_keep_their_promises.ensures index (c.the_flat_list_is_flat.ensures.numbers index is.is_well_formed) c.the_prefix_is_the_longest.ensures.fits queries
