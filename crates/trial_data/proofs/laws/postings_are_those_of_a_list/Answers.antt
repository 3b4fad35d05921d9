use Rattle.std.proofs.Common.{arith}
use Rattle.trial_data.specs.Trials.{term_postings}
use Rattle.trial_data.proofs.Drawing.{term_drawn, docs_rise, docs_below, tf_between, few_drawn}
use Rattle.trial_data.proofs.laws.postings_are_those_of_a_list.Goals as goal

pub returns-clause-rising : goal.returns-clause-rising
returns-clause-rising c = λ docs term state. docs_rise docs 0 (term_postings docs term state).postings (term_drawn docs term state)

pub returns-clause-below : goal.returns-clause-below
returns-clause-below c = λ docs term state. docs_below docs 0 (term_postings docs term state).postings (term_drawn docs term state)

pub returns-clause-tf : goal.returns-clause-tf
returns-clause-tf c = λ docs term state. tf_between docs 0 (term_postings docs term state).postings (term_drawn docs term state)

pub returns-clause-few : goal.returns-clause-few
returns-clause-few c = λ docs term state. let few = few_drawn docs 0 (term_postings docs term state).postings (term_drawn docs term state) (omega arith) in omega arith
