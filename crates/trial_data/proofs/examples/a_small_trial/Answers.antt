-- Each number has one digit, and the rest computes.
use Rattle.shared_lemmas.proofs.Common.{refl, arith, decimal_digit}
use Rattle.trial_data.specs.Generator.{next_state, drawn}
use Rattle.trial_data.specs.Trials.{term_postings, trial_collection, trial_state, trial_queries}
use Rattle.trial_data.proofs.examples.a_small_trial.Goals as goal

pub returns-clause-collection : goal.returns-clause-collection
unfolding next_state drawn term_postings trial_collection
returns-clause-collection c = rw (decimal_digit 0 (omega arith), decimal_digit 1 (omega arith), decimal_digit 2 (omega arith), decimal_digit 3 (omega arith)) refl

pub returns-clause-state : goal.returns-clause-state
unfolding next_state drawn term_postings trial_state
returns-clause-state c = refl

pub returns-clause-query : goal.returns-clause-query
unfolding next_state drawn term_postings trial_state trial_queries
returns-clause-query c = rw (decimal_digit 0 (omega arith)) refl
