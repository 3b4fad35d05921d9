use Rattle.ranking_model.specs.Scores.{first_ranked, scores_after}
use Rattle.sharp_bounds.specs.Unseen.{unseen_bounds}
use Rattle.certain_hits.specs.Certain.{IsCertainWithin}
use Rattle.certain_hits.proofs.Deciding.{certain_first, counts_certain, one_count}
use Rattle.certain_hits.proofs.Keeping.{as_many}
use Rattle.certain_hits.proofs.laws.the_rule_counts_the_certain.Goals as goal

pub returns-clause-first : goal.returns-clause-first
returns-clause-first c = certain_first

pub returns-clause-count : goal.returns-clause-count
returns-clause-count c = λ scores limits k same. counts_certain scores limits k same

pub returns-clause-after : goal.returns-clause-after
returns-clause-after c = λ n k plan. counts_certain (scores_after n plan) (unseen_bounds n plan) k (as_many n plan)

pub returns-clause-one : goal.returns-clause-one
returns-clause-one c = λ scores limits k first second a b. one_count (λ hit. IsCertainWithin scores k limits hit.doc) (first_ranked scores k) first second a b
