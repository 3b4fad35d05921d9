use Rattle.shared_lemmas.proofs.Common.{drop, length-map-range_with_len}
use Rattle.ranking_model.specs.Scores.{greatest_weight}
use Rattle.sharp_bounds.proofs.Marks.{one_weight, weight_falls, weight_least}
use Rattle.sharp_bounds.proofs.mask_laws.one_weight_falls_with_the_bound.Goals as goal

pub returns-clause-many : goal.returns-clause-many
returns-clause-many c n plan = length-map-range_with_len (λ term_place. greatest_weight term_place (drop n plan.segments)) 0 plan.terms

pub returns-clause-segment : goal.returns-clause-segment
returns-clause-segment c n weight plan segment at inside falls = one_weight n plan segment at weight inside falls

pub returns-clause-falls : goal.returns-clause-falls
returns-clause-falls c n plan segment at inside = weight_falls n plan segment at inside

pub returns-clause-least : goal.returns-clause-least
returns-clause-least c n plan segment at inside = weight_least n plan segment at inside
