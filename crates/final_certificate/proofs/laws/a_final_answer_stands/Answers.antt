use Rattle.ranking_model.proofs.Promises.{settled_later}
use Rattle.final_certificate.proofs.laws.a_final_answer_stands.Goals as goal

pub returns : goal.returns
returns c = λ docs n m k flat terms is_flat more final. settled_later _ _ k _ (c.the_rest_gains_at_most_the_bound.ensures docs n m flat terms is_flat more) final
