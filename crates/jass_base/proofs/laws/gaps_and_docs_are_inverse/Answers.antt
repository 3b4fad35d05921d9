use Rattle.jass_base.proofs.Gaps.{rise_from_all, docs_again, gaps_again}
use Rattle.jass_base.proofs.laws.gaps_and_docs_are_inverse.Goals as goal

pub returns : goal.returns
returns c = record { docs = λ least docs rising all. docs_again least docs (rise_from_all least docs rising all); gaps = gaps_again }
