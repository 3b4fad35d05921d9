use Rattle.shared_lemmas.proofs.Common.{List, ap, reverse}
use Rattle.jass_base.specs.declared.answer.Hit.{Hit}
use Rattle.topk_heap.proofs.Raised.{empty_stands}
use Rattle.topk_heap.proofs.top.Top.new.Goals as goal

pub returns-clause-stands : goal.returns-clause-stands
returns-clause-stands c docs = empty_stands _ docs (ap (λ (xs : List Hit). reverse xs) c.in_ok-hits.ensures.hits)
