use Rattle.shared_lemmas.proofs.Common.{ap, arith}
use Rattle.topk_heap.proofs.Selection.{all_docs, none_past}
use Rattle.topk_heap.proofs.candidates.Candidates.select.Goals as goal

pub returns-then-n-len-clause-hit : goal.returns-then-n-len-clause-hit
returns-then-n-len-clause-hit c = none_past c.self.inside.keys.items c.args.n c.args.self.now (ap (λ v. v.hits) c.self.view_is) (omega (arith, c.if-n-len.true, c.len.ensures, c.self.inside.keys.ok.0))

pub returns-then-n-len-clause-docs : goal.returns-then-n-len-clause-docs
returns-then-n-len-clause-docs c =
    all_docs c.self.inside.keys.items _ _ _ c.args.n c.args.self.now (ap (λ v. v.hits) c.self.view_is) (omega (arith, c.if-n-len.true, c.len.ensures, c.self.inside.keys.ok.0))
    c.as_slice.ensures.value c.clear.ensures.docs c.note_docs.ensures.docs
