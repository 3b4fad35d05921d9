use Rattle.topk_heap.proofs.Selection.{selected_docs, selected_key}
use Rattle.topk_heap.proofs.candidates.select_key.Goals as goal

pub returns-clause-key : goal.returns-clause-key
returns-clause-key c =
    let found = c.select_nth_unstable-front.result in
    selected_key _ found.0.now found.1.now found.2.now c.args.n c.select_nth_unstable-front.ensures.permutation c.select_nth_unstable-front.ensures.partitioned
    c.select_nth_unstable-front.ensures.front_len c.numbers_fit.ensures

pub returns-clause-docs : goal.returns-clause-docs
returns-clause-docs c =
    let found = c.select_nth_unstable-front.result in
    selected_docs _ found.0.now found.1.now found.2.now c.args.n c.select_nth_unstable-front.ensures.permutation c.select_nth_unstable-front.ensures.partitioned
    c.select_nth_unstable-front.ensures.front_len c.numbers_fit.ensures _ _ _ _ c.requires.none c.note_docs.ensures.docs c.push.ensures.docs c.doc_of_key.ensures
