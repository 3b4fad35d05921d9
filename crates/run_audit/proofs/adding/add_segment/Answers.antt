use Rattle.shared_lemmas.proofs.Common.{◌<◌, length, ap, get_or, arith, All-from_recursion}
use Rattle.ranking_model.proofs.Totals.{room_here, added_here}
use Rattle.run_audit.proofs.adding.add_segment.Goals as goal

pub overflow_add-scores : goal.overflow_add-scores
overflow_add-scores c =
    let within : c.loop-doc.doc-index < length c.args.segment.now.docs = omega (arith, ap length c.as_slice-doc-items.ensures) in
    let same = ap (λ l. get_or l c.loop-doc.doc-index 0) c.as_slice-doc-items.ensures in
    let below : get_or c.args.segment.now.docs c.loop-doc.doc-index 0 < length c.args.scores.now = All-from_recursion (λ d. d < length c.args.scores.now) c.args.segment.now.docs c.requires.documents c.loop-doc.doc-index 0 within in
    let here : get_or c.as_slice-doc-items.result.now c.loop-doc.doc-index 0 < length c.args.scores.now = omega (arith, same) in
    omega (
      arith,
      room_here c.args.segment.now.docs _ _ c.args.segment.now.weight c.loop-doc.doc-index (get_or c.as_slice-doc-items.result.now c.loop-doc.doc-index 0) _ within same
          (c.loop-doc.invariant _ here) (c.requires.room _ here),
    )

pub loop-doc-preserved : goal.loop-doc-preserved
loop-doc-preserved c = λ d h.
    let within : c.loop-doc.doc-index < length c.args.segment.now.docs = omega (arith, ap length c.as_slice-doc-items.ensures) in
    let same = ap (λ l. get_or l c.loop-doc.doc-index 0) c.as_slice-doc-items.ensures in
    let below : get_or c.args.segment.now.docs c.loop-doc.doc-index 0 < length c.args.scores.now = All-from_recursion (λ d. d < length c.args.scores.now) c.args.segment.now.docs c.requires.documents c.loop-doc.doc-index 0 within in
    let here : get_or c.as_slice-doc-items.result.now c.loop-doc.doc-index 0 < length c.loop-doc.scores = omega (arith, same) in
    added_here c.args.segment.now.docs c.loop-doc.scores c.args.scores.now c.args.segment.now.weight c.loop-doc.doc-index (get_or c.as_slice-doc-items.result.now c.loop-doc.doc-index 0) d within same here c.loop-doc.invariant (omega arith) h
