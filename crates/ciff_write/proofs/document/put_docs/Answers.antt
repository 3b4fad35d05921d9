use Rattle.std.proofs.Common.{arith}
use Rattle.gathered_text.proofs.Compose.{up_to_more, up_to_failed}
use Rattle.ciff_write.proofs.Fields.{docs_next}
use Rattle.ciff_write.proofs.document.put_docs.Goals as goal

pub returns-in_err-put_doc : goal.returns-in_err-put_doc
returns-in_err-put_doc g c =
    up_to_failed _ _ _ (docs_next c.loop-doc.number c.args.docs.now c.loop-doc.doc-index c.doc-item.result c.loop-doc-test.true c.doc-item.is) c.loop-doc.invariant.text c.from_residual.ensures.0 c.in_err-put_doc.ensures

pub loop-doc-preserved : goal.loop-doc-preserved
loop-doc-preserved g c = record {
  numbered = omega (arith, c.loop-doc.invariant.numbered);
  text = up_to_more _ _ _ (docs_next c.loop-doc.number c.args.docs.now c.loop-doc.doc-index c.doc-item.result c.loop-doc-test.true c.doc-item.is) c.loop-doc.invariant.text c.in_ok-put_doc.ensures;
}
