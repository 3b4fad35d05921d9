use Rattle.std.proofs.Common.{◌≡◌, drop, map}
use Rattle.ciff_write.proofs.Below.{docs_spelling, doc_data, GathersUpTo}
use Rattle.ciff_write.proofs.document.put_docs.Given as goal

abbrev pub invariant-loop-doc : goal.invariant-loop-doc
invariant-loop-doc g l = record {
  numbered : l.number ≡ l.doc-index;
  text : GathersUpTo g.S.Sink.written g.S.Sink.faults g.S.Sink.rest l.fn.out l.out l.fn.buffer l.buffer (docs_spelling 0 (map doc_data l.docs)) (docs_spelling l.number (map doc_data (drop l.doc-index l.docs)));
}
