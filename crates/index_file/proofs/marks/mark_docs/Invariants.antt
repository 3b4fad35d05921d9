use Rattle.std.proofs.Common.{◌≡◌, drop, length}
use Rattle.index_file.specs.Marks.{marked, meets_marked}
use Rattle.index_file.proofs.marks.mark_docs.Given as goal

abbrev pub invariant-docs : goal.invariant-docs
invariant-docs l = record {
  met : meets_marked l.now l.docs l.fn.marks ≡ meets_marked l.now (drop l.doc-index l.docs) l.marks;
  marks : marked l.now l.docs l.fn.marks ≡ marked l.now (drop l.doc-index l.docs) l.marks;
  count : length l.marks ≡ length l.fn.marks;
}
