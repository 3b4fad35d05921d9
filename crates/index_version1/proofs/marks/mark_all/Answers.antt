use Rattle.shared_lemmas.proofs.Common.{arith, get_or, ◌≤◌, All-set}
use Rattle.index_version1.proofs.Marking.{mark_on, marked_all}
use Rattle.index_version1.proofs.marks.mark_all.Goals as goal

pub loop-doc-preserved : goal.loop-doc-preserved
loop-doc-preserved c = record {
  marks = λ earlier before. mark_on c.loop-doc.seen c.args.docs.now c.args.mark c.loop-doc.doc-index earlier c.loop-doc-test.true (let h = c.requires c.loop-doc.doc-index 0 c.loop-doc-test.true in omega (arith, h)) (c.loop-doc.invariant.marks earlier before);
  most = λ most few small. All-set (λ n. n ≤ most) c.loop-doc.seen (get_or c.args.docs.now c.loop-doc.doc-index 0) c.args.mark small (c.loop-doc.invariant.most most few small);
}

pub returns-clause-marks : goal.returns-clause-marks
returns-clause-marks c = λ earlier before. marked_all c.loop-doc.seen c.args.docs.now c.args.mark c.loop-doc.doc-index earlier c.loop-doc-test.false (c.loop-doc.invariant.marks earlier before)
