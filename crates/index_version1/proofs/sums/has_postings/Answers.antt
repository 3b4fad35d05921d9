use Rattle.std.proofs.Common.{arith, ap, ◌+◌, sum_by}
use Rattle.index_version1.specs.declared.head.Head.{Head}
use Rattle.index_version1.proofs.Summing.{postings_more, postings_front, unequal}
use Rattle.index_version1.proofs.sums.has_postings.Goals as goal

pub returns-in-None : goal.returns-in-None
returns-in-None c =
    let terms = c.args.terms.now in
    let i = c.loop-term.term-index in
    let less = c.in-None.ensures in
    unequal c.args.postings _ (omega (arith, less, ap (sum_by (λ (h : Head). h.count)) c.as_slice.ensures, postings_more terms i c.term-item.result c.loop-term-test.true c.term-item.is, postings_front terms (i + 1), c.loop-term.invariant))

pub loop-term-preserved : goal.loop-term-preserved
loop-term-preserved c =
    let e = c.in-Some.ensures in
    omega (arith, e, ap (sum_by (λ (h : Head). h.count)) c.as_slice.ensures, postings_more c.args.terms.now c.loop-term.term-index c.term-item.result c.loop-term-test.true c.term-item.is, c.loop-term.invariant)
