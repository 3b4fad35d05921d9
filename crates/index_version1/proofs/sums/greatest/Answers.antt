use Rattle.std.proofs.Common.{arith, List, ap, map}
use Rattle.index_layout.specs.Heads.{greatest_of}
use Rattle.index_version1.specs.declared.head.Head.{Head}
use Rattle.index_version1.specs.Private.Tables.{head_data}
use Rattle.index_version1.proofs.Summing.{greatest_next}
use Rattle.index_version1.proofs.sums.greatest.Goals as goal

pub loop-term-preserved : goal.loop-term-preserved
loop-term-preserved c =
    omega (arith, c.greatest_with-greatest.ensures, ap (λ (hs : List Head). greatest_of (map head_data hs)) c.as_slice.ensures, greatest_next c.args.terms.now c.loop-term.term-index c.term-item.result c.loop-term-test.true c.term-item.is, c.loop-term.invariant)
