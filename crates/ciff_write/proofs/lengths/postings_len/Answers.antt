use Rattle.std.proofs.Common.{arith}
use Rattle.jass_base.specs.declared.posting.Posting.{Posting}
use Rattle.ciff_write.proofs.Postings.{postings_size, next_above}
use Rattle.ciff_write.proofs.lengths.postings_len.Goals as goal

pub loop-posting-preserved : goal.loop-posting-preserved
loop-posting-preserved c =
    let d : Posting = record { doc = 0; tf = 0 } in
    let size = postings_size c.loop-posting.last c.args.postings.now c.loop-posting.posting-index d c.posting_len.result c.loop-posting-test.true c.posting_len.ensures.len (omega (arith, c.posting_len.ensures.few)) in
    record {
      next = λ more. next_above c.args.postings.now c.loop-posting.posting-index d c.requires.rising c.loop-posting-test.true more;
      len = omega (arith, size, c.from.ensures, c.loop-posting.invariant.len);
      few = omega (arith, c.from.ensures, c.posting_len.ensures.few, c.loop-posting.invariant.few);
    }
