use Rattle.shared_lemmas.proofs.Common.{ap, drop_all}
use Rattle.ciff_write.proofs.Below.{postings_spelling, up_to_more, up_to_failed, up_to_all}
use Rattle.ciff_write.proofs.Postings.{postings_next, next_above}
use Rattle.ciff_write.proofs.postings_list.put_postings.Goals as goal

pub returns-in_err-put_posting : goal.returns-in_err-put_posting
returns-in_err-put_posting g c =
    up_to_failed _ _ _ (postings_next c.loop-posting.last c.args.postings.now c.loop-posting.posting-index (record { doc = 0; tf = 0 }) c.loop-posting-test.true) c.loop-posting.invariant.text c.from_residual.ensures.0 c.in_err-put_posting.ensures

pub loop-posting-preserved : goal.loop-posting-preserved
loop-posting-preserved g c =
    record {
      next = λ more. next_above c.args.postings.now c.loop-posting.posting-index (record { doc = 0; tf = 0 }) c.requires c.loop-posting-test.true more;
      text = up_to_more _ _ _ (postings_next c.loop-posting.last c.args.postings.now c.loop-posting.posting-index (record { doc = 0; tf = 0 }) c.loop-posting-test.true) c.loop-posting.invariant.text c.in_ok-put_posting.ensures;
    }

pub returns : goal.returns
returns g c = up_to_all _ (ap (postings_spelling c.loop-posting.last) (drop_all c.loop-posting.posting-index c.args.postings.now c.loop-posting-test.false)) c.loop-posting.invariant.text
