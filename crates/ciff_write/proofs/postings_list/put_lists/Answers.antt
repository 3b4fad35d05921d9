use Rattle.gathered_text.proofs.Compose.{up_to_more, up_to_failed}
use Rattle.ciff_write.proofs.Fields.{lists_next}
use Rattle.ciff_write.proofs.postings_list.put_lists.Goals as goal

pub returns-in_err-put_list : goal.returns-in_err-put_list
returns-in_err-put_list g c =
    up_to_failed _ _ _ (lists_next c.args.lists.now c.loop-list.list-index c.list-item.result c.loop-list-test.true c.list-item.is) c.loop-list.invariant c.from_residual.ensures.0 c.in_err-put_list.ensures

pub loop-list-preserved : goal.loop-list-preserved
loop-list-preserved g c = up_to_more _ _ _ (lists_next c.args.lists.now c.loop-list.list-index c.list-item.result c.loop-list-test.true c.list-item.is) c.loop-list.invariant c.in_ok-put_list.ensures
