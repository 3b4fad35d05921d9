use Rattle.std.proofs.Common.{◌≡◌, ◌-◌, suc, length, arith}
use Rattle.ranking_model.proofs.PlanSegments.{set_last}
use Rattle.ranking_model.proofs.plan_segment.add_to_last.Goals as goal

pub returns-in-Ok : goal.returns-in-Ok
returns-in-Ok c =
    let last : length c.args.segments.now.items ≡ suc (c.len-last.result - 1) = omega arith in
    set_last c.args.segments.now.items c.args.doc (c.len-last.result - 1) c.index_mut.result.now c.push.new.self last c.index_mut.ensures.value c.in-Ok.ensures.ok
