use Rattle.std.proofs.Common.{refl, length}
use Rattle.index_file.proofs.Fronts.{long_and_fitting, told_of_each, told_of_whole}
use Rattle.index_file.proofs.front.read_front.Goals as goal

pub returns-clause-exact : goal.returns-clause-exact
returns-clause-exact c = λ whole.
    told_of_whole c.args.bytes.now c.args.size c.told_size.result _ _ c.judge_front.result (record { exact = c.judge_front.ensures.exact }) refl refl c.told_size.ensures.told whole

pub returns-clause-told : goal.returns-clause-told
returns-clause-told c =
    told_of_each c.args.bytes.now c.args.size c.told_size.result _ _ c.judge_front.result (record { exact = c.judge_front.ensures.exact }) refl refl c.told_size.ensures.told c.judge_front.ensures.long

pub returns-clause-long : goal.returns-clause-long
returns-clause-long c = long_and_fitting (length c.args.bytes.now) c.args.size _ c.judge_front.result refl c.judge_front.ensures.long c.judge_front.ensures.short
