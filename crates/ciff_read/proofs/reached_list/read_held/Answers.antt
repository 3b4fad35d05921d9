use Rattle.std.proofs.Common.{◌∙◌, option_map, not, ap, sym}
use Rattle.ciff_read.specs.Seen.{is_seen}
use Rattle.ciff_read.specs.Private.Finishing.{finished}
use Rattle.ciff_read.specs.Private.Reached.{terms_behind}
use Rattle.ciff_read.specs.Private.Places.{message_in}
use Rattle.ciff_read.specs.Reading.{list_at}
use Rattle.ciff_read.proofs.Answering.{fails_as}
use Rattle.ciff_read.proofs.HeldParts.{not_not, cut_end, near_fault}
use Rattle.ciff_read.proofs.Plain.{list_fault_plain}
use Rattle.ciff_read.proofs.reached_list.read_held.Goals as goal

pub returns-in-Err-clause-exact : goal.returns-in-Err-clause-exact
returns-in-Err-clause-exact c = c.in-Err.ensures.refused (terms_behind (option_map (λ k. k.now) c.args.kept))

pub returns-in-Err-clause-given : goal.returns-in-Err-clause-given
returns-in-Err-clause-given c =
    let terms = terms_behind (option_map (λ k. k.now) c.args.kept) in
    let m = message_in c.args.bytes.now c.args.body in
    let fails = c.in-Err.ensures.refused terms in (
      near_fault c.args.body.end c.in-Err.fault (list_at c.args.docs c.args.before terms c.args.at m) fails
          (λ e is. c.refusals_are_near.ensures.list c.args.at c.args.body.end m e c.requires.at (cut_end c.args.bytes.now c.args.body) c.args.docs c.args.before terms is),
      list_fault_plain c.args.docs c.args.before terms c.args.at m c.in-Err.fault fails,
    )

pub returns-in-Ok-finish-clause-exact : goal.returns-in-Ok-finish-clause-exact
returns-in-Ok-finish-clause-exact c =
    let terms = terms_behind (option_map (λ k. k.now) c.args.kept) in
    c.in-Ok.ensures.walked terms ∙ ap (λ b. finished b c.args.at c.in-Ok.walked) (sym (ap not c.judge_behind-is_new.ensures.new ∙ not_not (is_seen c.in-Ok.walked.term.now terms))) ∙ c.in-Ok-finish.ensures.exact

pub returns-in-Err-finish-clause-exact : goal.returns-in-Err-finish-clause-exact
returns-in-Err-finish-clause-exact c =
    let terms = terms_behind (option_map (λ k. k.now) c.args.kept) in
    let judged = c.in-Ok.ensures.walked terms ∙ ap (λ b. finished b c.args.at c.in-Ok.walked) (sym (ap not c.judge_behind-is_new.ensures.new ∙ not_not (is_seen c.in-Ok.walked.term.now terms))) in
    fails_as c.in-Err-finish.fault _ (list_at c.args.docs c.args.before terms c.args.at (message_in c.args.bytes.now c.args.body)) (sym judged) c.in-Err-finish.ensures.exact

pub returns-in-Err-finish-clause-given : goal.returns-in-Err-finish-clause-given
returns-in-Err-finish-clause-given c =
    let terms = terms_behind (option_map (λ k. k.now) c.args.kept) in
    let m = message_in c.args.bytes.now c.args.body in
    let fails = returns-in-Err-finish-clause-exact c in (
      near_fault c.args.body.end c.in-Err-finish.fault (list_at c.args.docs c.args.before terms c.args.at m) fails
          (λ e is. c.refusals_are_near.ensures.list c.args.at c.args.body.end m e c.requires.at (cut_end c.args.bytes.now c.args.body) c.args.docs c.args.before terms is),
      list_fault_plain c.args.docs c.args.before terms c.args.at m c.in-Err-finish.fault fails,
    )
