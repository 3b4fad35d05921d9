use Rattle.shared_lemmas.proofs.Common.{◌∙◌, ap, sym, arith, length, List, ℕ, is_utf8}
use Rattle.ciff_read.specs.Judging.{ListStart, judge_list}
use Rattle.ciff_read.specs.Private.Places.{list_start_in, gathered_of}
use Rattle.ciff_read.specs.Refusals.{placed}
use Rattle.ciff_read.proofs.Answering.{refuses}
use Rattle.ciff_read.proofs.FinishedLists.{no_text, long_text, walked_there}
use Rattle.ciff_read.proofs.Parts.{list_walks_not, list_judged_not, gathers_all}
use Rattle.ciff_read.proofs.postings_list.walk_one.Goals as goal

pub returns-in-Err-walk_list-clause-refused : goal.returns-in-Err-walk_list-clause-refused
returns-in-Err-walk_list-clause-refused c = λ terms. list_walks_not c.args.bytes.now c.args.body c.args.at c.args.docs c.args.before terms c.in-Err-walk_list.fault c.in-Err-walk_list.ensures.read

pub returns-in_default-clause-refused : goal.returns-in_default-clause-refused
returns-in_default-clause-refused c =
    let r = c.in-Ok-walk_list.ensures.read in
    let start = list_start_in c.in-Ok-walk_list.fields in
    λ terms.
    list_judged_not c.args.bytes.now c.args.body c.args.at c.args.docs c.args.before terms (record { start = start; entries = r.entries }) r.read c.refused.result
    (refuses c.refused.result _ (placed c.args.at (judge_list terms start)) c.refused.ensures (no_text c.args.at terms start c.in_default.ensures))

pub returns-then-term-gt-LONGEST_TERM-clause-refused : goal.returns-then-term-gt-LONGEST_TERM-clause-refused
returns-then-term-gt-LONGEST_TERM-clause-refused c =
    let r = c.in-Ok-walk_list.ensures.read in
    let start = list_start_in c.in-Ok-walk_list.fields in
    λ terms.
    list_judged_not c.args.bytes.now c.args.body c.args.at c.args.docs c.args.before terms (record { start = start; entries = r.entries }) r.read c.refused-then-term-gt-LONGEST_TERM.result
    (refuses c.refused-then-term-gt-LONGEST_TERM.result _ (placed c.args.at (judge_list terms start)) c.refused-then-term-gt-LONGEST_TERM.ensures
    (long_text c.args.at terms start c.in-Some.ensures.1 (omega (arith, c.if-term-gt-LONGEST_TERM.true, ap length c.in-Some.ensures.0))))

pub returns-clause-walked : goal.returns-clause-walked
returns-clause-walked c =
    let r = c.in-Ok-walk_list.ensures.read in
    let n = c.in-Ok.ensures in
    let g = c.walk_list.new.gathered in
    let x = c.in-Ok-walk_list.fields in
    let text = c.in-Some.ensures in
    let gathered = gathers_all c.args.docs c.args.before c.in-Ok.gathered.docs c.in-Ok.gathered.before (gathered_of c.in-Ok.gathered) (gathered_of g) r.entries n.empty n.docs n.before r.gathered in
    walked_there c.args.bytes.now c.args.body c.args.at c.args.docs c.args.before (record { start = list_start_in x; entries = r.entries }) r.read
    (record { term = c.in-Some.term; df = x.df; cf = x.cf; gathered = g })
    (ap (λ (t : List ℕ). let s : ListStart = record { term = t; df = x.df; cf = x.cf } in s) (sym text.0)) gathered (ap is_utf8 text.0 ∙ text.1) (omega (arith, c.if-term-gt-LONGEST_TERM.false))
