use Rattle.shared_lemmas.proofs.Common.{◌++◌, Err, ◌≡◌, rules, codes}
use Rattle.index_file.specs.Places.{codec_use}
use Rattle.jass_top.specs.TrialMeaning.{use_line}
use Rattle.jass_top.specs.TrialSums.{budget_text}
use Rattle.jass_top.proofs.Wholes.{cut, both}
use Rattle.jass_top.proofs.trial_lines.put_summary.Goals as goal

pub returns-in_err-put_use : goal.returns-in_err-put_use
returns-in_err-put_use g c =
    let sums = c.args.sums in
    let out : c.from_residual.result ≡ Err c.in_err-put_use.field-0.0 = search rules in
    rw out (cut g.O.Sink.written g.O.Sink.faults g.O.Sink.rest c.args.out.now c.put_use.new.out (use_line c.args.index.now.index (codec_use c.args.index.now.codecs))
    (budget_text (codes "1000") sums.first ++ (budget_text (codes "10000") sums.second ++ budget_text (codes "all") sums.last)) c.in_err-put_use.field-0.0 c.in_err-put_use.field-0.0 c.in_err-put_use.ensures)

pub returns-in_err-put_sum : goal.returns-in_err-put_sum
returns-in_err-put_sum g c =
    let sums = c.args.sums in
    let rest = budget_text (codes "10000") sums.second ++ budget_text (codes "all") sums.last in
    let out : c.from_residual-in_err-put_sum.result ≡ Err c.in_err-put_sum.field-0.0 = search rules in
    rw out (both g.O.Sink.written g.O.Sink.faults g.O.Sink.rest c.args.out.now c.put_use.new.out c.put_sum.new.out (use_line c.args.index.now.index (codec_use c.args.index.now.codecs)) (budget_text (codes "1000") sums.first ++ rest)
    _ (Err c.in_err-put_sum.field-0.0) c.in_ok-put_use.ensures
    (cut g.O.Sink.written g.O.Sink.faults g.O.Sink.rest c.put_use.new.out c.put_sum.new.out (budget_text (codes "1000") sums.first) rest c.in_err-put_sum.field-0.0 c.in_err-put_sum.field-0.0 c.in_err-put_sum.ensures))

pub returns-in_err-put_sum-2 : goal.returns-in_err-put_sum-2
returns-in_err-put_sum-2 g c =
    let sums = c.args.sums in
    let rest = budget_text (codes "10000") sums.second ++ budget_text (codes "all") sums.last in
    let out : c.from_residual-in_err-put_sum-2.result ≡ Err c.in_err-put_sum-2.field-0.0 = search rules in
    rw out (both g.O.Sink.written g.O.Sink.faults g.O.Sink.rest c.args.out.now c.put_use.new.out c.put_sum-2.new.out (use_line c.args.index.now.index (codec_use c.args.index.now.codecs)) (budget_text (codes "1000") sums.first ++ rest)
    _ (Err c.in_err-put_sum-2.field-0.0) c.in_ok-put_use.ensures
    (both g.O.Sink.written g.O.Sink.faults g.O.Sink.rest c.put_use.new.out c.put_sum.new.out c.put_sum-2.new.out (budget_text (codes "1000") sums.first) rest
    _ (Err c.in_err-put_sum-2.field-0.0) c.in_ok-put_sum.ensures
    (cut g.O.Sink.written g.O.Sink.faults g.O.Sink.rest c.put_sum.new.out c.put_sum-2.new.out (budget_text (codes "10000") sums.second) (budget_text (codes "all") sums.last)
    c.in_err-put_sum-2.field-0.0 c.in_err-put_sum-2.field-0.0 c.in_err-put_sum-2.ensures)))

pub returns : goal.returns
returns g c =
    let sums = c.args.sums in
    let rest = budget_text (codes "10000") sums.second ++ budget_text (codes "all") sums.last in
    both g.O.Sink.written g.O.Sink.faults g.O.Sink.rest c.args.out.now c.put_use.new.out c.put_sum-3.new.out (use_line c.args.index.now.index (codec_use c.args.index.now.codecs)) (budget_text (codes "1000") sums.first ++ rest)
    _ c.put_sum-3.result c.in_ok-put_use.ensures
    (both g.O.Sink.written g.O.Sink.faults g.O.Sink.rest c.put_use.new.out c.put_sum.new.out c.put_sum-3.new.out (budget_text (codes "1000") sums.first) rest
    _ c.put_sum-3.result c.in_ok-put_sum.ensures
    (both g.O.Sink.written g.O.Sink.faults g.O.Sink.rest c.put_sum.new.out c.put_sum-2.new.out c.put_sum-3.new.out (budget_text (codes "10000") sums.second) (budget_text (codes "all") sums.last)
    _ c.put_sum-3.result c.in_ok-put_sum-2.ensures c.put_sum-3.ensures))
