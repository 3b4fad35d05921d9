use Rattle.shared_lemmas.proofs.Common.{◌≡◌, ◌<◌, ℕ, List, All, Err, length, subst, sym, rules, codes}
use Rattle.jass_base.specs.declared.answer.Hit.{Hit}
use Rattle.ranking_model.specs.Report.{report_line, run_lines}
use Rattle.jass_top.proofs.Below.{WriteFault, Wrote}
use Rattle.jass_top.proofs.Wholes.{cut, both}
use Rattle.jass_top.proofs.once.put_lines.Goals as goal

pub put_answer-requires : goal.put_answer-requires
put_answer-requires g c =
    subst (λ (names : List (List ℕ)). All (λ (hit : Hit). hit.doc < length names) c.args.hits.now) (sym c.tells_its_index.ensures.names) c.requires

pub returns-in_err-put_report : goal.returns-in_err-put_report
returns-in_err-put_report g c =
    let out : c.from_residual.result ≡ Err c.in_err-put_report.field-0.0 = search rules in
    rw out (cut g.O.Sink.written g.O.Sink.faults g.O.Sink.rest c.args.out.now c.put_report.new.out (report_line c.args.id.now c.args.report c.args.unknown)
    (run_lines (g.S.Source.index c.args.source.now).names c.args.id.now (codes "jass") 1 c.args.hits.now) c.in_err-put_report.field-0.0 c.in_err-put_report.field-0.0 c.in_err-put_report.ensures)

pub returns : goal.returns
returns g c =
    both g.O.Sink.written g.O.Sink.faults g.O.Sink.rest c.args.out.now c.put_report.new.out c.put_answer.new.out (report_line c.args.id.now c.args.report c.args.unknown)
    (run_lines (g.S.Source.index c.args.source.now).names c.args.id.now (codes "jass") 1 c.args.hits.now) _ c.put_answer.result c.in_ok-put_report.ensures
    (subst (λ (names : List (List ℕ)). Wrote {T = Unit {0}} {E = WriteFault} g.O.Sink.written g.O.Sink.faults g.O.Sink.rest c.put_report.new.out c.put_answer.new.out (run_lines names c.args.id.now (codes "jass") 1 c.args.hits.now) c.put_answer.result)
    c.tells_its_index.ensures.names c.put_answer.ensures)
