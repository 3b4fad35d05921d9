use Rattle.std.proofs.Common.{List, ℕ, ◌++◌, codes, ap, sym, subst, ◌∙◌}
use Rattle.jass_base.specs.Outside.{Wrote}
use Rattle.jass_top.specs.AuditMeaning.{verdict_line}
use Rattle.jass_top.proofs.audit.put_verdict.Goals as goal

pub returns-in-Report : goal.returns-in-Report
returns-in-Report g c =
    subst (λ (text : List ℕ). Wrote g.O.Sink.written g.O.Sink.faults g.O.Sink.rest c.args.out.now c.put_all-in-Report.new.out text c.put_all-in-Report.result)
    (ap (λ (digits : List ℕ). codes "audit no report line " ++ (digits ++ codes "\n")) (c.as_bytes.ensures.value ∙ c.format.ensures.text) ∙ sym (ap verdict_line c.in-Report.is))
    c.put_all-in-Report.ensures
