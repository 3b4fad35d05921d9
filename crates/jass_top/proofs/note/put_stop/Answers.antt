use Rattle.std.proofs.Common.{ℕ, List, ◌++◌, codes, ap, sym, subst, ◌∙◌}
use Rattle.jass_base.specs.Outside.{Wrote}
use Rattle.jass_top.specs.Private.Stops.{stop_text}
use Rattle.jass_top.proofs.note.put_stop.Goals as goal

pub returns-in-ReadFault : goal.returns-in-ReadFault
returns-in-ReadFault g c =
    subst (λ (text : List ℕ). Wrote g.E.Sink.written g.E.Sink.faults g.E.Sink.rest c.args.notes.now c.put_fault.new.notes text c.put_fault.result)
    (ap (λ (name : List ℕ). name ++ codes ": read fault\n") c.as_bytes-in-ReadFault.ensures.value ∙ sym (ap stop_text c.in-ReadFault.is)) c.put_fault.ensures

pub returns-in-WriteFault : goal.returns-in-WriteFault
returns-in-WriteFault g c =
    subst (λ (text : List ℕ). Wrote g.E.Sink.written g.E.Sink.faults g.E.Sink.rest c.args.notes.now c.put_fault-in-WriteFault.new.notes text c.put_fault-in-WriteFault.result)
    (ap (λ (name : List ℕ). name ++ codes ": write fault\n") c.as_bytes-in-WriteFault.ensures.value ∙ sym (ap stop_text c.in-WriteFault.is))
    c.put_fault-in-WriteFault.ensures
