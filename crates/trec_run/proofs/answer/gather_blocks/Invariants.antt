use Rattle.std.proofs.Common.{◌≡◌, ◌+◌, ◌<◌, All, IfSome, length}
use Rattle.jass_base.specs.declared.answer.Hit.{Hit}
use Rattle.ranking_model.specs.Report.{run_lines}
use Rattle.trec_run.specs.Private.Columns.{IsFrame, whole_tag}
use Rattle.gathered_text.proofs.Compose.{GathersUpTo}
use Rattle.trec_run.proofs.answer.gather_blocks.Given as goal

abbrev pub invariant-loop-rest : goal.invariant-loop-rest
invariant-loop-rest g l = record {
  docs : All (λ (hit : Hit). hit.doc < length (g.N.Names.names l.index)) l.rest;
  frame : IfSome l.frame (λ frame. IsFrame frame l.shared.id.now (whole_tag l.shared));
  ranked : l.rank + length l.rest ≡ 1 + length l.hits;
  text : GathersUpTo g.S.Sink.written g.S.Sink.faults g.S.Sink.rest l.fn.out l.out l.fn.buffer l.buffer
      (run_lines (g.N.Names.names l.index) l.shared.id.now (whole_tag l.shared) 1 l.hits)
      (run_lines (g.N.Names.names l.index) l.shared.id.now (whole_tag l.shared) l.rank l.rest);
}

abbrev pub decreases-loop-rest : goal.decreases-loop-rest
decreases-loop-rest g l = length l.rest
