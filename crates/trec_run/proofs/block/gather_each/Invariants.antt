use Rattle.std.proofs.Common.{◌≡◌, ◌+◌, drop}
use Rattle.ranking_model.specs.Report.{run_lines}
use Rattle.trec_run.specs.Private.Columns.{whole_tag}
use Rattle.gathered_text.proofs.Compose.{GathersUpTo}
use Rattle.trec_run.proofs.block.gather_each.Given as goal

abbrev pub invariant-loop-hit : goal.invariant-loop-hit
invariant-loop-hit g l = record {
  ranked : l.rank ≡ l.fn.first + l.hit-index;
  text : GathersUpTo g.S.Sink.written g.S.Sink.faults g.S.Sink.rest l.fn.out l.out l.fn.buffer l.buffer
      (run_lines (g.N.Names.names l.index) l.shared.id.now (whole_tag l.shared) l.fn.first l.hits)
      (run_lines (g.N.Names.names l.index) l.shared.id.now (whole_tag l.shared) l.rank (drop l.hit-index l.hits));
}
