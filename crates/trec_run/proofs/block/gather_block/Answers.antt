use Rattle.std.proofs.Common.{[]}
use Rattle.ranking_model.specs.Report.{run_lines}
use Rattle.trec_run.specs.Private.Columns.{whole_tag}
use Rattle.gathered_text.proofs.Compose.{gather_cut}
use Rattle.trec_run.proofs.block.gather_block.Goals as goal

pub returns-in_err-make_room-clause-text : goal.returns-in_err-make_room-clause-text
returns-in_err-make_room-clause-text g c =
    gather_cut [] (run_lines (g.N.Names.names c.args.index.now) c.args.shared.now.id.now (whole_tag c.args.shared.now) c.args.first c.args.hits.now) c.from_residual.ensures.0 c.in_err-make_room.ensures.text
