use Rattle.std.proofs.Common.{[], ◌∙◌}
use Rattle.gathered_text.proofs.Compose.{gather_cut, gather_then, gather_put}
use Rattle.gathered_text.proofs.gather.put_bytes.Goals as goal

pub returns-in_err-make_room : goal.returns-in_err-make_room
returns-in_err-make_room g c = gather_cut [] c.args.bytes.now c.from_residual.ensures.0 c.in_err-make_room.ensures.text

pub returns-in_err-flush : goal.returns-in_err-flush
returns-in_err-flush g c = gather_cut [] c.args.bytes.now c.from_residual-in_err-flush.ensures.0 c.in_err-flush.ensures.kept

pub returns : goal.returns
returns g c = gather_then [] c.args.bytes.now c.in_ok-flush.ensures.kept (gather_put c.args.bytes.now c.in_ok-flush.ensures.empty (c.pass.ensures ∙ c.in_ok-flush.ensures.empty) c.put.ensures)
