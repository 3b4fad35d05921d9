use Rattle.std.proofs.Common.{[], ◌∷◌, ◌+◌, ◌*◌}
use Rattle.ciff_write.proofs.Below.{short_varint, gather_cut}
use Rattle.ciff_write.proofs.gather.put_text_head.Goals as goal

pub returns-in_err-make_room : goal.returns-in_err-make_room
returns-in_err-make_room g c = gather_cut [] ((c.args.field * 8 + 2) ∷ short_varint c.args.len) c.from_residual.ensures.0 c.in_err-make_room.ensures.text
