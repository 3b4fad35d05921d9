use Rattle.std.proofs.Common.{[]}
use Rattle.ciff_write.proofs.Below.{short_varint, gather_cut}
use Rattle.ciff_write.proofs.gather.put_size.Goals as goal

pub returns-in_err-make_room : goal.returns-in_err-make_room
returns-in_err-make_room g c = gather_cut [] (short_varint c.args.size) c.from_residual.ensures.0 c.in_err-make_room.ensures.text
