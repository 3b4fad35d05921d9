use Rattle.std.proofs.Common.{[]}
use Rattle.ciff_write.proofs.Below.{number_spelling, gather_cut}
use Rattle.ciff_write.proofs.gather.put_number.Goals as goal

pub returns-in_err-make_room : goal.returns-in_err-make_room
returns-in_err-make_room g c = gather_cut [] (number_spelling c.args.field c.args.value) c.from_residual.ensures.0 c.in_err-make_room.ensures.text
