use Rattle.std.proofs.Common.{[], ◌++◌}
use Rattle.ciff_write.proofs.Below.{short_varint, sized, number_spelling, gather_cut}
use Rattle.ciff_write.proofs.postings_list.put_posting.Goals as goal

pub returns-in_err-make_room : goal.returns-in_err-make_room
returns-in_err-make_room g c = gather_cut [] (short_varint 34 ++ sized (number_spelling 1 c.args.gap ++ number_spelling 2 c.args.tf)) c.from_residual.ensures.0 c.in_err-make_room.ensures.text
