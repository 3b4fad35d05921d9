use Rattle.std.proofs.Common.{Option}
use Rattle.jass_base.specs.Outside.{Files}
use Rattle.ciff_read.proofs.Advancing.{told_stands}
use Rattle.ciff_read.proofs.ciff_walk.CiffWalk.next_piece.Goals as goal

pub returns-in-Ok-clause-stands : goal.returns-in-Ok-clause-stands
returns-in-Ok-clause-stands g c =
    let told : Option Files = g.C.Cabinet.told c.args.files.now in
    let e = c.in-Ok.ensures in
    told_stands told c.args.self.now c.read_piece.new.self e.over e.leaves.name e.leaves.answered c.requires.stands c.in-Ok.piece e.told
