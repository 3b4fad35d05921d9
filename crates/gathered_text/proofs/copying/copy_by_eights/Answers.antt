use Rattle.gathered_text.proofs.Moves.{by_eights}
use Rattle.gathered_text.proofs.copying.copy_by_eights.Goals as goal

pub returns : goal.returns
returns c = by_eights c.args.from.now c.args.to.now c.requires.sizes c.min-second.result c.min-third.result c.requires.some c.requires.few c.min-second.ensures c.min-third.ensures
