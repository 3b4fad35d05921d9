use Rattle.codec_simple8.proofs.Fours.{pair_behind}
use Rattle.codec_simple8.proofs.rows.behind4.Goals as goal

pub returns : goal.returns
returns c = λ x is. rw is (pair_behind x c.args.width c.from-by.result c.from-by.ensures)
