use Rattle.std.proofs.Common.{◌*◌, ◌+◌, ◌/◌, ◌%◌, refl, arith}
use Rattle.accumulator_pages.specs.Pages.{pages_scores}
use Rattle.accumulator_pages.proofs.Adding.{place, read_score}
use Rattle.accumulator_pages.proofs.pages.Pages.score_in.Goals as goal

pub returns : goal.returns
returns c =
    read_score (pages_scores c.args.self.now c.args.pool.now) (pages_scores c.args.self.now c.args.pool.now) (256 * (c.args.doc / 256) + c.args.doc % 256) c.args.doc c.score.result refl (place c.args.doc)
    (c.score.ensures.document c.args.self.now.chain (c.args.doc / 256) c.args.self.now.docs c.requires.has (omega (arith, place c.args.doc, c.requires.inside)))
