use Rattle.std.proofs.Common.{◌*◌, ◌+◌, ◌/◌, ◌%◌, refl, arith}
use Rattle.accumulator_pages.specs.Pages.{pages_places}
use Rattle.accumulator_pages.proofs.Adding.{place, read_score}
use Rattle.accumulator_pages.proofs.pages.Pages.heap_place.Goals as goal

pub returns : goal.returns
returns c =
    read_score (pages_places c.args.self.now c.args.pool.now) (pages_places c.args.self.now c.args.pool.now) (256 * (c.args.doc / 256) + c.args.doc % 256) c.args.doc c.place.result refl (place c.args.doc)
    (c.place.ensures.document c.args.self.now.chain (c.args.doc / 256) c.args.self.now.docs (c.touched_frame-frame.ensures c.args.pool.now c.requires.stands c.requires.touched)
    (omega (arith, place c.args.doc, c.requires.inside)))
