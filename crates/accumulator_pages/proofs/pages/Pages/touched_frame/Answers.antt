use Rattle.std.proofs.Common.{◌∙◌, ◌/◌, ap, get_or}
use Rattle.accumulator_pages.specs.Pages.{own_view}
use Rattle.accumulator_pages.specs.View.{PagesView}
use Rattle.accumulator_pages.proofs.Standing.{held_page}
use Rattle.accumulator_pages.proofs.pages.Pages.touched_frame.Goals as goal

pub returns : goal.returns
returns c =
    λ pool stands touched. held_page c.args.self.now.table c.args.self.now.docs (own_view c.args.self.now pool) c.args.doc c.index.result.now stands.here.fields.table c.requires
    (c.index.ensures ∙ ap (λ (p : PagesView). get_or p.table (c.args.doc / 256) c.index.result.now) c.self.view_is) touched
