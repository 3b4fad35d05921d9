use Rattle.std.proofs.Common.{◌∙◌, ap}
use Rattle.accumulator_pages.specs.Pages.{own_view}
use Rattle.accumulator_pages.specs.View.{PagesView}
use Rattle.accumulator_pages.proofs.Standing.{frames_are_pages}
use Rattle.accumulator_pages.proofs.pages.Pages.frames.Goals as goal

pub returns-clause-pages : goal.returns-clause-pages
returns-clause-pages c =
    λ pool stands. ap (λ (p : PagesView). p.frames) c.self.view_is ∙ frames_are_pages c.args.self.now.table c.args.self.now.docs c.args.self.now.frames (own_view c.args.self.now pool) stands.here.fields.table stands.here.fields.frames stands.here.used
