use Rattle.std.proofs.Common.{◌≡◌, ◌<◌, length, get_or, set, ap, ◌∙◌, subst, sym, arith}
use Rattle.frame_pool.specs.ChainView.{ChainView}
use Rattle.accumulator_pages.specs.Pages.{TableStands, TellsChain, no_frame, own_view}
use Rattle.accumulator_pages.specs.View.{PagesView}
use Rattle.accumulator_pages.proofs.Standing.{frame_taken}
use Rattle.accumulator_pages.proofs.pages.Pages.take_frame.Goals as goal

pub overflow_add-self : goal.overflow_add-self
overflow_add-self c = omega (
  arith,
  ap (λ (p : PagesView). p.frames) c.self.view_is,
  ap (λ (p : PagesView). p.docs) c.self.view_is,
  c.requires.fields.frames,
  c.requires.fields.table.frames,
  c.requires.fields.table.covers,
  c.self.invariant,
)

pub returns-clause-fields : goal.returns-clause-fields
returns-clause-fields c =
    let was = subst (λ (p : PagesView). TellsChain p (own_view p c.args.pool.now)) (sym c.self.view_is) c.requires.fields in
    let vacant : get_or c.self.inside.table.items c.args.page 0 ≡ no_frame = ap (λ (p : PagesView). get_or p.table c.args.page 0) c.self.view_is ∙ c.requires.vacant in
    let inside : c.args.page < length c.self.inside.table.items = omega (arith, ap (λ (p : PagesView). length p.table) c.self.view_is, c.requires.inside) in
    record {
      table = subst (TableStands (set c.self.inside.table.items c.args.page c.take-frame.result.number) c.self.inside.docs) (sym c.take-frame.ensures.view)
          (frame_taken c.self.inside.table.items c.self.inside.docs _ c.args.page c.take-frame.result.number was.table inside vacant c.take-frame.ensures.small);
      frames = omega (arith, was.frames, ap (λ (v : ChainView). length v.frames) c.take-frame.ensures.view);
    }
