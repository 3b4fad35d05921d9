use Rattle.std.proofs.Common.{◌≡◌, ◌/◌, Option, None, option_map, sym, ap, ◌∙◌, arith}
use Rattle.frame_pool.specs.ChainView.{number_with_page}
use Rattle.frame_pool.specs.declared.frame.FrameId.{FrameId}
use Rattle.accumulator_pages.specs.Pages.{own_view}
use Rattle.accumulator_pages.proofs.Standing.{value-none}
use Rattle.accumulator_pages.proofs.pages.Pages.get.Goals as goal

pub score_in-requires-clause-has : goal.score_in-requires-clause-has
score_in-requires-clause-has c =
    c.requires.stands.here.fields.table.entries (c.args.doc / 256) (omega (arith, c.requires.inside, c.requires.stands.here.fields.table.covers))
    ∙ sym c.known_frame.ensures ∙ ap (λ (o : Option FrameId). option_map (λ (f : FrameId). f.number) o) c.in-Some.is

pub returns-in-None : goal.returns-in-None
returns-in-None c =
    let none : number_with_page (own_view c.args.self.now c.args.pool.now) (c.args.doc / 256) ≡ None =
    c.requires.stands.here.fields.table.entries (c.args.doc / 256) (omega (arith, c.requires.inside, c.requires.stands.here.fields.table.covers))
    ∙ sym c.known_frame.ensures ∙ ap (λ (o : Option FrameId). option_map (λ (f : FrameId). f.number) o) c.in-None.is in
    sym (value-none (λ x. x.scores) c.args.self.now.docs (own_view c.args.self.now c.args.pool.now) c.args.doc c.requires.inside none)
