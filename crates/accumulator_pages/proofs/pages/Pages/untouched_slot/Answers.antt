use Rattle.std.proofs.Common.{◌≡◌, ℕ, ◌*◌, ◌+◌, ◌/◌, ◌==◌, IsNone, subst, Option, option_map, refl, sym, ap, ◌∙◌, arith}
use Rattle.std.proofs.lemmas.List.Quantifiers.{position-Some}
use Rattle.frame_pool.specs.ChainView.{HasPage, number_with_page}
use Rattle.frame_pool.specs.declared.frame.FrameId.{FrameId}
use Rattle.accumulator_pages.specs.Pages.{own_view, pages_scores}
use Rattle.accumulator_pages.proofs.Standing.{value-none}
use Rattle.accumulator_pages.proofs.Untouched.{row_first, row_none}
use Rattle.accumulator_pages.proofs.pages.Pages.untouched_slot.Goals as goal

pub returns-in_default-clause-untouched : goal.returns-in_default-clause-untouched
returns-in_default-clause-untouched c =
    let page : (256 * c.args.page + 0) / 256 ≡ c.args.page = omega arith in
    λ inside. value-none (λ x. x.scores) c.args.self.now.docs (own_view c.args.self.now c.args.pool.now) (256 * c.args.page + 0) inside
    (ap (number_with_page (own_view c.args.self.now c.args.pool.now)) page
    ∙ c.requires.stands.here.fields.table.entries c.args.page c.requires.inside ∙ sym c.known_frame.ensures ∙ ap (λ (o : Option FrameId). option_map (λ (f : FrameId). f.number) o) c.in_default.is)

pub returns-in_err-slot-clause-none : goal.returns-in_err-slot-clause-none
returns-in_err-slot-clause-none c =
    let has : HasPage (own_view c.args.self.now c.args.pool.now) c.args.page c.in-Some.frame.number =
    c.requires.stands.here.fields.table.entries c.args.page c.requires.inside ∙ sym c.known_frame.ensures ∙ ap (λ (o : Option FrameId). option_map (λ (f : FrameId). f.number) o) c.in-Some.is in
    λ _. row_none c.scores_of.result.now (pages_scores c.args.self.now c.args.pool.now) c.args.self.now.docs c.args.page
    (λ i small inside. c.scores_of.ensures.documents c.args.self.now.chain c.args.page c.args.self.now.docs i has small inside) c.scores_of.ensures.slots
    (c.first_zero.ensures.none.0 (subst (λ (o : Option ℕ). IsNone o) (sym c.in_err-slot.was) refl))

pub returns-clause-untouched : goal.returns-clause-untouched
returns-clause-untouched c =
    let has : HasPage (own_view c.args.self.now c.args.pool.now) c.args.page c.in-Some.frame.number =
    c.requires.stands.here.fields.table.entries c.args.page c.requires.inside ∙ sym c.known_frame.ensures ∙ ap (λ (o : Option FrameId). option_map (λ (f : FrameId). f.number) o) c.in-Some.is in
    (row_first c.scores_of.result.now (pages_scores c.args.self.now c.args.pool.now) c.args.self.now.docs c.args.page c.in_ok-slot.slot
    (λ i small inside. c.scores_of.ensures.documents c.args.self.now.chain c.args.page c.args.self.now.docs i has small inside)
    (omega (arith, (position-Some (λ (x : ℕ). x == 0) c.scores_of.result.now c.in_ok-slot.slot 0 (sym c.first_zero.ensures.place ∙ c.in_ok-slot.was)).0, c.scores_of.ensures.slots)) (sym c.in_ok-slot.was ∙ c.first_zero.ensures.place)).0

pub returns-clause-before : goal.returns-clause-before
returns-clause-before c =
    let has : HasPage (own_view c.args.self.now c.args.pool.now) c.args.page c.in-Some.frame.number =
    c.requires.stands.here.fields.table.entries c.args.page c.requires.inside ∙ sym c.known_frame.ensures ∙ ap (λ (o : Option FrameId). option_map (λ (f : FrameId). f.number) o) c.in-Some.is in
    (row_first c.scores_of.result.now (pages_scores c.args.self.now c.args.pool.now) c.args.self.now.docs c.args.page c.in_ok-slot.slot
    (λ i small inside. c.scores_of.ensures.documents c.args.self.now.chain c.args.page c.args.self.now.docs i has small inside)
    (omega (arith, (position-Some (λ (x : ℕ). x == 0) c.scores_of.result.now c.in_ok-slot.slot 0 (sym c.first_zero.ensures.place ∙ c.in_ok-slot.was)).0, c.scores_of.ensures.slots)) (sym c.in_ok-slot.was ∙ c.first_zero.ensures.place)).1
