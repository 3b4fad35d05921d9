use Rattle.std.proofs.Common.{◌≡◌, ℕ, ◌+◌, ◌*◌, ◌-◌, ◌/◌, ◌%◌, ◌++◌, ◌<◌, ◌≤◌, List, Option, option_map, All, length, get_or, sym, ap, ◌∙◌, subst, arith}
use Rattle.std.specs.List.{flat_map}
use Rattle.frame_pool.specs.ChainView.{HasPage}
use Rattle.frame_pool.specs.declared.frame.FrameId.{FrameId}
use Rattle.lane_kernels.specs.Bitmap.{set_bits}
use Rattle.accumulator_pages.specs.Adding.{crossed}
use Rattle.accumulator_pages.specs.Pages.{frame_of_entry, own_view, pages_scores}
use Rattle.accumulator_pages.proofs.Bits.{bit_of_number_there}
use Rattle.accumulator_pages.proofs.Halves.{AreSlots, half_rose, near_fewer, near_rose, noted_by_near, row_inside, slots_rose}
use Rattle.accumulator_pages.proofs.Standing.{length-values, value-none}
use Rattle.accumulator_pages.proofs.pages.Pages.note_bits.Goals as goal
use Rattle.accumulator_pages.proofs.pages.Pages.note_bits.Goals.{After-scores_of-slots, In-Some}

pub known_frame-requires : goal.known_frame-requires
known_frame-requires c =
    omega (arith, row_inside c.args.row c.args.self.now.docs c.args.bits.now c.requires.bits c.requires.some c.requires.inside, c.requires.stands.here.fields.table.covers)

-- a page without a frame has no document with a score
pub returns-in_default-clause-docs : goal.returns-in_default-clause-docs
returns-in_default-clause-docs c =
    let there = bit_of_number_there (128 * c.args.row) c.args.bits.now 0 c.requires.some in
    let d : ℕ = get_or (set_bits (128 * c.args.row) c.args.bits.now) 0 0 in
    let page : d / 256 ≡ c.args.row / 2 = omega (arith, there.1, there.2, c.requires.bits) in
    let none : get_or (pages_scores c.args.self.now c.args.pool.now) d 0 ≡ 0 =
    value-none (λ x. x.scores) c.args.self.now.docs (own_view c.args.self.now c.args.pool.now) d (c.requires.inside 0 0 c.requires.some)
    (c.requires.stands.here.fields.table.entries (d / 256)
    (omega (arith, page, row_inside c.args.row c.args.self.now.docs c.args.bits.now c.requires.bits c.requires.some c.requires.inside, c.requires.stands.here.fields.table.covers))
    ∙ ap (λ (p : ℕ). frame_of_entry (get_or c.args.self.now.table p 0)) page
    ∙ sym c.known_frame.ensures ∙ ap (λ (o : Option FrameId). option_map (λ (f : FrameId). f.number) o) c.in_default.is) in
    absurd (omega (arith, c.requires.rose 0 0 c.requires.some, none, c.requires.weight))

has : (c : In-Some) → HasPage (own_view c.args.self.now c.args.pool.now) (c.args.row / 2) c.in-Some.frame.number
has c = c.requires.stands.here.fields.table.entries (c.args.row / 2)
    (omega (arith, row_inside c.args.row c.args.self.now.docs c.args.bits.now c.requires.bits c.requires.some c.requires.inside, c.requires.stands.here.fields.table.covers))
    ∙ sym c.known_frame.ensures ∙ ap (λ (o : Option FrameId). option_map (λ (f : FrameId). f.number) o) c.in-Some.is

within : (c : In-Some) → All (λ d. d < length (pages_scores c.args.self.now c.args.pool.now)) (set_bits (128 * c.args.row) c.args.bits.now)
within c k d inside = omega (arith, length-values (λ x. x.scores) c.args.self.now.docs (own_view c.args.self.now c.args.pool.now), c.requires.inside k d inside)

-- the slots that the page's frame lends
are : (c : After-scores_of-slots) → HasPage (own_view c.args.self.now c.args.pool.now) (c.args.row / 2) c.in-Some.frame.number
    → AreSlots c.scores_of-slots.result.now (pages_scores c.args.self.now c.args.pool.now) (c.args.row / 2)
are c page slot small inside =
    c.scores_of-slots.ensures.documents c.args.self.now.chain (c.args.row / 2) c.args.self.now.docs slot page small
    (omega (arith, inside, length-values (λ x. x.scores) c.args.self.now.docs (own_view c.args.self.now c.args.pool.now)))

-- how many of them the bits are for, as the code counts them
abbrev count : (c : After-scores_of-slots) → ℕ
count c = 128 * (c.args.row % 2) + 8 * length c.args.bits.now - 128 * (c.args.row % 2)

pub scores_of-slots-requires : goal.scores_of-slots-requires
scores_of-slots-requires c = (c.args.self.now.chain, c.args.row / 2, has c)

pub near_bits-near-requires-clause-rose : goal.near_bits-near-requires-clause-rose
near_bits-near-requires-clause-rose c =
    let at = goal.at.near_bits-near-requires-clause-rose c in
    half_rose c.args.w c.args.row (count at.After-scores_of-slots) c.args.bits.now (pages_scores c.args.self.now c.args.pool.now) c.scores_of-slots.result.now c.requires.bits (omega arith)
    (are at.After-scores_of-slots (has at.In-Some)) (within at.In-Some) c.requires.rose

pub note_slots-requires-clause-room : goal.note_slots-requires-clause-room
note_slots-requires-clause-room c = omega (
  arith,
  c.requires.room,
  ap (λ (docs : List ℕ). length docs) c.bits_to_docs-count.ensures.front,
  near_fewer c.args.w c.args.row (count (goal.at.note_slots-requires-clause-room c).After-scores_of-slots) c.args.last.score c.args.bits.now c.near_bits-near.result
      c.scores_of-slots.result.now c.requires.bits (omega (arith, c.near_bits-near.type_inv)) (omega arith) c.near_bits-near.ensures,
)

pub note_slots-requires-clause-rose : goal.note_slots-requires-clause-rose
note_slots-requires-clause-rose c =
    let at = goal.at.note_slots-requires-clause-rose c in
    let lent : List ℕ = c.scores_of-slots.result.now in
    subst (All (λ d. c.args.w ≤ get_or lent (d % 256) 0)) (sym c.bits_to_docs-count.ensures.front)
    (near_rose c.args.w c.args.row (count at.After-scores_of-slots) c.args.last.score c.args.bits.now c.near_bits-near.result lent c.requires.bits
    (omega (arith, c.near_bits-near.type_inv)) (omega arith) c.near_bits-near.ensures
    (slots_rose c.args.w c.args.row c.args.bits.now (pages_scores c.args.self.now c.args.pool.now) lent c.requires.bits (are at.After-scores_of-slots (has at.In-Some)) (within at.In-Some) c.requires.rose))

pub returns-clause-docs : goal.returns-clause-docs
returns-clause-docs c =
    let at = goal.at.returns-clause-docs c in
    let lent : List ℕ = c.scores_of-slots.result.now in
    c.note_slots.ensures.docs
    ∙ ap (λ (docs : List ℕ). c.args.reached.now.docs ++ flat_map (λ d. crossed d (get_or lent (d % 256) 0 - c.args.w) (get_or lent (d % 256) 0) c.args.last) docs) c.bits_to_docs-count.ensures.front
    ∙ ap (λ (docs : List ℕ). c.args.reached.now.docs ++ docs)
    (noted_by_near c.args.w c.args.row (count at.After-scores_of-slots) c.args.last c.args.bits.now c.near_bits-near.result (pages_scores c.args.self.now c.args.pool.now) lent c.requires.bits
    (omega (arith, c.near_bits-near.type_inv)) (omega arith) c.near_bits-near.ensures (are at.After-scores_of-slots (has at.In-Some)) (within at.In-Some))
