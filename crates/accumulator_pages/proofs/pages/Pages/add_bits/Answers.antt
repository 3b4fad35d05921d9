use Rattle.shared_lemmas.proofs.Common.{ℕ, ◌*◌, ◌++◌, ◌/◌, List, length, sym, ap, ◌∙◌, arith}
use Rattle.lane_kernels.specs.Bitmap.{set_bits}
use Rattle.accumulator_pages.specs.Pages.{own_view, pages_scores}
use Rattle.accumulator_pages.proofs.Bits.{raised-by_new}
use Rattle.accumulator_pages.proofs.Halves.{rose, row_inside}
use Rattle.accumulator_pages.proofs.Standing.{has_room, length-values}
use Rattle.accumulator_pages.proofs.pages.Pages.add_bits.Goals as goal

pub raise_bits-near-requires-clause-frame : goal.raise_bits-near-requires-clause-frame
raise_bits-near-requires-clause-frame c =
    let table = c.requires.stands.here.fields.table in
    let some = c.any_set.ensures.some c.if-not-any_set.false (128 * c.args.row) in
    has_room c.args.self.now.table c.args.self.now.docs (own_view c.args.self.now c.args.pool.now) (c.args.row / 2) (length (set_bits (128 * c.args.row) c.args.bits.now)) table
    (omega (arith, row_inside c.args.row c.args.self.now.docs c.args.bits.now c.requires.bits some c.requires.inside, table.covers)) some c.requires.frames

pub note_bits-requires-clause-rose : goal.note_bits-requires-clause-rose
note_bits-requires-clause-rose c =
    let size = length-values (λ x. x.scores) c.args.self.now.docs (own_view c.args.self.now c.args.pool.now) in
    rose c.args.w (128 * c.args.row) c.args.bits.now (pages_scores c.args.self.now c.args.pool.now) (pages_scores c.raise_bits-near.new.self c.raise_bits-near.new.pool)
    (λ k d inside. omega (arith, size, c.requires.inside k d inside)) c.raise_bits-near.ensures.scores

pub returns-then-near-clause-reached : goal.returns-then-near-clause-reached
returns-then-near-clause-reached c =
    let size = length-values (λ x. x.scores) c.args.self.now.docs (own_view c.args.self.now c.args.pool.now) in
    c.note_bits.ensures.docs ∙ ap (λ (docs : List ℕ). c.args.reached.now.docs ++ docs)
    (sym (raised-by_new c.args.w (128 * c.args.row) c.args.last c.args.bits.now (pages_scores c.args.self.now c.args.pool.now)
    (pages_scores c.raise_bits-near.new.self c.raise_bits-near.new.pool) (λ k d inside. omega (arith, size, c.requires.inside k d inside)) c.raise_bits-near.ensures.scores))
