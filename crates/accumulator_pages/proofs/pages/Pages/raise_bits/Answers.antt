use Rattle.std.proofs.Common.{◌≡◌, ℕ, ◌*◌, ◌+◌, ◌-◌, ◌/◌, ◌%◌, List, length, get_or, sym, ap, ◌∙◌, subst, arith, rules}
use borrow.Rule.Slice.PartMut.{put_mid}
use Rattle.frame_pool.specs.ChainView.{with_page}
use Rattle.frame_pool.specs.Pool.{with_frame_scores}
use Rattle.accumulator_pages.specs.Adding.{added}
use Rattle.accumulator_pages.specs.Pages.{HasTouched, own_view, pages_scores}
use Rattle.accumulator_pages.proofs.Halves.{AreSlots, half_fits, half_not_near, half_raised, row_inside, used_by_bits}
use Rattle.accumulator_pages.proofs.Standing.{length-values, table_kept}
use Rattle.lane_kernels.specs.Bitmap.{set_bits}
use Rattle.accumulator_pages.proofs.pages.Pages.raise_bits.Goals as goal

pub frame_of-frame-requires-clause-inside : goal.frame_of-frame-requires-clause-inside
frame_of-frame-requires-clause-inside c =
    omega (arith, row_inside c.args.row c.args.self.now.docs c.args.bits.now c.requires.bits c.requires.some c.requires.inside, c.requires.stands.here.fields.table.covers)

pub add_where-requires-clause-fits : goal.add_where-requires-clause-fits
add_where-requires-clause-fits c =
    let scores : List ℕ = pages_scores c.args.self.now c.args.pool.now in
    let size : length scores ≡ c.args.self.now.docs = length-values (λ x. x.scores) c.args.self.now.docs (own_view c.args.self.now c.args.pool.now) in
    let lent : List ℕ = c.scores_mut-slots.result.now in
    let are : AreSlots lent scores (c.args.row / 2) =
    λ slot small within. c.scores_mut-slots.ensures.documents c.frame_of-frame.new.self.chain (c.args.row / 2) c.frame_of-frame.new.self.docs slot c.frame_of-frame.ensures.has small
    (omega (arith, within, size, c.frame_of-frame.ensures.same.docs))
    ∙ ap (λ (s : List ℕ). get_or s (256 * (c.args.row / 2) + slot) 0) c.frame_of-frame.ensures.scores in
    half_fits c.args.w c.args.row (128 * (c.args.row % 2) + 8 * length c.args.bits.now - 128 * (c.args.row % 2)) c.args.bits.now scores lent c.requires.bits (omega arith) are
    (λ k d inside. omega (arith, size, c.requires.inside k d inside)) (search rules) c.requires.fits

pub returns : goal.returns
returns c =
    let scores : List ℕ = pages_scores c.args.self.now c.args.pool.now in
    let size : length scores ≡ c.args.self.now.docs = length-values (λ x. x.scores) c.args.self.now.docs (own_view c.args.self.now c.args.pool.now) in
    let docs : ℕ = c.frame_of-frame.new.self.docs in let chain : ℕ = c.frame_of-frame.new.self.chain in
    let n : ℕ = 128 * (c.args.row % 2) + 8 * length c.args.bits.now - 128 * (c.args.row % 2) in
    let lent : List ℕ = c.scores_mut-slots.result.now in
    let slots : List ℕ = put_mid (128 * (c.args.row % 2)) n lent c.add_where.new.slots in
    let are : AreSlots lent scores (c.args.row / 2) =
    λ slot small within. c.scores_mut-slots.ensures.documents chain (c.args.row / 2) docs slot c.frame_of-frame.ensures.has small (omega (arith, within, size, c.frame_of-frame.ensures.same.docs))
    ∙ ap (λ (s : List ℕ). get_or s (256 * (c.args.row / 2) + slot) 0) c.frame_of-frame.ensures.scores in
    let after : pages_scores c.frame_of-frame.new.self (with_frame_scores c.frame_of-frame.new.pool c.frame_of-frame.result.number slots) ≡ added c.args.w (set_bits (128 * c.args.row) c.args.bits.now) scores =
    c.scores_mut-slots.ensures.scores slots chain (c.args.row / 2) docs c.frame_of-frame.ensures.has
    ∙ ap (λ (s : List ℕ). with_page (c.args.row / 2) slots s) c.frame_of-frame.ensures.scores
    ∙ half_raised c.args.w c.args.row n c.args.bits.now scores lent c.add_where.new.slots c.requires.bits (omega arith) c.scores_mut-slots.ensures.slots are c.add_where.ensures.slots in
    let fields = c.frame_of-frame.ensures.fields in let keeps = c.scores_mut-slots.ensures.keeps slots chain in
    record {
      scores = after;
      places = c.scores_mut-slots.ensures.places slots chain docs ∙ c.frame_of-frame.ensures.places;
      none_near = half_not_near c.args.w c.args.row n c.args.last c.add_where.result c.args.bits.now scores lent c.add_where.new.slots c.requires.bits (omega arith)
          c.scores_mut-slots.ensures.slots are (λ k d inside. omega (arith, size, c.requires.inside k d inside)) c.add_where.ensures.slots c.add_where.ensures.near;
      frames = search rules;
      stands = record {
        in_use = search rules;
        here = record {
          fields = record { table = table_kept c.frame_of-frame.new.self.table docs _ _ keeps fields.table; frames = fields.frames ∙ sym keeps.count };
          used = λ page inside entry. subst (λ (s : List ℕ). HasTouched s page) (sym after)
              (used_by_bits c.args.self.now.table c.frame_of-frame.new.self.table scores c.args.row c.args.w c.args.bits.now
              (omega (arith, fields.table.covers, c.requires.stands.here.fields.table.covers, c.frame_of-frame.ensures.same.docs)) c.frame_of-frame.ensures.entries
              c.requires.bits c.requires.some (λ k d inside. omega (arith, size, c.requires.inside k d inside)) c.requires.weight c.requires.stands.here.used page inside entry);
        };
      };
      same = search rules;
      leaves = search rules;
    }
