use Rattle.shared_lemmas.proofs.Common.{◌≡◌, ℕ, ◌*◌, List, take, ap, arith, length, ◌∙◌}
use Rattle.accumulator_pages.specs.Adding.{page_count}
use Rattle.session_engine.proofs.Below.{set_bits}
use Rattle.session_engine.proofs.marks.MasksMarks.mark_piece.Goals as goal

pub returns-in-Block-clause-places : goal.returns-in-Block-clause-places
returns-in-Block-clause-places c = λ other has.
    let long : length c.mark_all.new.self.masks ≡ length c.args.self.now.masks = ap (λ (l : List ℕ). length l) c.mark_all.ensures.masks ∙ c.each_posting_marks_its_document.ensures.length c.args.place (take c.in-Block.count c.args.block.now) c.args.self.now.masks in
    let pages = ap page_count long in
    (has.0, omega (arith, pages, c.mark_all.ensures.frames, has.1))

pub returns-in-Block-clause-docs : goal.returns-in-Block-clause-docs
returns-in-Block-clause-docs c = λ other inside.
    let long : length c.mark_all.new.self.masks ≡ length c.args.self.now.masks = ap (λ (l : List ℕ). length l) c.mark_all.ensures.masks ∙ c.each_posting_marks_its_document.ensures.length c.args.place (take c.in-Block.count c.args.block.now) c.args.self.now.masks in
    omega (arith, long, inside)

pub returns-in-Bits-clause-places : goal.returns-in-Bits-clause-places
returns-in-Bits-clause-places c = λ other has.
    let long : length c.mark_bits.new.masks.masks ≡ length c.args.self.now.masks = ap (λ (l : List ℕ). length l) c.mark_bits.ensures.masks ∙ c.each_posting_marks_its_document.ensures.length c.args.place (set_bits (128 * c.in-Bits.row) c.in-Bits.bits.now) c.args.self.now.masks in
    let pages = ap page_count long in
    (has.0, omega (arith, pages, c.mark_bits.ensures.frames, has.1))

pub returns-in-Bits-clause-docs : goal.returns-in-Bits-clause-docs
returns-in-Bits-clause-docs c = λ other inside.
    let long : length c.mark_bits.new.masks.masks ≡ length c.args.self.now.masks = ap (λ (l : List ℕ). length l) c.mark_bits.ensures.masks ∙ c.each_posting_marks_its_document.ensures.length c.args.place (set_bits (128 * c.in-Bits.row) c.in-Bits.bits.now) c.args.self.now.masks in
    omega (arith, long, inside)
