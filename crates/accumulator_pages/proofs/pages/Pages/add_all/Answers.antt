use Rattle.shared_lemmas.proofs.Common.{ℕ, ◌+◌, ◌-◌, ◌<◌, ◌/◌, List, length, get_or, set, ap, ◌∙◌, refl, sym, subst, arith, length-append, All-get_or}
use Rattle.frame_pool.specs.ChainView.{LeavesPool, chain_view}
use Rattle.accumulator_pages.specs.Adding.{added, crossed}
use Rattle.accumulator_pages.specs.Pages.{HasRoomFor, own_view, pages_scores}
use Rattle.accumulator_pages.proofs.Adding.{few_crossed, fits, next, next_noted}
use Rattle.accumulator_pages.proofs.Standing.{has_room, length-values, room_left}
use Rattle.accumulator_pages.proofs.pages.Pages.add_all.Goals as goal

pub add-score-requires-clause-fits : goal.add-score-requires-clause-fits
add-score-requires-clause-fits c =
    fits c.args.w c.args.docs.now (pages_scores c.loop-doc.self c.loop-doc.pool) (added c.args.w c.args.docs.now (pages_scores c.args.self.now c.args.pool.now))
    c.loop-doc.doc-index _ c.args.self.now.docs (omega (arith, c.loop-doc-test.true)) refl
    (length-values (λ x. x.scores) c.loop-doc.self.docs (own_view c.loop-doc.self c.loop-doc.pool) ∙ c.loop-doc.invariant.same.docs)
    (All-get_or (λ d. d < c.args.self.now.docs) c.args.docs.now c.loop-doc.doc-index 0 (omega (arith, c.loop-doc-test.true)) c.requires.inside)
    c.requires.fits c.loop-doc.invariant.left

pub add-score-requires-clause-frame : goal.add-score-requires-clause-frame
add-score-requires-clause-frame c =
    let d : ℕ = get_or c.args.docs.now c.loop-doc.doc-index 0 in let table = c.loop-doc.invariant.stands.here.fields.table in
    let inside : d < c.args.self.now.docs = All-get_or (λ d. d < c.args.self.now.docs) c.args.docs.now c.loop-doc.doc-index 0 (omega (arith, c.loop-doc-test.true)) c.requires.inside in
    has_room c.loop-doc.self.table c.loop-doc.self.docs (own_view c.loop-doc.self c.loop-doc.pool) (d / 256) (length c.args.docs.now - c.loop-doc.doc-index) table
    (omega (arith, inside, table.covers, c.loop-doc.invariant.same.docs)) (omega (arith, c.loop-doc-test.true))
    (subst (λ (n : ℕ). HasRoomFor (own_view c.loop-doc.self c.loop-doc.pool) n (length c.args.docs.now - c.loop-doc.doc-index)) (sym c.loop-doc.invariant.same.docs) c.loop-doc.invariant.promise)

pub loop-doc-preserved : goal.loop-doc-preserved
loop-doc-preserved c =
    let inside : c.loop-doc.doc-index < length c.args.docs.now = omega (arith, c.loop-doc-test.true) in
    let d : ℕ = get_or c.args.docs.now c.loop-doc.doc-index 0 in
    let score : ℕ = c.add-score.result in
    record {
      stands = c.add-score.ensures.stands;
      same = record { chain = c.add-score.ensures.same.chain ∙ c.loop-doc.invariant.same.chain; docs = c.add-score.ensures.same.docs ∙ c.loop-doc.invariant.same.docs; room = c.add-score.ensures.same.room ∙ c.loop-doc.invariant.same.room };
      left = next c.args.w c.args.docs.now (pages_scores c.loop-doc.self c.loop-doc.pool) (pages_scores c.add-score.new.self c.add-score.new.pool) _ c.loop-doc.doc-index d
          inside refl (c.add-score.ensures.scores ∙ ap (λ (v : ℕ). set (pages_scores c.loop-doc.self c.loop-doc.pool) d v) c.add-score.ensures.score) c.loop-doc.invariant.left;
      noted = next_noted c.args.w c.args.last c.args.docs.now (pages_scores c.loop-doc.self c.loop-doc.pool) (pages_scores c.add-score.new.self c.add-score.new.pool)
          c.loop-doc.reached.docs c.note.new.self.docs _ c.loop-doc.doc-index d score
          inside refl c.add-score.ensures.score c.add-score.ensures.scores c.note.ensures.docs c.loop-doc.invariant.noted;
      few = omega (
        arith,
        c.loop-doc.invariant.few,
        ap (λ (xs : List ℕ). length xs) c.note.ensures.docs,
        length-append c.loop-doc.reached.docs (crossed d (score - c.args.w) score c.args.last),
        few_crossed d (score - c.args.w) score c.args.last,
      );
      room = c.note.ensures.room ∙ c.loop-doc.invariant.room;
      places = c.add-score.ensures.places ∙ c.loop-doc.invariant.places;
      frames = omega (arith, c.add-score.ensures.frames, c.loop-doc.invariant.frames);
      promise = room_left c.args.self.now.docs _ _ (length c.args.docs.now - c.loop-doc.doc-index) (length c.args.docs.now - (c.loop-doc.doc-index + 1)) _ _
          c.loop-doc.invariant.promise (omega (arith, c.add-score.ensures.frames, inside))
          (ap (λ (x : ℕ). (chain_view c.add-score.new.pool x).promise) c.add-score.ensures.same.chain ∙ c.add-score.ensures.leaves.promise);
      leaves = c.calls_on_one_chain.ensures.two _ _ _ _ c.loop-doc.invariant.leaves
          (subst (λ x. LeavesPool c.loop-doc.pool c.add-score.new.pool x) c.loop-doc.invariant.same.chain c.add-score.ensures.leaves);
    }
