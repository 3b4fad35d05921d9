use Rattle.std.proofs.Common.{◌≡◌, ℕ, ◌<◌, List, length, get_or, refl, sym, ap, ◌∙◌, subst, arith}
use Rattle.frame_pool.specs.Pool.{PoolView, FrameContent, content_of, with_frame_scores, with_scores}
use Rattle.frame_pool.specs.Sound.{IsSound}
use Rattle.frame_pool.proofs.Views.{content_seen, frame_count, sound_pool, sound_view, taken_range}
use Rattle.frame_pool.proofs.ChainViews.{Writes, value-at, write-keeps_frames, write-keeps_values, write-leaves_pool, write-sets_page}
use Rattle.frame_pool.proofs.Rows.{slot-at}
use Rattle.frame_pool.proofs.Slots.{lent-kept, lent-view, lent-writes}
use Rattle.frame_pool.proofs.pool.FramePool.scores_mut.Goals as goal

pub scores_mut-requires : goal.scores_mut-requires
scores_mut-requires c = taken_range _ _ _ _ _ c.self.invariant c.self.view_is c.args.frame.number c.requires

pub invariant_of-self-lent : goal.invariant_of-self-lent
invariant_of-self-lent c w = lent-kept _ _ _ _ c.self.invariant c.args.frame.number w

pub returns : goal.returns
returns c =
    let pool : PoolView = c.args.self.now in let frame : ℕ = c.args.frame.number in
    let sound : IsSound pool = sound_pool _ _ _ _ _ c.self.invariant c.self.view_is in
    let value : c.scores_mut.result.now ≡ (content_of pool frame).scores =
    c.scores_mut.ensures.scores ∙ sym (ap (λ (x : FrameContent). x.scores) (content_seen _ _ pool c.self.view_is frame)) in
    let inside : frame < length pool.frames =
    omega (arith, taken_range _ _ _ _ _ c.self.invariant c.self.view_is frame c.requires, frame_count _ _ pool c.self.view_is) in
    let view : (slots : List ℕ) → _ ≡ with_frame_scores pool frame slots = λ slots. lent-view _ _ pool c.self.view_is frame slots in
    let written : (slots : List ℕ) → Writes pool (with_frame_scores pool frame slots) frame (with_scores (content_of pool frame) slots) =
    λ slots. lent-writes pool frame slots inside in (
      (refl, view),
      record {
        writes_back = tt;
        value = value;
        slots = c.scores_mut.ensures.slots;
        documents = λ chain page docs slot has small within. ap (λ (xs : List ℕ). get_or xs slot 0) value
            ∙ sym (value-at (λ x. x.scores) pool sound chain page frame slot docs has small within);
        scores = λ slots chain page docs has. write-sets_page (λ x. x.scores) pool (with_frame_scores pool frame slots) frame slots (with_scores (content_of pool frame) slots) (written slots) sound
            (slot-at slots) chain page docs has;
        places = λ slots chain docs. write-keeps_values (λ x. x.places) pool (with_frame_scores pool frame slots) frame (with_scores (content_of pool frame) slots) (written slots) refl chain docs;
        keeps = λ slots chain. write-keeps_frames pool (with_frame_scores pool frame slots) frame (with_scores (content_of pool frame) slots) (written slots) chain;
        leaves = λ slots chain page has. write-leaves_pool pool (with_frame_scores pool frame slots) frame (with_scores (content_of pool frame) slots) (written slots) sound chain page has;
        sound = λ slots. subst IsSound (view slots) (sound_view _ _ _ _ (lent-kept _ _ _ _ c.self.invariant frame slots));
      },
    )
