use Rattle.std.proofs.Common.{◌≡◌, ℕ, List, length, get_or, sym, ap, ◌∙◌}
use Rattle.frame_pool.specs.Pool.{FrameContent, content_of}
use Rattle.frame_pool.proofs.Views.{content_seen, taken_range, sound_pool}
use Rattle.frame_pool.proofs.ChainViews.{value-at}
use Rattle.frame_pool.proofs.pool.FramePool.scores_of.Goals as goal

pub scores-requires : goal.scores-requires
scores-requires c = taken_range _ _ _ _ _ c.self.invariant c.self.view_is c.args.frame.number c.requires

pub returns : goal.returns
returns c =
    let value : c.scores.result.now ≡ (content_of c.args.self.now c.args.frame.number).scores =
    c.scores.ensures ∙ sym (ap (λ (x : FrameContent). x.scores) (content_seen _ _ c.args.self.now c.self.view_is c.args.frame.number)) in
    record {
      scores = value;
      slots = ap (λ (xs : List ℕ). length xs) value ∙ (sound_pool _ _ _ _ _ c.self.invariant c.self.view_is).score_slots c.args.frame.number;
      documents = λ chain page docs slot has small inside. ap (λ (xs : List ℕ). get_or xs slot 0) value
          ∙ sym (value-at (λ x. x.scores) c.args.self.now (sound_pool _ _ _ _ _ c.self.invariant c.self.view_is) chain page c.args.frame.number slot docs has small inside);
    }
