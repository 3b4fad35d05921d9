use Rattle.std.proofs.Common.{◌≡◌, ℕ, List, get_or, sym, ap, ◌∙◌, arith}
use Rattle.frame_pool.specs.Pool.{FrameContent, content_of}
use Rattle.frame_pool.proofs.Views.{content_seen, taken_range, sound_pool}
use Rattle.frame_pool.proofs.ChainViews.{value-at}
use Rattle.frame_pool.proofs.pool.FramePool.score.Goals as goal

pub scores-requires : goal.scores-requires
scores-requires c = taken_range _ _ _ _ _ c.self.invariant c.self.view_is c.args.frame.number c.requires

pub returns : goal.returns
returns c =
    let value : get_or c.scores.result.now c.args.slot 0 ≡ get_or (content_of c.args.self.now c.args.frame.number).scores c.args.slot 0 =
    ap (λ (xs : List ℕ). get_or xs c.args.slot 0) c.scores.ensures ∙ sym (ap (λ (x : FrameContent). get_or x.scores c.args.slot 0) (content_seen _ _ c.args.self.now c.self.view_is c.args.frame.number)) in
    record {
      score = value;
      document = λ chain page docs has inside. value ∙ sym (value-at (λ x. x.scores) c.args.self.now (sound_pool _ _ _ _ _ c.self.invariant c.self.view_is) chain page c.args.frame.number c.args.slot docs has (omega arith) inside);
    }
