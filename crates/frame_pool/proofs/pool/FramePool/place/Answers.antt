use Rattle.std.proofs.Common.{◌≡◌, get_or, sym, ap, ◌∙◌, arith}
use Rattle.frame_pool.specs.Pool.{FrameContent, content_of}
use Rattle.frame_pool.proofs.Views.{content_seen, taken_range, sound_pool}
use Rattle.frame_pool.proofs.ChainViews.{value-at}
use Rattle.frame_pool.proofs.pool.FramePool.place.Goals as goal

pub place-requires : goal.place-requires
place-requires c = taken_range _ _ _ _ _ c.self.invariant c.self.view_is c.args.frame.number c.requires

pub returns : goal.returns
returns c =
    let value : c.place.result ≡ get_or (content_of c.args.self.now c.args.frame.number).places c.args.slot 0 =
    c.place.ensures ∙ sym (ap (λ (x : FrameContent). get_or x.places c.args.slot 0) (content_seen _ _ c.args.self.now c.self.view_is c.args.frame.number)) in
    record {
      place = value;
      document = λ chain page docs has inside. value ∙ sym (value-at (λ x. x.places) c.args.self.now (sound_pool _ _ _ _ _ c.self.invariant c.self.view_is) chain page c.args.frame.number c.args.slot docs has (omega arith) inside);
    }
