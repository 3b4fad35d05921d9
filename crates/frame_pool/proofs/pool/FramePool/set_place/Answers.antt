use Rattle.std.proofs.Common.{◌≡◌, ℕ, length, get_or, set, refl, sym, ap, ◌∙◌, arith, length-set}
use Rattle.frame_pool.specs.Frames.{Frame}
use Rattle.frame_pool.specs.Pool.{PoolView, FrameContent, content_of, with_place}
use Rattle.frame_pool.specs.Sound.{IsSound}
use Rattle.frame_pool.specs.Links.{blank, frame_content, view_of}
use Rattle.frame_pool.proofs.Views.{content_seen, taken_range, sound_view, sound_pool}
use Rattle.frame_pool.proofs.ChainViews.{Writes, write-keeps_values, write-sets_value, write-keeps_frames, write-leaves_pool}
use Rattle.frame_pool.proofs.Slots.{writes, written-kept}
use Rattle.frame_pool.proofs.pool.FramePool.set_place.Goals as goal

pub set_place-requires : goal.set_place-requires
set_place-requires c = taken_range _ _ _ _ _ c.self.invariant c.self.view_is c.args.frame.number c.requires

pub invariant_of-self : goal.invariant_of-self
invariant_of-self c =
    let was : Frame = get_or c.self.inside.frames c.args.frame.number blank in
    let new : Frame = record was { places = set was.places c.args.slot c.args.place } in
    written-kept _ _ _ _ _ c.self.invariant c.args.frame.number new c.set_place.ensures refl refl refl (length-set was.places c.args.slot c.args.place)

pub returns : goal.returns
returns c =
    let was : Frame = get_or c.self.inside.frames c.args.frame.number blank in
    let new : Frame = record was { places = set was.places c.args.slot c.args.place } in
    let pool : PoolView = c.args.self.now in let frame : ℕ = c.args.frame.number in
    let pool' : PoolView = view_of c.set_place.new.self c.self.inside.leases.items in
    let written : Writes pool pool' frame (frame_content new) =
    writes _ _ _ _ _ _ c.self.invariant c.self.view_is frame new c.requires c.set_place.ensures refl refl in
    let is : content_of pool frame ≡ frame_content was = content_seen _ _ pool c.self.view_is frame in
    let sound : IsSound pool = sound_pool _ _ _ _ _ c.self.invariant c.self.view_is in
    let slots : length (content_of pool frame).places ≡ 256 = sound.place_slots frame in
    record {
      frames = written.frames ∙ ap (λ (x : FrameContent). set pool.frames frame (with_place x c.args.slot c.args.place)) (sym is);
      chains = written.chains;
      places = λ chain page docs has. write-sets_value (λ x. x.places) pool pool' frame c.args.slot c.args.place (frame_content new) written sound
          (ap (λ (x : FrameContent). set x.places c.args.slot c.args.place) (sym is)) (omega arith) (omega arith) chain page docs has;
      scores = λ chain docs. write-keeps_values (λ x. x.scores) pool pool' frame (frame_content new) written (ap (λ (x : FrameContent). x.scores) (sym is)) chain docs;
      keeps = λ chain. write-keeps_frames pool pool' frame (frame_content new) written chain;
      leaves = λ chain page has. write-leaves_pool pool pool' frame (frame_content new) written sound chain page has;
      sound = sound_view _ _ _ _ (written-kept _ _ _ _ _ c.self.invariant c.args.frame.number new c.set_place.ensures refl refl refl (length-set was.places c.args.slot c.args.place));
    }
