use Rattle.std.proofs.Common.{arith}
use Rattle.frame_pool.proofs.Views.{sound_view}
use Rattle.frame_pool.proofs.Takes.{took-room, took-at, takes-view, takes-leaves, takes-values, takes-in_use, takes-has}
use Rattle.shared_lemmas.proofs.Places.{same_there}
use Rattle.frame_pool.proofs.pool.FramePool.take.Goals as goal

pub next-self-inside-requires : goal.next-self-inside-requires
next-self-inside-requires c = (took-room _ _ _ _ _ c.self.invariant c.self.view_is _ _ _ _ c.chain.view_is c.requires.own c.index.ensures c.in-Some.is c.requires.room).0

pub clear-requires : goal.clear-requires
clear-requires c = (took-room _ _ _ _ _ c.self.invariant c.self.view_is _ _ _ _ c.chain.view_is c.requires.own c.index.ensures c.in-Some.is c.requires.room).0

pub with_frame-requires : goal.with_frame-requires
with_frame-requires c =
    (took-room _ _ _ _ _ c.self.invariant c.self.view_is _ _ _ _ c.chain.view_is c.requires.own c.index.ensures c.in-Some.is c.requires.room).1

pub invariant_of-self : goal.invariant_of-self
invariant_of-self c =
    (took-at _ _ _ _ _ c.self.invariant c.self.view_is _ _ _ _ _ _ _ _ c.chain.view_is c.requires.own c.index.ensures c.in-Some.is c.requires.room c.requires.new_page
    c.next-self-inside.ensures c.clear.ensures c.with_frame.ensures).0

pub returns : goal.returns
returns c =
    let took = took-at _ _ _ _ _ c.self.invariant c.self.view_is _ _ _ _ _ _ _ _ c.chain.view_is c.requires.own c.index.ensures c.in-Some.is c.requires.room c.requires.new_page
    c.next-self-inside.ensures c.clear.ensures c.with_frame.ensures in
    let takes = took.1 in
    record {
      free = takes.free;
      small = omega (arith, (took-room _ _ _ _ _ c.self.invariant c.self.view_is _ _ _ _ c.chain.view_is c.requires.own c.index.ensures c.in-Some.is c.requires.room).0, c.self.invariant.lists.small);
      frames = takes.frames;
      chains = takes.chains;
      has = takes-has _ _ _ _ _ takes;
      in_use = takes-in_use _ _ _ _ _ takes;
      view = takes-view _ _ _ _ _ takes;
      scores = takes-values (λ x. x.scores) _ _ _ _ _ takes (same_there 0 256) c.requires.new_page;
      places = takes-values (λ x. x.places) _ _ _ _ _ takes (same_there 0 256) c.requires.new_page;
      leaves = takes-leaves _ _ _ _ _ takes c.requires.own;
      sound = sound_view _ _ _ _ took.0;
    }
