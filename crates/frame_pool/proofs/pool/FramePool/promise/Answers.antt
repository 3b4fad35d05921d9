use Rattle.std.proofs.Common.{◌≤◌, List, Option, sym, ap, ◌∙◌, arith, is_none, position}
use Rattle.frame_pool.specs.declared.lease.Lease.{Lease}
use Rattle.frame_pool.specs.Pool.{spare_of}
use Rattle.frame_pool.proofs.Views.{lease_count, sound_view, sound_pool}
use Rattle.frame_pool.proofs.Refusals.{none_unused, some_unused, all_in_use_is, spare_is, refused_chains, refused_short, not_refused}
use Rattle.frame_pool.proofs.Takes.{promised-pool, promises-in_use, promises-view, promises-others, promises-spare}
use Rattle.frame_pool.proofs.pool.FramePool.promise.Goals as goal

pub returns-in_default-clause-refusal : goal.returns-in_default-clause-refusal
returns-in_default-clause-refusal c =
    refused_chains c.args.self.now c.args.n c.len.result (all_in_use_is _ _ c.args.self.now c.self.view_is ∙ none_unused c.self.inside.leases.items (ap (λ (ls : List (Option Lease)). position is_none ls) (sym c.deref.ensures.value) ∙ sym c.in_default.ensures))
    (omega (arith, c.len.ensures, c.self.inside.leases.ok.0, lease_count _ _ c.args.self.now c.self.view_is))

pub returns-in_default-clause-sound : goal.returns-in_default-clause-sound
returns-in_default-clause-sound c = sound_pool _ _ _ _ _ c.self.invariant c.self.view_is

pub returns-then-free-n-clause-refusal : goal.returns-then-free-n-clause-refusal
returns-then-free-n-clause-refusal c =
    let unused = some_unused c.self.inside.leases.items c.in-Some.at (ap (λ (ls : List (Option Lease)). position is_none ls) (sym c.deref.ensures.value) ∙ sym c.in-Some.ensures) in
    refused_short c.args.self.now c.args.n c.spare-free.result (all_in_use_is _ _ c.args.self.now c.self.view_is ∙ unused.2) c.spare-free.ensures.spare c.if-free-n.true

pub returns-then-free-n-clause-sound : goal.returns-then-free-n-clause-sound
returns-then-free-n-clause-sound c = sound_pool _ _ _ _ _ c.self.invariant c.self.view_is

pub invariant_of-self : goal.invariant_of-self
invariant_of-self c =
    let unused = some_unused c.self.inside.leases.items c.in-Some.at (ap (λ (ls : List (Option Lease)). position is_none ls) (sym c.deref.ensures.value) ∙ sym c.in-Some.ensures) in
    (promised-pool _ _ _ _ _ c.self.invariant c.self.view_is _ c.args.n _ unused.0 unused.1
    (omega (arith, c.if-free-n.false, c.spare-free.ensures.spare, spare_is _ _ _ _ _ c.self.invariant c.self.view_is, c.self.invariant.lists.fits)) c.new.ensures).0

pub returns : goal.returns
returns c =
    let unused = some_unused c.self.inside.leases.items c.in-Some.at (ap (λ (ls : List (Option Lease)). position is_none ls) (sym c.deref.ensures.value) ∙ sym c.in-Some.ensures) in
    let made = promised-pool _ _ _ _ _ c.self.invariant c.self.view_is _ c.args.n _ unused.0 unused.1
    (omega (arith, c.if-free-n.false, c.spare-free.ensures.spare, spare_is _ _ _ _ _ c.self.invariant c.self.view_is, c.self.invariant.lists.fits)) c.new.ensures in
    let promises = made.1 in
    let room : c.args.n ≤ spare_of c.args.self.now = omega (arith, c.if-free-n.false, c.spare-free.ensures.spare) in
    record {
      refusal = not_refused c.args.self.now c.args.n (all_in_use_is _ _ c.args.self.now c.self.view_is ∙ unused.2) room;
      promised = promises;
      in_use = promises-in_use _ _ _ _ promises;
      view = promises-view _ _ _ _ promises;
      others = promises-others _ _ _ _ promises;
      spare = promises-spare _ _ _ _ promises room;
      err = tt;
      sound = sound_view _ _ _ _ made.0;
    }
