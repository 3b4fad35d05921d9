-- Each list that is weighed widens the range, and each that is passed over would leave it.
use Rattle.std.proofs.lemmas.List.Elements.{All-contains, All-replicate, All-set}
use Rattle.std.proofs.Common.{rules, inr, ℕ, ◌≤◌, ◌^◌, List, length, refl, sym, subst, ◌∙◌, arith, All}
use Rattle.index_import.proofs.Below.{KeptList, HasKept, for_one, Of, Range, empty_range, weights_in}
use Rattle.index_import.specs.Private.Ranging.{CannotWiden, HasOrder, IsWidenedBy}
use Rattle.index_import.specs.Private.Surveying.{HoldsMost, KeepsAll}
use Rattle.index_import.specs.declared.list_entry.ListEntry.{ListEntry}
use Rattle.std.proofs.Math.Nat.{le_trans}
use Rattle.index_import.proofs.Again.{ok_unread, ready_now, ready_then, rose_before, still_fault, told_now, told_then}
use Rattle.index_import.proofs.Outside.{lists_order}
use Rattle.index_import.proofs.Ready.{leaves_same, leaves_then}
use Rattle.index_import.proofs.Widening.{norms_cut, passed_still, widened_then, widens_more, widens_same}
use Rattle.ciff_read.specs.Walk.{IsOutside}
use Rattle.index_import.proofs.ranging.widen_lists.Goals as goal

pub loop-entry-init : goal.loop-entry-init
loop-entry-init g c =
    let w = c.args.weighing in
    record {
      ready = c.requires.ready;
      leaves = leaves_same c.args.walk.now;
      range = search rules;
      passed = subst (All (CannotWiden w.rule (length w.norms.now) c.norm_ends-ends.result c.new-range.result)) (sym c.new-passed.ensures)
          (All-replicate (CannotWiden w.rule (length w.norms.now) c.norm_ends-ends.result c.new-range.result) 64 (record { count = 0; most = 0 }) (λ some. absurd (omega (arith, some))));
      stays = refl;
      later = omega arith;
      others = omega arith;
    }

pub can_widen-requires-clause-cut : goal.can_widen-requires-clause-cut
can_widen-requires-clause-cut g c = norms_cut c.args.weighing c.args.weighing.norms.now refl

pub widen_by_entry-requires-clause-given : goal.widen_by_entry-requires-clause-given
widen_by_entry-requires-clause-given g c =
    let e : ListEntry = c.entry-item.result in
    subst (λ (kept : List KeptList). HasKept kept e.place.at e.place.count) (sym c.loop-entry.invariant.leaves.kept)
    (subst (λ (x : ListEntry). HasKept c.args.walk.now.kept x.place.at x.place.count) (sym c.entry-item.is) (c.requires.given c.loop-entry.entry-index e c.loop-entry-test.true))

pub widen_by_entry-requires-clause-keeps : goal.widen_by_entry-requires-clause-keeps
widen_by_entry-requires-clause-keeps g c =
    let e : ListEntry = c.entry-item.result in
    subst (λ (n : ℕ). KeepsAll n e) (sym c.loop-entry.invariant.leaves.docs)
    (subst (λ (x : ListEntry). KeepsAll c.args.walk.now.docs x) (sym c.entry-item.is) (c.requires.keep_all c.loop-entry.entry-index e c.loop-entry-test.true))

pub widen_by_entry-requires-clause-told : goal.widen_by_entry-requires-clause-told
widen_by_entry-requires-clause-told g c =
    let e : ListEntry = c.entry-item.result in
    told_now (g.C.Cabinet.told c.args.files.now) (g.C.Cabinet.told c.loop-entry.files) c.args.walk.now c.loop-entry.walk (λ docs content. HoldsMost content docs e) c.loop-entry.invariant.stays c.loop-entry.invariant.leaves
    (for_one (g.C.Cabinet.told c.args.files.now) c.args.walk.now.name (λ content. All (HoldsMost content c.args.walk.now.docs) c.args.lists.now) (λ content. HoldsMost content c.args.walk.now.docs e)
    (λ content all. subst (HoldsMost content c.args.walk.now.docs) (sym c.entry-item.is) (all c.loop-entry.entry-index e c.loop-entry-test.true)) c.requires.told)

pub widen_by_entry-requires-clause-docs : goal.widen_by_entry-requires-clause-docs
widen_by_entry-requires-clause-docs g c = c.requires.docs ∙ sym c.loop-entry.invariant.leaves.docs

pub loop-entry-preserved : goal.loop-entry-preserved
loop-entry-preserved g c =
    let before = c.loop-entry.invariant in
    let told = g.C.Cabinet.told c.args.files.now in
    let e : ListEntry = c.entry-item.result in
    let w = c.args.weighing in
    let now = c.widen_by_entry.new.range in
    let by : IsWidenedBy told c.args.walk.now.name c.args.walk.now.docs w e.place.at c.loop-entry.range now
    = widened_then told (g.C.Cabinet.told c.loop-entry.files) c.args.walk.now c.loop-entry.walk w e.place.at c.loop-entry.range now before.stays before.leaves c.in-Ok.ensures.widened in
    record {
      ready = ready_then told (g.C.Cabinet.told c.loop-entry.files) c.args.walk.now.name c.loop-entry.walk.name c.widen_by_entry.new.walk
          before.stays before.leaves.name c.in-Ok.ensures.ready;
      leaves = leaves_then c.args.walk.now c.loop-entry.walk c.widen_by_entry.new.walk before.leaves c.widen_by_entry.ensures.leaves;
      range = widens_more c.widened_lists_have_the_range.ensures.one_more c.args.walk.now.docs w c.args.lists.now c.loop-entry.entry-index e c.loop-entry-test.true c.entry-item.is
          told c.args.walk.now.name c.loop-entry.range now by before.range;
      passed = subst (λ (r : Range). All (CannotWiden w.rule (length w.norms.now) c.norm_ends-ends.result r) c.loop-entry.passed) (sym by.range_is)
          (passed_still w.rule (length w.norms.now) c.norm_ends-ends.result c.loop-entry.range
          (weights_in w.rule w.lengths.now w.total by.list.postings) c.loop-entry.passed before.passed);
      stays = c.widen_by_entry.ensures.stays ∙ before.stays;
      later = omega (arith, c.widen_by_entry.ensures.later, before.later);
      others = omega (arith, c.widen_by_entry.ensures.others, before.others);
    }

pub loop-entry-preserved-then-not-can_widen : goal.loop-entry-preserved-then-not-can_widen
loop-entry-preserved-then-not-can_widen g c =
    let before = c.loop-entry.invariant in
    record {
      ready = before.ready;
      leaves = before.leaves;
      range = widens_same c.widened_lists_have_the_range.ensures.one_more c.args.walk.now.docs c.args.weighing c.args.lists.now c.loop-entry.entry-index c.entry-item.result c.loop-entry-test.true c.entry-item.is
          c.lists_inside_leave_the_range.ensures (g.C.Cabinet.told c.args.files.now) c.args.walk.now.name c.args.weighing.norms.now c.norm_ends-ends.result c.loop-entry.range c.can_widen.result
          c.requires.docs c.requires.told refl c.norm_ends-ends.ensures c.can_widen.ensures c.if-not-can_widen.true before.range;
      passed = subst (All (CannotWiden c.args.weighing.rule (length c.args.weighing.norms.now) c.norm_ends-ends.result c.loop-entry.range)) (sym c.keep.ensures.1)
          (All-set (CannotWiden c.args.weighing.rule (length c.args.weighing.norms.now) c.norm_ends-ends.result c.loop-entry.range) c.loop-entry.passed c.keep.ensures.0 _ (λ some. sym c.can_widen.ensures ∙ c.if-not-can_widen.true) before.passed);
      stays = before.stays;
      later = before.later;
      others = before.others;
    }

pub loop-entry-preserved-then-has : goal.loop-entry-preserved-then-has
loop-entry-preserved-then-has g c =
    let before = c.loop-entry.invariant in
    let e : ListEntry = c.entry-item.result in
    let w = c.args.weighing in
    record {
      ready = before.ready;
      leaves = before.leaves;
      range = widens_same c.widened_lists_have_the_range.ensures.one_more c.args.walk.now.docs w c.args.lists.now c.loop-entry.entry-index e c.loop-entry-test.true c.entry-item.is
          c.lists_inside_leave_the_range.ensures (g.C.Cabinet.told c.args.files.now) c.args.walk.now.name w.norms.now c.norm_ends-ends.result c.loop-entry.range _
          c.requires.docs c.requires.told refl c.norm_ends-ends.ensures refl
          (All-contains (CannotWiden w.rule (length w.norms.now) c.norm_ends-ends.result c.loop-entry.range) c.loop-entry.passed _ before.passed (c.has.ensures c.if-has.true) e.place.some) before.range;
      passed = before.passed;
      stays = before.stays;
      later = before.later;
      others = before.others;
    }

pub returns-clause-low : goal.returns-clause-low
returns-clause-low g c =
    let so_far = c.loop-entry.invariant.range in
    let w = c.args.weighing in
    subst (λ (r : Range). r.greatest ≤ 2 ^ 40) (sym so_far.range_is) (c.widened_lists_have_the_range.ensures.low w.rule (Of 1) w.lengths.now w.total so_far.read w.few so_far.fit)

pub returns-in-Err-clause-ready : goal.returns-in-Err-clause-ready
returns-in-Err-clause-ready g c = tt

pub returns-in-Err-clause-low : goal.returns-in-Err-clause-low
returns-in-Err-clause-low g c = tt

pub returns-in-Err-clause-leaves : goal.returns-in-Err-clause-leaves
returns-in-Err-clause-leaves g c = leaves_then c.args.walk.now c.loop-entry.walk c.widen_by_entry.new.walk c.loop-entry.invariant.leaves c.widen_by_entry.ensures.leaves

pub returns-in-Err-clause-told : goal.returns-in-Err-clause-told
returns-in-Err-clause-told g c = told_then (g.C.Cabinet.told c.args.files.now) (g.C.Cabinet.told c.loop-entry.files) c.args.walk.now c.loop-entry.walk (λ docs content. IsOutside c.in-Err.fault) c.loop-entry.invariant.stays c.loop-entry.invariant.leaves c.in-Err.ensures.told

pub returns-in-Err-clause-fault : goal.returns-in-Err-clause-fault
returns-in-Err-clause-fault g c = λ is. rose_before (g.C.Cabinet.read_faults c.args.files.now) (g.C.Cabinet.read_faults c.loop-entry.files) (g.C.Cabinet.read_faults c.widen_by_entry.new.files) c.loop-entry.invariant.later (c.in-Err.ensures.fault (still_fault is))

pub returns-in-Err-clause-stays : goal.returns-in-Err-clause-stays
returns-in-Err-clause-stays g c = c.widen_by_entry.ensures.stays ∙ c.loop-entry.invariant.stays

pub returns-in-Err-clause-later : goal.returns-in-Err-clause-later
returns-in-Err-clause-later g c = le_trans c.loop-entry.invariant.later c.widen_by_entry.ensures.later

pub returns-in-Err-clause-others : goal.returns-in-Err-clause-others
returns-in-Err-clause-others g c = le_trans c.loop-entry.invariant.others c.widen_by_entry.ensures.others

pub returns-clause-ready : goal.returns-clause-ready
returns-clause-ready g c = c.loop-entry.invariant.ready

pub returns-clause-leaves : goal.returns-clause-leaves
returns-clause-leaves g c = c.loop-entry.invariant.leaves

pub returns-clause-stays : goal.returns-clause-stays
returns-clause-stays g c = c.loop-entry.invariant.stays

pub returns-clause-later : goal.returns-clause-later
returns-clause-later g c = c.loop-entry.invariant.later

pub returns-clause-others : goal.returns-clause-others
returns-clause-others g c = c.loop-entry.invariant.others

pub returns-clause-fault : goal.returns-clause-fault
returns-clause-fault g c = λ is. absurd (ok_unread is)

pub widen_by_entry-requires-clause-ready : goal.widen_by_entry-requires-clause-ready
widen_by_entry-requires-clause-ready g c = ready_now (g.C.Cabinet.told c.args.files.now) (g.C.Cabinet.told c.loop-entry.files) c.args.walk.now c.loop-entry.walk c.loop-entry.invariant.stays c.loop-entry.invariant.leaves c.loop-entry.invariant.ready

pub returns-clause-order : goal.returns-clause-order
returns-clause-order g c =
    let so_far = c.loop-entry.invariant.range in
    let w = c.args.weighing in
    subst HasOrder (sym so_far.range_is) (lists_order w.rule w.lengths.now w.total empty_range so_far.read (inr refl))
