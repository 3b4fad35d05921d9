-- One list more is spelled.
use Rattle.shared_lemmas.proofs.Common.{◌≡◌, ℕ, ◌++◌, ◌∷◌, List, Option, into_iter_items, refl, subst, sym, ◌∙◌, arith, All}
use Rattle.index_import.proofs.Below.{Files, KeptList, HasKept, for_one}
use Rattle.index_write.specs.Spelled.{SpelledView}
use Rattle.index_import.specs.Private.Spelling.{SpellsOne}
use Rattle.index_import.specs.Private.Surveying.{HoldsMost, KeepsAll}
use Rattle.index_import.specs.declared.list_entry.ListEntry.{ListEntry}
use Rattle.std.proofs.Math.Nat.{le_trans}
use Rattle.index_import.proofs.Again.{memory_unread, nothing_told, ok_unread, ready_now, ready_then, rose_before, still_fault, told_now}
use Rattle.index_import.proofs.Changing.{at_given}
use Rattle.index_import.proofs.Headed.{entry_is, fails_one}
use Rattle.index_import.proofs.Ready.{leaves_same, leaves_then}
use Rattle.index_import.proofs.SegmentTurns.{one_of_all}
use Rattle.index_import.proofs.Spelled.{Spells, all_spelled, spelled_then, spells_more, spells_none}
use Rattle.index_import.proofs.Turns.{middle, parted, whole}
use Rattle.index_import.proofs.spelling.spell_lists.Goals as goal

pub lists-init : goal.lists-init
lists-init g c = record {
  same = refl;
  later = omega arith;
  others = omega arith;
  ready = c.requires.ready;
  leaves = leaves_same c.args.walk.now;
  spelled = spells_none (g.C.Cabinet.told c.args.files.now) c.args.walk.now.name c.args.walk.now.docs c.args.weighing c.args.bits c.args.range c.new-speller.result.terms (c.new-speller.result.payloads ++ c.new-speller.result.block) c.new-speller.ensures.terms c.new-speller.ensures.payloads;
}

pub spell-requires-clause-given : goal.spell-requires-clause-given
spell-requires-clause-given g c =
    let is : c.args.lists.items ≡ c.lists.yielded ++ c.in-Some.entry ∷ into_iter_items c.next.new.self
    = parted c.into_iter-entry-iterator.result c.lists.entry-iterator c.next.new.self c.args.lists.items c.lists.yielded c.in-Some.entry c.into_iter-entry-iterator.ensures.into_iter_gives.0 c.lists.yielded_by c.in-Some.ensures.steps in
    let kept : HasKept c.args.walk.now.kept c.in-Some.entry.place.at c.in-Some.entry.place.count
    = middle (λ (e : ListEntry). HasKept c.args.walk.now.kept e.place.at e.place.count) c.lists.yielded (into_iter_items c.next.new.self) c.in-Some.entry (subst (All (λ (e : ListEntry). HasKept c.args.walk.now.kept e.place.at e.place.count)) is c.requires.given) in
    subst (λ (kept : List KeptList). HasKept kept c.in-Some.entry.place.at c.in-Some.entry.place.count) (sym c.lists.invariant.leaves.kept) kept

pub spell-requires-clause-keeps : goal.spell-requires-clause-keeps
spell-requires-clause-keeps g c =
    let d : ℕ = c.args.walk.now.docs in
    let is : c.args.lists.items ≡ c.lists.yielded ++ c.in-Some.entry ∷ into_iter_items c.next.new.self
    = parted c.into_iter-entry-iterator.result c.lists.entry-iterator c.next.new.self c.args.lists.items c.lists.yielded c.in-Some.entry c.into_iter-entry-iterator.ensures.into_iter_gives.0 c.lists.yielded_by c.in-Some.ensures.steps in
    subst (λ (n : ℕ). KeepsAll n c.in-Some.entry) (sym c.lists.invariant.leaves.docs)
    (middle (KeepsAll d) c.lists.yielded (into_iter_items c.next.new.self) c.in-Some.entry (subst (All (KeepsAll d)) is c.requires.keep_all))

pub spell-requires-clause-told : goal.spell-requires-clause-told
spell-requires-clause-told g c =
    let told : Option Files = g.C.Cabinet.told c.args.files.now in
    let d : ℕ = c.args.walk.now.docs in
    let is : c.args.lists.items ≡ c.lists.yielded ++ c.in-Some.entry ∷ into_iter_items c.next.new.self
    = parted c.into_iter-entry-iterator.result c.lists.entry-iterator c.next.new.self c.args.lists.items c.lists.yielded c.in-Some.entry c.into_iter-entry-iterator.ensures.into_iter_gives.0 c.lists.yielded_by c.in-Some.ensures.steps in
    told_now told (g.C.Cabinet.told c.lists.files) c.args.walk.now c.lists.walk (λ (docs : ℕ) (content : List ℕ). HoldsMost content docs c.in-Some.entry) c.lists.invariant.same c.lists.invariant.leaves
    (for_one told c.args.walk.now.name (λ content. All (HoldsMost content d) c.args.lists.items) (λ content. HoldsMost content d c.in-Some.entry)
    (λ content all. middle (HoldsMost content d) c.lists.yielded (into_iter_items c.next.new.self) c.in-Some.entry (subst (All (HoldsMost content d)) is all)) c.requires.told)

pub spell-requires-clause-postings : goal.spell-requires-clause-postings
spell-requires-clause-postings g c =
    let is : c.args.lists.items ≡ c.lists.yielded ++ c.in-Some.entry ∷ into_iter_items c.next.new.self
    = parted c.into_iter-entry-iterator.result c.lists.entry-iterator c.next.new.self c.args.lists.items c.lists.yielded c.in-Some.entry c.into_iter-entry-iterator.ensures.into_iter_gives.0 c.lists.yielded_by c.in-Some.ensures.steps in
    omega (arith, one_of_all c.args.lists.items c.lists.yielded (into_iter_items c.next.new.self) c.in-Some.entry is, c.requires.postings)

pub returns-in-Err-clause-told : goal.returns-in-Err-clause-told
returns-in-Err-clause-told g c =
    let is : c.args.lists.items ≡ c.lists.yielded ++ c.in-Some.entry ∷ into_iter_items c.next.new.self
    = parted c.into_iter-entry-iterator.result c.lists.entry-iterator c.next.new.self c.args.lists.items c.lists.yielded c.in-Some.entry c.into_iter-entry-iterator.ensures.into_iter_gives.0 c.lists.yielded_by c.in-Some.ensures.steps in
    fails_one (g.C.Cabinet.told c.args.files.now) (g.C.Cabinet.told c.lists.files) c.args.walk.now c.lists.walk c.args.weighing c.args.bits c.args.range c.args.lists.items c.lists.yielded (into_iter_items c.next.new.self) c.in-Some.entry is
    c.in-Err.fault c.lists.invariant.same c.lists.invariant.leaves c.in-Err.ensures.told

pub lists-preserved : goal.lists-preserved
lists-preserved g c =
    let is : c.args.lists.items ≡ c.lists.yielded ++ c.in-Some.entry ∷ into_iter_items c.next.new.self
    = parted c.into_iter-entry-iterator.result c.lists.entry-iterator c.next.new.self c.args.lists.items c.lists.yielded c.in-Some.entry c.into_iter-entry-iterator.ensures.into_iter_gives.0 c.lists.yielded_by c.in-Some.ensures.steps in
    let told : Option Files = g.C.Cabinet.told c.args.files.now in
    let name : List ℕ = c.args.walk.now.name in
    let d : ℕ = c.args.walk.now.docs in
    let e : ListEntry = c.in-Some.entry in
    let before = c.lists.invariant in
    let old = c.lists.speller in
    let new = c.spell.new.self in
    let one : SpellsOne told name d c.args.weighing c.args.bits c.args.range e old.terms new.terms (old.payloads ++ old.block) (new.payloads ++ new.block)
    = spelled_then told (g.C.Cabinet.told c.lists.files) c.args.walk.now c.lists.walk c.args.weighing c.args.bits c.args.range e old.terms new.terms (old.payloads ++ old.block) (new.payloads ++ new.block) before.same before.leaves c.in-Ok.ensures.spelled in
    record {
      same = c.in-Ok.ensures.stays ∙ before.same;
      later = omega (arith, before.later, c.in-Ok.ensures.later);
      others = omega (arith, before.others, c.in-Ok.ensures.others);
      ready = ready_then told (g.C.Cabinet.told c.lists.files) name c.lists.walk.name c.spell.new.walk before.same before.leaves.name c.in-Ok.ensures.ready;
      leaves = leaves_then c.args.walk.now c.lists.walk c.spell.new.walk before.leaves c.in-Ok.ensures.leaves;
      spelled = spells_more told name d c.args.weighing c.args.bits c.args.range c.args.lists.items c.lists.yielded (into_iter_items c.next.new.self) e old.terms new.terms (old.payloads ++ old.block) (new.payloads ++ new.block)
          is c.requires.few c.requires.postings one
          (entry_is d e.place.count e one.segments one.are one.positive (c.made_heads_are_entries.ensures.heads d one.segments) (c.made_heads_are_entries.ensures.falling d one.segments)) before.spelled;
    }

pub returns-in-Ok-finish-clause-spelled : goal.returns-in-Ok-finish-clause-spelled
returns-in-Ok-finish-clause-spelled g c =
    let all : c.lists.yielded ≡ c.args.lists.items
    = whole c.into_iter-entry-iterator.result c.lists.entry-iterator c.next.new.self c.args.lists.items c.lists.yielded
    c.into_iter-entry-iterator.ensures.into_iter_gives.0 (omega (arith, c.into_iter-entry-iterator.ensures.into_iter_gives.1, c.args.lists.ok.0))
    c.lists.yielded_by c.in-None.ensures.steps in
    let Spelled : SpelledView → List ℕ → Type 0 = Spells (g.C.Cabinet.told c.args.files.now) c.args.walk.now.name c.args.walk.now.docs c.args.weighing c.args.bits c.args.range c.lists.yielded in
    let spelling = c.in-Ok-finish.spelling in
    all_spelled (g.C.Cabinet.told c.args.files.now) c.args.walk.now.name c.args.walk.now.docs c.args.weighing c.args.bits c.args.range c.args.lists.items c.lists.yielded spelling.terms spelling.payloads
    all c.requires.rising c.requires.few c.requires.postings c.appended_payloads_make_the_text.ensures.sizes
    (subst (λ (view : SpelledView). Spelled view spelling.payloads) (sym c.in-Ok-finish.ensures.terms) (subst (Spelled c.lists.speller.terms) (sym c.in-Ok-finish.ensures.payloads) c.lists.invariant.spelled))

pub returns-in-Err-clause-spelled : goal.returns-in-Err-clause-spelled
returns-in-Err-clause-spelled g c = tt

pub returns-in-Err-clause-fault : goal.returns-in-Err-clause-fault
returns-in-Err-clause-fault g c = λ is. rose_before (g.C.Cabinet.read_faults c.args.files.now) (g.C.Cabinet.read_faults c.lists.files) (g.C.Cabinet.read_faults c.spell.new.files) c.lists.invariant.later (c.in-Err.ensures.fault (still_fault is))

pub returns-in-Err-clause-stays : goal.returns-in-Err-clause-stays
returns-in-Err-clause-stays g c = c.spell.ensures.stays ∙ c.lists.invariant.same

pub returns-in-Err-clause-later : goal.returns-in-Err-clause-later
returns-in-Err-clause-later g c = le_trans c.lists.invariant.later c.spell.ensures.later

pub returns-in-Err-clause-others : goal.returns-in-Err-clause-others
returns-in-Err-clause-others g c = le_trans c.lists.invariant.others c.spell.ensures.others

pub returns-in-Ok-finish-clause-told : goal.returns-in-Ok-finish-clause-told
returns-in-Ok-finish-clause-told g c = nothing_told (g.C.Cabinet.told c.args.files.now) c.args.walk.now.name

pub returns-in-Ok-finish-clause-fault : goal.returns-in-Ok-finish-clause-fault
returns-in-Ok-finish-clause-fault g c = λ is. absurd (ok_unread is)

pub returns-in-Ok-finish-clause-stays : goal.returns-in-Ok-finish-clause-stays
returns-in-Ok-finish-clause-stays g c = c.lists.invariant.same

pub returns-in-Ok-finish-clause-later : goal.returns-in-Ok-finish-clause-later
returns-in-Ok-finish-clause-later g c = c.lists.invariant.later

pub returns-in-Ok-finish-clause-others : goal.returns-in-Ok-finish-clause-others
returns-in-Ok-finish-clause-others g c = c.lists.invariant.others

pub returns-in-Err-finish-clause-told : goal.returns-in-Err-finish-clause-told
returns-in-Err-finish-clause-told g c = nothing_told (g.C.Cabinet.told c.args.files.now) c.args.walk.now.name

pub returns-in-Err-finish-clause-fault : goal.returns-in-Err-finish-clause-fault
returns-in-Err-finish-clause-fault g c = λ is. absurd (memory_unread is)

pub returns-in-Err-finish-clause-stays : goal.returns-in-Err-finish-clause-stays
returns-in-Err-finish-clause-stays g c = c.lists.invariant.same

pub returns-in-Err-finish-clause-later : goal.returns-in-Err-finish-clause-later
returns-in-Err-finish-clause-later g c = c.lists.invariant.later

pub returns-in-Err-finish-clause-others : goal.returns-in-Err-finish-clause-others
returns-in-Err-finish-clause-others g c = c.lists.invariant.others

pub spell-requires-clause-ready : goal.spell-requires-clause-ready
spell-requires-clause-ready g c = ready_now (g.C.Cabinet.told c.args.files.now) (g.C.Cabinet.told c.lists.files) c.args.walk.now c.lists.walk c.lists.invariant.same c.lists.invariant.leaves c.lists.invariant.ready

pub spell-requires-clause-docs : goal.spell-requires-clause-docs
spell-requires-clause-docs g c = c.requires.docs ∙ sym c.lists.invariant.leaves.docs

pub spell-requires-clause-width : goal.spell-requires-clause-width
spell-requires-clause-width g c = c.requires.width

pub spell-requires-clause-low : goal.spell-requires-clause-low
spell-requires-clause-low g c = c.requires.low

pub returns-in-Err-finish-clause-spelled : goal.returns-in-Err-finish-clause-spelled
returns-in-Err-finish-clause-spelled g c = tt

pub returns-in-Err-clause-changed : goal.returns-in-Err-clause-changed
returns-in-Err-clause-changed g c =
    let is : c.args.lists.items ≡ c.lists.yielded ++ c.in-Some.entry ∷ into_iter_items c.next.new.self
    = parted c.into_iter-entry-iterator.result c.lists.entry-iterator c.next.new.self c.args.lists.items c.lists.yielded c.in-Some.entry c.into_iter-entry-iterator.ensures.into_iter_gives.0 c.lists.yielded_by c.in-Some.ensures.steps in
    let kept : HasKept c.args.walk.now.kept c.in-Some.entry.place.at c.in-Some.entry.place.count
    = middle (λ (e : ListEntry). HasKept c.args.walk.now.kept e.place.at e.place.count) c.lists.yielded (into_iter_items c.next.new.self) c.in-Some.entry (subst (All (λ (e : ListEntry). HasKept c.args.walk.now.kept e.place.at e.place.count)) is c.requires.given) in
    at_given c.args.walk.now.kept c.in-Some.entry.place.at c.in-Some.entry.place.count c.in-Err.fault kept c.in-Err.ensures.changed
