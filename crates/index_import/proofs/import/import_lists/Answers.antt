-- What was known of the walk is known once the range was read.
use Rattle.shared_lemmas.proofs.Common.{◌≡◌, ◌≢◌, ℕ, List, Option, sym, subst, All}
use Rattle.index_import.proofs.Below.{Files, ForContent, for_one}
use Rattle.index_import.specs.Private.KeptDocs.{names_in}
use Rattle.index_import.specs.Private.Outlining.{IsOutline}
use Rattle.index_import.specs.Private.Ranging.{range_there}
use Rattle.index_import.specs.Private.Surveying.{AreGiven, HoldsMost, IsReady, KeepsAll}
use Rattle.index_import.specs.declared.list_entry.ListEntry.{ListEntry}
use Rattle.std.proofs.Math.Nat.{le_trans}
use Rattle.index_import.proofs.Again.{rose_before, told_now}
use Rattle.index_import.proofs.Imported.{imports_then, outlined_then}
use Rattle.index_import.proofs.Unread.{outside_imports, unread_read, unread_write}
use Rattle.index_import.proofs.import.import_lists.Goals as goal

pub read_range-requires-clause-told : goal.read_range-requires-clause-told
read_range-requires-clause-told g c =
    let told : Option Files = g.C.Cabinet.told c.args.files.now in
    let Most : List ListEntry → List ℕ → Type 0 = λ (ls : List ListEntry) (content : List ℕ). All (HoldsMost content c.args.walk.now.docs) ls in
    subst (λ (ls : List ListEntry). ForContent told c.args.walk.now.name (Most ls)) (sym c.deref.ensures.value)
    (for_one told c.args.walk.now.name (λ content. IsOutline content c.args.walk.now.docs (names_in c.args.docs.now) c.args.weighing.lengths.now c.args.lists.items) (Most c.args.lists.items) (λ content outline. outline.most) c.requires.told)

pub import_held-requires-clause-outlined : goal.import_held-requires-clause-outlined
import_held-requires-clause-outlined g c =
    outlined_then c.args.walk.now c.read_range.new.walk (names_in c.args.docs.now) c.args.weighing.lengths.now c.args.weighing.total c.args.lists.items c.read_range.ensures.leaves c.requires.outlined

pub import_held-requires-clause-told : goal.import_held-requires-clause-told
import_held-requires-clause-told g c =
    told_now (g.C.Cabinet.told c.args.files.now) (g.C.Cabinet.told c.read_range.new.files) c.args.walk.now c.read_range.new.walk
    (λ docs content. IsOutline content docs (names_in c.args.docs.now) c.args.weighing.lengths.now c.args.lists.items) c.read_range.ensures.stays c.read_range.ensures.leaves c.requires.told

pub import_held-requires-clause-ranged : goal.import_held-requires-clause-ranged
import_held-requires-clause-ranged g c =
    let told : Option Files = g.C.Cabinet.told c.args.files.now in
    let Ranged : List ListEntry → ℕ → List ℕ → Type 0 = λ (ls : List ListEntry) (docs : ℕ) (content : List ℕ). c.in-Ok.range ≡ range_there content docs c.args.weighing c.args.bits ls in
    told_now told (g.C.Cabinet.told c.read_range.new.files) c.args.walk.now c.read_range.new.walk (Ranged c.args.lists.items) c.read_range.ensures.stays c.read_range.ensures.leaves
    (subst (λ (ls : List ListEntry). ForContent told c.args.walk.now.name (Ranged ls c.args.walk.now.docs)) c.deref.ensures.value c.in-Ok.ensures.told)

pub returns-then-are_few-clause-imported : goal.returns-then-are_few-clause-imported
returns-then-are_few-clause-imported g c =
    imports_then (g.C.Cabinet.told c.args.files.now) (g.C.Cabinet.told c.read_range.new.files) (g.C.Cabinet.told c.import_held.new.files) c.args.walk.now c.read_range.new.walk c.args.index.now c.args.weighing.rule c.args.bits c.import_held.result
    c.read_range.ensures.stays c.read_range.ensures.leaves c.import_held.ensures.imported

pub import_reread-requires-clause-outlined : goal.import_reread-requires-clause-outlined
import_reread-requires-clause-outlined g c =
    outlined_then c.args.walk.now c.read_range.new.walk (names_in c.args.docs.now) c.args.weighing.lengths.now c.args.weighing.total c.args.lists.items c.read_range.ensures.leaves c.requires.outlined

pub import_reread-requires-clause-told : goal.import_reread-requires-clause-told
import_reread-requires-clause-told g c =
    told_now (g.C.Cabinet.told c.args.files.now) (g.C.Cabinet.told c.read_range.new.files) c.args.walk.now c.read_range.new.walk
    (λ docs content. IsOutline content docs (names_in c.args.docs.now) c.args.weighing.lengths.now c.args.lists.items) c.read_range.ensures.stays c.read_range.ensures.leaves c.requires.told

pub import_reread-requires-clause-ranged : goal.import_reread-requires-clause-ranged
import_reread-requires-clause-ranged g c =
    let told : Option Files = g.C.Cabinet.told c.args.files.now in
    let Ranged : List ListEntry → ℕ → List ℕ → Type 0 = λ (ls : List ListEntry) (docs : ℕ) (content : List ℕ). c.in-Ok.range ≡ range_there content docs c.args.weighing c.args.bits ls in
    told_now told (g.C.Cabinet.told c.read_range.new.files) c.args.walk.now c.read_range.new.walk (Ranged c.args.lists.items) c.read_range.ensures.stays c.read_range.ensures.leaves
    (subst (λ (ls : List ListEntry). ForContent told c.args.walk.now.name (Ranged ls c.args.walk.now.docs)) c.deref.ensures.value c.in-Ok.ensures.told)

pub returns-else-are_few-clause-imported : goal.returns-else-are_few-clause-imported
returns-else-are_few-clause-imported g c =
    imports_then (g.C.Cabinet.told c.args.files.now) (g.C.Cabinet.told c.read_range.new.files) (g.C.Cabinet.told c.import_reread.new.files) c.args.walk.now c.read_range.new.walk c.args.index.now c.args.weighing.rule c.args.bits c.import_reread.result
    c.read_range.ensures.stays c.read_range.ensures.leaves c.import_reread.ensures.imported

pub read_range-requires-clause-given : goal.read_range-requires-clause-given
read_range-requires-clause-given g c = subst (AreGiven c.args.walk.now.kept) (sym c.deref.ensures.value) c.requires.outlined.given

pub read_range-requires-clause-docs : goal.read_range-requires-clause-docs
read_range-requires-clause-docs g c = c.requires.outlined.docs

pub read_range-requires-clause-keep_all : goal.read_range-requires-clause-keep_all
read_range-requires-clause-keep_all g c = subst (All (KeepsAll c.args.walk.now.docs)) (sym c.deref.ensures.value) c.requires.outlined.keep_all

pub returns-in-Err-clause-imported : goal.returns-in-Err-clause-imported
returns-in-Err-clause-imported g c =
    outside_imports (g.C.Cabinet.told c.args.files.now) (g.C.Cabinet.told c.read_range.new.files) c.args.walk.now.name c.args.index.now c.args.weighing.rule c.args.bits c.in-Err.fault c.from_ciff.result c.from_ciff.ensures c.read_range.ensures.stays
    c.requires.ready.there c.in-Err.ensures.told

pub returns-in-Err-clause-read_fault : goal.returns-in-Err-clause-read_fault
returns-in-Err-clause-read_fault g c = λ is. c.in-Err.ensures.fault (unread_read c.in-Err.fault c.from_ciff.result c.from_ciff.ensures is)

pub returns-in-Err-clause-write_fault : goal.returns-in-Err-clause-write_fault
returns-in-Err-clause-write_fault g c = λ is. absurd (unread_write c.in-Err.fault c.from_ciff.result c.from_ciff.ensures is)

pub returns-in-Err-clause-later : goal.returns-in-Err-clause-later
returns-in-Err-clause-later g c = c.read_range.ensures.later

pub returns-in-Err-clause-others : goal.returns-in-Err-clause-others
returns-in-Err-clause-others g c = c.read_range.ensures.others

pub returns-then-are_few-clause-read_fault : goal.returns-then-are_few-clause-read_fault
returns-then-are_few-clause-read_fault g c = λ is. rose_before (g.C.Cabinet.read_faults c.args.files.now) (g.C.Cabinet.read_faults c.read_range.new.files) (g.C.Cabinet.read_faults c.import_held.new.files) c.read_range.ensures.later (c.import_held.ensures.read_fault is)

pub returns-then-are_few-clause-write_fault : goal.returns-then-are_few-clause-write_fault
returns-then-are_few-clause-write_fault g c = λ is. rose_before (g.C.Cabinet.write_faults c.args.files.now) (g.C.Cabinet.write_faults c.read_range.new.files) (g.C.Cabinet.write_faults c.import_held.new.files) c.read_range.ensures.others (c.import_held.ensures.write_fault is)

pub returns-then-are_few-clause-later : goal.returns-then-are_few-clause-later
returns-then-are_few-clause-later g c = le_trans c.read_range.ensures.later c.import_held.ensures.later

pub returns-then-are_few-clause-others : goal.returns-then-are_few-clause-others
returns-then-are_few-clause-others g c = le_trans c.read_range.ensures.others c.import_held.ensures.others

pub import_held-requires-clause-low : goal.import_held-requires-clause-low
import_held-requires-clause-low g c = c.in-Ok.ensures.low

pub import_held-requires-clause-width : goal.import_held-requires-clause-width
import_held-requires-clause-width g c = c.requires.width

pub import_held-requires-clause-apart : goal.import_held-requires-clause-apart
import_held-requires-clause-apart g c = subst (λ (n : List ℕ). n ≢ c.args.index.now) (sym c.read_range.ensures.leaves.name) c.requires.apart

pub import_held-requires-clause-ready : goal.import_held-requires-clause-ready
import_held-requires-clause-ready g c =
    subst (λ (n : List ℕ). IsReady (g.C.Cabinet.told c.read_range.new.files) n c.read_range.new.walk) (sym c.read_range.ensures.leaves.name)
    (subst (λ (files : Option Files). IsReady files c.args.walk.now.name c.read_range.new.walk) (sym c.read_range.ensures.stays) c.in-Ok.ensures.ready)

pub returns-else-are_few-clause-read_fault : goal.returns-else-are_few-clause-read_fault
returns-else-are_few-clause-read_fault g c = λ is. rose_before (g.C.Cabinet.read_faults c.args.files.now) (g.C.Cabinet.read_faults c.read_range.new.files) (g.C.Cabinet.read_faults c.import_reread.new.files) c.read_range.ensures.later (c.import_reread.ensures.read_fault is)

pub returns-else-are_few-clause-write_fault : goal.returns-else-are_few-clause-write_fault
returns-else-are_few-clause-write_fault g c = λ is. rose_before (g.C.Cabinet.write_faults c.args.files.now) (g.C.Cabinet.write_faults c.read_range.new.files) (g.C.Cabinet.write_faults c.import_reread.new.files) c.read_range.ensures.others (c.import_reread.ensures.write_fault is)

pub returns-else-are_few-clause-later : goal.returns-else-are_few-clause-later
returns-else-are_few-clause-later g c = le_trans c.read_range.ensures.later c.import_reread.ensures.later

pub returns-else-are_few-clause-others : goal.returns-else-are_few-clause-others
returns-else-are_few-clause-others g c = le_trans c.read_range.ensures.others c.import_reread.ensures.others

pub import_reread-requires-clause-low : goal.import_reread-requires-clause-low
import_reread-requires-clause-low g c = c.in-Ok.ensures.low

pub import_reread-requires-clause-width : goal.import_reread-requires-clause-width
import_reread-requires-clause-width g c = c.requires.width

pub import_reread-requires-clause-apart : goal.import_reread-requires-clause-apart
import_reread-requires-clause-apart g c = subst (λ (n : List ℕ). n ≢ c.args.index.now) (sym c.read_range.ensures.leaves.name) c.requires.apart

pub import_reread-requires-clause-ready : goal.import_reread-requires-clause-ready
import_reread-requires-clause-ready g c =
    subst (λ (n : List ℕ). IsReady (g.C.Cabinet.told c.read_range.new.files) n c.read_range.new.walk) (sym c.read_range.ensures.leaves.name)
    (subst (λ (files : Option Files). IsReady files c.args.walk.now.name c.read_range.new.walk) (sym c.read_range.ensures.stays) c.in-Ok.ensures.ready)
