-- The lists that are read again are those of the collection.
use Rattle.shared_lemmas.proofs.Common.{◌≢◌, ◌∙◌, ℕ, List, Option, ap, inl, length, length-map, sym, subst, All, All-map}
use Rattle.index_import.proofs.Below.{Files, ForContent, KeptList, HasKept, for_one}
use Rattle.index_import.specs.Private.KeptDocs.{names_in}
use Rattle.index_import.specs.Private.Outlining.{IsOutline}
use Rattle.index_import.specs.Private.Surveying.{AreGiven, HoldsMost, IsReady}
use Rattle.index_import.specs.declared.list_entry.ListEntry.{ListEntry}
use Rattle.index_import.specs.declared.list_entry.Place.{Place}
use Rattle.index_import.proofs.Imported.{never_refused, writes_made}
use Rattle.std.proofs.Math.Nat.{le_trans}
use Rattle.index_import.proofs.Again.{rose_before}
use Rattle.index_import.proofs.Unread.{memory_no_read, memory_no_write, unread_read, unread_write}
use Rattle.index_write.specs.Streaming.{AreNames}
use Rattle.index_import.proofs.import.import_reread.Goals as goal

pub read_heads-requires-clause-told : goal.read_heads-requires-clause-told
read_heads-requires-clause-told g c =
    let Most : List ℕ → Type 0 = λ (content : List ℕ). All (HoldsMost content c.args.walk.now.docs) c.args.lists.items in
    for_one (g.C.Cabinet.told c.args.files.now) c.args.walk.now.name (λ content. IsOutline content c.args.walk.now.docs (names_in c.args.docs.now) c.args.weighing.lengths.now c.args.lists.items) Most (λ content outline. outline.most) c.requires.told

pub returns-in-Err-clause-imported : goal.returns-in-Err-clause-imported
returns-in-Err-clause-imported g c =
    never_refused (g.C.Cabinet.told c.args.files.now) c.args.walk.now c.args.weighing c.args.bits c.args.range c.args.lists.items c.requires.ready.there c.requires.ranged c.widened_lists_have_the_range.ensures.inside
    (g.C.Cabinet.told c.read_heads.new.files) c.args.index.now c.in-Err.fault c.from_ciff.result c.from_ciff.ensures c.read_heads.ensures.stays c.in-Err.ensures.told

pub write_index-requires-clause-given : goal.write_index-requires-clause-given
write_index-requires-clause-given g c =
    let Given : Place → Type 0 = λ (p : Place). HasKept c.read_heads.new.walk.kept p.at p.count in
    subst (All Given) (sym c.in-Ok.ensures.places)
    (All-map Given (λ (e : ListEntry). e.place) c.args.lists.items (subst (λ (kept : List KeptList). AreGiven kept c.args.lists.items) (sym c.read_heads.ensures.leaves.kept) c.requires.outlined.given))

pub returns-clause-imported : goal.returns-clause-imported
returns-clause-imported g c =
    let law = c.widened_lists_have_the_range.ensures in
    let outline : ForContent (g.C.Cabinet.told c.args.files.now) c.args.walk.now.name (λ content. IsOutline content c.args.walk.now.docs c.in-Ok-names.names c.args.weighing.lengths.now c.args.lists.items)
    = subst (λ (names : List (List ℕ)). ForContent (g.C.Cabinet.told c.args.files.now) c.args.walk.now.name (λ content. IsOutline content c.args.walk.now.docs names c.args.weighing.lengths.now c.args.lists.items)) (sym c.in-Ok-names.ensures) c.requires.told in
    writes_made (g.C.Cabinet.told c.args.files.now) c.args.walk.now c.args.weighing c.args.bits c.args.range c.args.lists.items c.requires.ready.there c.requires.ranged
    c.lists_by_term_make_the_index.ensures law.raw law.range law.inside
    (g.C.Cabinet.told c.read_heads.new.files) (g.C.Cabinet.told c.write_index.new.files) c.read_heads.new.walk c.in-Ok-names.names c.args.index.now
    c.in-Ok.heads.places.items c.in-Ok.heads.terms c.write_index.result c.requires.outlined.rising outline
    c.in-Ok.ensures.heads c.in-Ok.ensures.places c.read_heads.ensures.stays c.read_heads.ensures.leaves c.write_index.ensures.written

pub returns-in-Err-clause-read_fault : goal.returns-in-Err-clause-read_fault
returns-in-Err-clause-read_fault g c = λ is. c.in-Err.ensures.fault (unread_read c.in-Err.fault c.from_ciff.result c.from_ciff.ensures is)

pub returns-in-Err-clause-write_fault : goal.returns-in-Err-clause-write_fault
returns-in-Err-clause-write_fault g c = λ is. absurd (unread_write c.in-Err.fault c.from_ciff.result c.from_ciff.ensures is)

pub returns-in-Err-clause-later : goal.returns-in-Err-clause-later
returns-in-Err-clause-later g c = c.read_heads.ensures.later

pub returns-in-Err-clause-others : goal.returns-in-Err-clause-others
returns-in-Err-clause-others g c = c.read_heads.ensures.others

pub returns-clause-read_fault : goal.returns-clause-read_fault
returns-clause-read_fault g c = λ is. rose_before (g.C.Cabinet.read_faults c.args.files.now) (g.C.Cabinet.read_faults c.read_heads.new.files) (g.C.Cabinet.read_faults c.write_index.new.files) c.read_heads.ensures.later (c.write_index.ensures.read_fault is)

pub returns-clause-write_fault : goal.returns-clause-write_fault
returns-clause-write_fault g c = λ is. rose_before (g.C.Cabinet.write_faults c.args.files.now) (g.C.Cabinet.write_faults c.read_heads.new.files) (g.C.Cabinet.write_faults c.write_index.new.files) c.read_heads.ensures.others (c.write_index.ensures.write_fault is)

pub returns-clause-later : goal.returns-clause-later
returns-clause-later g c = le_trans c.read_heads.ensures.later c.write_index.ensures.later

pub returns-clause-others : goal.returns-clause-others
returns-clause-others g c = le_trans c.read_heads.ensures.others c.write_index.ensures.others

pub read_heads-requires-clause-ready : goal.read_heads-requires-clause-ready
read_heads-requires-clause-ready g c = c.requires.ready

pub read_heads-requires-clause-given : goal.read_heads-requires-clause-given
read_heads-requires-clause-given g c = c.requires.outlined.given

pub read_heads-requires-clause-keep_all : goal.read_heads-requires-clause-keep_all
read_heads-requires-clause-keep_all g c = c.requires.outlined.keep_all

pub read_heads-requires-clause-rising : goal.read_heads-requires-clause-rising
read_heads-requires-clause-rising g c = c.requires.outlined.rising

pub read_heads-requires-clause-few : goal.read_heads-requires-clause-few
read_heads-requires-clause-few g c = c.requires.outlined.few_lists

pub read_heads-requires-clause-postings : goal.read_heads-requires-clause-postings
read_heads-requires-clause-postings g c = c.requires.outlined.postings

pub read_heads-requires-clause-docs : goal.read_heads-requires-clause-docs
read_heads-requires-clause-docs g c = c.requires.outlined.docs

pub read_heads-requires-clause-width : goal.read_heads-requires-clause-width
read_heads-requires-clause-width g c = c.requires.width

pub read_heads-requires-clause-low : goal.read_heads-requires-clause-low
read_heads-requires-clause-low g c = c.requires.low

pub returns-in-Err-names-clause-imported : goal.returns-in-Err-names-clause-imported
returns-in-Err-names-clause-imported g c = inl c.read_heads.ensures.stays

pub returns-in-Err-names-clause-read_fault : goal.returns-in-Err-names-clause-read_fault
returns-in-Err-names-clause-read_fault g c = λ is. absurd (memory_no_read is)

pub returns-in-Err-names-clause-write_fault : goal.returns-in-Err-names-clause-write_fault
returns-in-Err-names-clause-write_fault g c = λ is. absurd (memory_no_write is)

pub returns-in-Err-names-clause-later : goal.returns-in-Err-names-clause-later
returns-in-Err-names-clause-later g c = c.read_heads.ensures.later

pub returns-in-Err-names-clause-others : goal.returns-in-Err-names-clause-others
returns-in-Err-names-clause-others g c = c.read_heads.ensures.others

pub write_index-requires-clause-ready : goal.write_index-requires-clause-ready
write_index-requires-clause-ready g c =
    subst (λ (n : List ℕ). IsReady (g.C.Cabinet.told c.read_heads.new.files) n c.read_heads.new.walk) (sym c.read_heads.ensures.leaves.name)
    (subst (λ (files : Option Files). IsReady files c.args.walk.now.name c.read_heads.new.walk) (sym c.read_heads.ensures.stays) c.in-Ok.ensures.ready)

pub write_index-requires-clause-docs : goal.write_index-requires-clause-docs
write_index-requires-clause-docs g c = c.requires.outlined.docs ∙ sym c.read_heads.ensures.leaves.docs

pub write_index-requires-clause-width : goal.write_index-requires-clause-width
write_index-requires-clause-width g c = c.requires.width

pub write_index-requires-clause-low : goal.write_index-requires-clause-low
write_index-requires-clause-low g c = c.requires.low

pub write_index-requires-clause-names : goal.write_index-requires-clause-names
write_index-requires-clause-names g c = subst AreNames (sym c.in-Ok-names.ensures) c.requires.outlined.names_are

pub write_index-requires-clause-as_many : goal.write_index-requires-clause-as_many
write_index-requires-clause-as_many g c = ap length c.in-Ok-names.ensures ∙ c.requires.outlined.as_many ∙ sym c.read_heads.ensures.leaves.docs

pub write_index-requires-clause-entries : goal.write_index-requires-clause-entries
write_index-requires-clause-entries g c = c.in-Ok.ensures.entries

pub write_index-requires-clause-places : goal.write_index-requires-clause-places
write_index-requires-clause-places g c = ap length c.in-Ok.ensures.places ∙ length-map c.args.lists.items (λ (e : ListEntry). e.place) ∙ sym c.in-Ok.ensures.as_many

pub write_index-requires-clause-apart : goal.write_index-requires-clause-apart
write_index-requires-clause-apart g c = subst (λ (n : List ℕ). n ≢ c.args.index.now) (sym c.read_heads.ensures.leaves.name) c.requires.apart
