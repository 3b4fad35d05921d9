-- The lists that are spelled are those of the collection.
use Rattle.shared_lemmas.proofs.Common.{ℕ, List, All}
use Rattle.index_import.proofs.Below.{for_one}
use Rattle.index_import.specs.Private.KeptDocs.{names_in}
use Rattle.index_import.specs.Private.Outlining.{IsOutline}
use Rattle.index_import.specs.Private.Surveying.{HoldsMost}
use Rattle.index_import.proofs.Imported.{never_refused, spelled_made}
use Rattle.std.proofs.Math.Nat.{le_trans}
use Rattle.index_import.proofs.Again.{rose_before}
use Rattle.index_import.proofs.Unread.{unread_read, unread_write}
use Rattle.index_import.proofs.import.import_held.Goals as goal

pub spell_lists-requires-clause-told : goal.spell_lists-requires-clause-told
spell_lists-requires-clause-told g c =
    let Most : List ℕ → Type 0 = λ (content : List ℕ). All (HoldsMost content c.args.walk.now.docs) c.args.lists.items in
    for_one (g.C.Cabinet.told c.args.files.now) c.args.walk.now.name (λ content. IsOutline content c.args.walk.now.docs (names_in c.args.docs.now) c.args.weighing.lengths.now c.args.lists.items) Most (λ content outline. outline.most) c.requires.told

pub returns-in-Err-clause-imported : goal.returns-in-Err-clause-imported
returns-in-Err-clause-imported g c =
    never_refused (g.C.Cabinet.told c.args.files.now) c.args.walk.now c.args.weighing c.args.bits c.args.range c.args.lists.items c.requires.ready.there c.requires.ranged c.widened_lists_have_the_range.ensures.inside
    (g.C.Cabinet.told c.spell_lists.new.files) c.args.index.now c.in-Err.fault c.from_ciff.result c.from_ciff.ensures c.spell_lists.ensures.stays c.in-Err.ensures.told

pub returns-clause-imported : goal.returns-clause-imported
returns-clause-imported g c =
    let law = c.widened_lists_have_the_range.ensures in
    spelled_made (g.C.Cabinet.told c.args.files.now) c.args.walk.now c.args.weighing c.args.bits c.args.range c.args.lists.items c.requires.ready.there c.requires.ranged
    c.lists_by_term_make_the_index.ensures law.raw law.range
    (g.C.Cabinet.told c.spell_lists.new.files) (g.C.Cabinet.told c.write_spelled-totals.new.files) (names_in c.args.docs.now) c.args.index.now
    c.in-Ok.spelling.terms c.in-Ok.spelling.payloads c.write_spelled-totals.result c.requires.outlined.rising c.requires.outlined.as_many c.requires.told
    c.in-Ok.ensures.spelled c.spell_lists.ensures.stays c.write_spelled-totals.ensures.written

pub returns-in-Err-clause-read_fault : goal.returns-in-Err-clause-read_fault
returns-in-Err-clause-read_fault g c = λ is. c.in-Err.ensures.fault (unread_read c.in-Err.fault c.from_ciff.result c.from_ciff.ensures is)

pub returns-in-Err-clause-write_fault : goal.returns-in-Err-clause-write_fault
returns-in-Err-clause-write_fault g c = λ is. absurd (unread_write c.in-Err.fault c.from_ciff.result c.from_ciff.ensures is)

pub returns-in-Err-clause-later : goal.returns-in-Err-clause-later
returns-in-Err-clause-later g c = c.spell_lists.ensures.later

pub returns-in-Err-clause-others : goal.returns-in-Err-clause-others
returns-in-Err-clause-others g c = c.spell_lists.ensures.others

pub returns-clause-read_fault : goal.returns-clause-read_fault
returns-clause-read_fault g c = λ is. rose_before (g.C.Cabinet.read_faults c.args.files.now) (g.C.Cabinet.read_faults c.spell_lists.new.files) (g.C.Cabinet.read_faults c.write_spelled-totals.new.files) c.spell_lists.ensures.later (c.write_spelled-totals.ensures.read_fault is)

pub returns-clause-write_fault : goal.returns-clause-write_fault
returns-clause-write_fault g c = λ is. rose_before (g.C.Cabinet.write_faults c.args.files.now) (g.C.Cabinet.write_faults c.spell_lists.new.files) (g.C.Cabinet.write_faults c.write_spelled-totals.new.files) c.spell_lists.ensures.others (c.write_spelled-totals.ensures.write_fault is)

pub returns-clause-later : goal.returns-clause-later
returns-clause-later g c = le_trans c.spell_lists.ensures.later c.write_spelled-totals.ensures.later

pub returns-clause-others : goal.returns-clause-others
returns-clause-others g c = le_trans c.spell_lists.ensures.others c.write_spelled-totals.ensures.others

pub spell_lists-requires-clause-ready : goal.spell_lists-requires-clause-ready
spell_lists-requires-clause-ready g c = c.requires.ready

pub spell_lists-requires-clause-given : goal.spell_lists-requires-clause-given
spell_lists-requires-clause-given g c = c.requires.outlined.given

pub spell_lists-requires-clause-keep_all : goal.spell_lists-requires-clause-keep_all
spell_lists-requires-clause-keep_all g c = c.requires.outlined.keep_all

pub spell_lists-requires-clause-rising : goal.spell_lists-requires-clause-rising
spell_lists-requires-clause-rising g c = c.requires.outlined.rising

pub spell_lists-requires-clause-few : goal.spell_lists-requires-clause-few
spell_lists-requires-clause-few g c = c.requires.outlined.few_lists

pub spell_lists-requires-clause-postings : goal.spell_lists-requires-clause-postings
spell_lists-requires-clause-postings g c = c.requires.outlined.postings

pub spell_lists-requires-clause-docs : goal.spell_lists-requires-clause-docs
spell_lists-requires-clause-docs g c = c.requires.outlined.docs

pub spell_lists-requires-clause-width : goal.spell_lists-requires-clause-width
spell_lists-requires-clause-width g c = c.requires.width

pub spell_lists-requires-clause-low : goal.spell_lists-requires-clause-low
spell_lists-requires-clause-low g c = c.requires.low
