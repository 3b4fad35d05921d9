-- What was kept is the list that is there.
use Rattle.std.proofs.Common.{◌≡◌, ◌∙◌, ℕ, List, ap, length, map, refl, subst, sym, Ok, Err}
use Rattle.index_import.proofs.Below.{Posting}
use Rattle.index_import.specs.Private.KeptPostings.{posting_in}
use Rattle.index_import.specs.Private.Rereading.{AreSegments}
use Rattle.index_import.specs.Private.Surveying.{entry_postings}
use Rattle.index_import.proofs.Made.{AreThere, all_there, kept_postings, made_there}
use Rattle.std.proofs.Math.Nat.{le_refl}
use Rattle.index_import.proofs.Again.{ok_unread, same_fault}
use Rattle.index_import.proofs.Ready.{leaves_same}
use Rattle.index_import.proofs.reading.entry_segments.Goals as goal

pub make_segments-requires-clause-list : goal.make_segments-requires-clause-list
make_segments-requires-clause-list g c =
    kept_postings c.args.weighing c.args.walk.now.docs c.args.entry.now (map posting_in c.by_place.result.words.now) c.by_place.ensures c.requires.docs
    (c.is_empty.ensures.some c.if-is_empty.false) c.requires.keeps

pub returns-in-Ok-make_segments-clause-segments : goal.returns-in-Ok-make_segments-clause-segments
returns-in-Ok-make_segments-clause-segments g c =
    let docs = c.args.walk.now.docs in
    let e = c.args.entry.now in
    let counted : length (map posting_in c.by_place.result.words.now) ≡ e.place.count
    = ap length c.by_place.ensures ∙ (c.requires.keeps (c.is_empty.ensures.some c.if-is_empty.false)).counted in
    subst (λ (n : ℕ). AreSegments docs n c.make_segments.new.segments) counted
    (subst (λ (n : ℕ). AreSegments n (length (map posting_in c.by_place.result.words.now)) c.make_segments.new.segments) c.requires.docs c.in-Ok-make_segments.ensures.segments)

pub returns-in-Ok-make_segments-clause-told : goal.returns-in-Ok-make_segments-clause-told
returns-in-Ok-make_segments-clause-told g c =
    let told = g.C.Cabinet.told c.args.files.now in
    let name = c.args.walk.now.name in
    let docs = c.args.walk.now.docs in
    let at = c.args.entry.now.place.at in
    let postings : List Posting = map posting_in c.by_place.result.words.now in
    let are : postings ≡ entry_postings c.args.entry.now = c.by_place.ensures in
    made_there told name docs (Unit {0}) c.args.weighing c.args.bits c.args.range at postings c.make_segments.new.segments (Ok c.in-Ok-make_segments.field-0)
    (subst (AreThere told name docs at) (sym are) (all_there told name docs c.args.entry.now (c.is_empty.ensures.some c.if-is_empty.false) c.requires.told)) c.in-Ok-make_segments.ensures.made

pub returns-in-Err-make_segments-clause-told : goal.returns-in-Err-make_segments-clause-told
returns-in-Err-make_segments-clause-told g c =
    let told = g.C.Cabinet.told c.args.files.now in
    let name = c.args.walk.now.name in
    let docs = c.args.walk.now.docs in
    let at = c.args.entry.now.place.at in
    let postings : List Posting = map posting_in c.by_place.result.words.now in
    let are : postings ≡ entry_postings c.args.entry.now = c.by_place.ensures in
    made_there told name docs (Unit {0}) c.args.weighing c.args.bits c.args.range at postings c.make_segments.new.segments (Err c.in-Err-make_segments.fault)
    (subst (AreThere told name docs at) (sym are) (all_there told name docs c.args.entry.now (c.is_empty.ensures.some c.if-is_empty.false) c.requires.told)) c.in-Err-make_segments.ensures.made

pub returns-in-Ok-clause-leaves : goal.returns-in-Ok-clause-leaves
returns-in-Ok-clause-leaves g c = c.read_segments.ensures.leaves

pub returns-in-Ok-clause-stays : goal.returns-in-Ok-clause-stays
returns-in-Ok-clause-stays g c = c.read_segments.ensures.stays

pub returns-in-Ok-clause-later : goal.returns-in-Ok-clause-later
returns-in-Ok-clause-later g c = c.read_segments.ensures.later

pub returns-in-Ok-clause-others : goal.returns-in-Ok-clause-others
returns-in-Ok-clause-others g c = c.read_segments.ensures.others

pub returns-in-Err-clause-leaves : goal.returns-in-Err-clause-leaves
returns-in-Err-clause-leaves g c = c.read_segments.ensures.leaves

pub returns-in-Err-clause-stays : goal.returns-in-Err-clause-stays
returns-in-Err-clause-stays g c = c.read_segments.ensures.stays

pub returns-in-Err-clause-later : goal.returns-in-Err-clause-later
returns-in-Err-clause-later g c = c.read_segments.ensures.later

pub returns-in-Err-clause-others : goal.returns-in-Err-clause-others
returns-in-Err-clause-others g c = c.read_segments.ensures.others

pub returns-in-Ok-clause-ready : goal.returns-in-Ok-clause-ready
returns-in-Ok-clause-ready g c = c.in-Ok.ensures.ready

pub returns-in-Ok-clause-segments : goal.returns-in-Ok-clause-segments
returns-in-Ok-clause-segments g c = c.in-Ok.ensures.segments

pub returns-in-Ok-clause-told : goal.returns-in-Ok-clause-told
returns-in-Ok-clause-told g c = c.in-Ok.ensures.told

pub returns-in-Ok-clause-fault : goal.returns-in-Ok-clause-fault
returns-in-Ok-clause-fault g c = λ is. absurd (ok_unread is)

pub returns-in-Err-clause-ready : goal.returns-in-Err-clause-ready
returns-in-Err-clause-ready g c = tt

pub returns-in-Err-clause-segments : goal.returns-in-Err-clause-segments
returns-in-Err-clause-segments g c = tt

pub returns-in-Err-clause-told : goal.returns-in-Err-clause-told
returns-in-Err-clause-told g c = c.in-Err.ensures.told

pub returns-in-Err-clause-fault : goal.returns-in-Err-clause-fault
returns-in-Err-clause-fault g c = c.in-Err.ensures.fault

pub returns-in-Ok-make_segments-clause-leaves : goal.returns-in-Ok-make_segments-clause-leaves
returns-in-Ok-make_segments-clause-leaves g c = leaves_same c.args.walk.now

pub returns-in-Ok-make_segments-clause-stays : goal.returns-in-Ok-make_segments-clause-stays
returns-in-Ok-make_segments-clause-stays g c = refl

pub returns-in-Ok-make_segments-clause-later : goal.returns-in-Ok-make_segments-clause-later
returns-in-Ok-make_segments-clause-later g c = le_refl (g.C.Cabinet.read_faults c.args.files.now)

pub returns-in-Ok-make_segments-clause-others : goal.returns-in-Ok-make_segments-clause-others
returns-in-Ok-make_segments-clause-others g c = le_refl (g.C.Cabinet.write_faults c.args.files.now)

pub returns-in-Err-make_segments-clause-leaves : goal.returns-in-Err-make_segments-clause-leaves
returns-in-Err-make_segments-clause-leaves g c = leaves_same c.args.walk.now

pub returns-in-Err-make_segments-clause-stays : goal.returns-in-Err-make_segments-clause-stays
returns-in-Err-make_segments-clause-stays g c = refl

pub returns-in-Err-make_segments-clause-later : goal.returns-in-Err-make_segments-clause-later
returns-in-Err-make_segments-clause-later g c = le_refl (g.C.Cabinet.read_faults c.args.files.now)

pub returns-in-Err-make_segments-clause-others : goal.returns-in-Err-make_segments-clause-others
returns-in-Err-make_segments-clause-others g c = le_refl (g.C.Cabinet.write_faults c.args.files.now)

pub returns-in-Ok-make_segments-clause-ready : goal.returns-in-Ok-make_segments-clause-ready
returns-in-Ok-make_segments-clause-ready g c = c.requires.ready

pub returns-in-Ok-make_segments-clause-fault : goal.returns-in-Ok-make_segments-clause-fault
returns-in-Ok-make_segments-clause-fault g c = λ is. absurd (ok_unread is)

pub returns-in-Err-make_segments-clause-ready : goal.returns-in-Err-make_segments-clause-ready
returns-in-Err-make_segments-clause-ready g c = tt

pub returns-in-Err-make_segments-clause-segments : goal.returns-in-Err-make_segments-clause-segments
returns-in-Err-make_segments-clause-segments g c = tt

pub returns-in-Err-make_segments-clause-fault : goal.returns-in-Err-make_segments-clause-fault
returns-in-Err-make_segments-clause-fault g c = λ is. absurd (c.in-Err-make_segments.ensures.fault (same_fault is))

pub read_segments-requires-clause-ready : goal.read_segments-requires-clause-ready
read_segments-requires-clause-ready g c = c.requires.ready

pub read_segments-requires-clause-given : goal.read_segments-requires-clause-given
read_segments-requires-clause-given g c = c.requires.given

pub read_segments-requires-clause-docs : goal.read_segments-requires-clause-docs
read_segments-requires-clause-docs g c = c.requires.docs

pub read_segments-requires-clause-width : goal.read_segments-requires-clause-width
read_segments-requires-clause-width g c = c.requires.width

pub read_segments-requires-clause-low : goal.read_segments-requires-clause-low
read_segments-requires-clause-low g c = c.requires.low

pub make_segments-requires-clause-width : goal.make_segments-requires-clause-width
make_segments-requires-clause-width g c = c.requires.width

pub make_segments-requires-clause-low : goal.make_segments-requires-clause-low
make_segments-requires-clause-low g c = c.requires.low
