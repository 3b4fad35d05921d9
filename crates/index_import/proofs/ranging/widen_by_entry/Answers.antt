-- What was kept, or is read again, is what is there.
use Rattle.std.proofs.Common.{◌≡◌, List, map, refl, subst, sym}
use Rattle.index_import.proofs.Below.{HasDocsBelow, LeavesWalk, Posting, list_data, list_fits}
use Rattle.index_import.specs.Private.KeptPostings.{posting_in}
use Rattle.index_import.specs.Private.Surveying.{IsReady, entry_postings}
use Rattle.index_import.proofs.Made.{AreThere, all_there, kept_list_fits, kept_list, kept_postings, read_postings, read_there}
use Rattle.std.proofs.Math.Nat.{le_refl}
use Rattle.index_import.proofs.Again.{nothing_told, ok_unread, still_fault}
use Rattle.index_import.proofs.Ready.{leaves_same}
use Rattle.index_import.proofs.ranging.widen_by_entry.Goals as goal

pub widen_by_norms-requires-clause-list : goal.widen_by_norms-requires-clause-list
widen_by_norms-requires-clause-list g c =
    kept_postings c.args.weighing c.args.walk.now.docs c.args.entry.now (map posting_in c.by_place.result.words.now) c.by_place.ensures c.requires.docs
    (c.is_empty.ensures.some c.if-not-is_empty.true) c.requires.keeps

pub returns-then-not-is_empty-clause-widened : goal.returns-then-not-is_empty-clause-widened
returns-then-not-is_empty-clause-widened g c =
    let told = g.C.Cabinet.told c.args.files.now in
    let name = c.args.walk.now.name in
    let docs = c.args.walk.now.docs in
    let e = c.args.entry.now in
    let some = c.is_empty.ensures.some c.if-not-is_empty.true in
    let postings : List Posting = map posting_in c.by_place.result.words.now in
    let are : postings ≡ entry_postings e = c.by_place.ensures in
    record {
      list = kept_list postings;
      fits = kept_list_fits c.args.weighing postings (kept_postings c.args.weighing docs e postings are c.requires.docs some c.requires.keeps);
      range_is = c.widen_by_norms.ensures;
      there = subst (AreThere told name docs e.place.at) (sym are) (all_there told name docs e some c.requires.told);
    }

pub widen_by_norms-requires-2-clause-list : goal.widen_by_norms-requires-2-clause-list
widen_by_norms-requires-2-clause-list g c =
    read_postings c.args.weighing c.args.walk.now.docs c.args.entry.now.place.count c.in-Ok.list c.requires.docs c.in-Ok.ensures.below c.in-Ok.ensures.count c.args.entry.now.place.some

pub returns-clause-widened : goal.returns-clause-widened
returns-clause-widened g c =
    let told = g.C.Cabinet.told c.args.files.now in
    let name = c.args.walk.now.name in
    let docs = c.args.walk.now.docs in
    let at = c.args.entry.now.place.at in
    record {
      list = list_data c.in-Ok.list;
      fits = list_fits _ c.in-Ok.list (subst (λ n. HasDocsBelow n c.in-Ok.list) (sym c.requires.docs) c.in-Ok.ensures.below);
      range_is = c.widen_by_norms-2.ensures;
      there = read_there told name docs at c.in-Ok.list c.in-Ok.ensures.told;
    }

pub returns-then-not-is_empty-clause-ready : goal.returns-then-not-is_empty-clause-ready
returns-then-not-is_empty-clause-ready g c = c.requires.ready

pub returns-then-not-is_empty-clause-leaves : goal.returns-then-not-is_empty-clause-leaves
returns-then-not-is_empty-clause-leaves g c = leaves_same c.args.walk.now

pub returns-then-not-is_empty-clause-told : goal.returns-then-not-is_empty-clause-told
returns-then-not-is_empty-clause-told g c = nothing_told (g.C.Cabinet.told c.args.files.now) c.args.walk.now.name

pub returns-then-not-is_empty-clause-fault : goal.returns-then-not-is_empty-clause-fault
returns-then-not-is_empty-clause-fault g c = λ is. absurd (ok_unread is)

pub returns-then-not-is_empty-clause-stays : goal.returns-then-not-is_empty-clause-stays
returns-then-not-is_empty-clause-stays g c = refl

pub returns-then-not-is_empty-clause-later : goal.returns-then-not-is_empty-clause-later
returns-then-not-is_empty-clause-later g c = le_refl (g.C.Cabinet.read_faults c.args.files.now)

pub returns-then-not-is_empty-clause-others : goal.returns-then-not-is_empty-clause-others
returns-then-not-is_empty-clause-others g c = le_refl (g.C.Cabinet.write_faults c.args.files.now)

pub returns-in-Err-clause-ready : goal.returns-in-Err-clause-ready
returns-in-Err-clause-ready g c = tt

pub returns-in-Err-clause-widened : goal.returns-in-Err-clause-widened
returns-in-Err-clause-widened g c = tt

pub returns-in-Err-clause-told : goal.returns-in-Err-clause-told
returns-in-Err-clause-told g c = c.in-Err.ensures.told

pub returns-in-Err-clause-fault : goal.returns-in-Err-clause-fault
returns-in-Err-clause-fault g c = λ is. c.in-Err.ensures.fault (still_fault is)

pub returns-in-Err-clause-leaves : goal.returns-in-Err-clause-leaves
returns-in-Err-clause-leaves g c = c.read_again.ensures.leaves

pub returns-in-Err-clause-stays : goal.returns-in-Err-clause-stays
returns-in-Err-clause-stays g c = c.read_again.ensures.stays

pub returns-in-Err-clause-later : goal.returns-in-Err-clause-later
returns-in-Err-clause-later g c = c.read_again.ensures.later

pub returns-in-Err-clause-others : goal.returns-in-Err-clause-others
returns-in-Err-clause-others g c = c.read_again.ensures.others

pub returns-clause-ready : goal.returns-clause-ready
returns-clause-ready g c = subst (IsReady (g.C.Cabinet.told c.args.files.now) c.args.walk.now.name) (sym c.take_back.ensures) c.in-Ok.ensures.ready

pub returns-clause-leaves : goal.returns-clause-leaves
returns-clause-leaves g c = subst (LeavesWalk c.args.walk.now) (sym c.take_back.ensures) c.read_again.ensures.leaves

pub returns-clause-told : goal.returns-clause-told
returns-clause-told g c = nothing_told (g.C.Cabinet.told c.args.files.now) c.args.walk.now.name

pub returns-clause-fault : goal.returns-clause-fault
returns-clause-fault g c = λ is. absurd (ok_unread is)

pub returns-clause-stays : goal.returns-clause-stays
returns-clause-stays g c = c.read_again.ensures.stays

pub returns-clause-later : goal.returns-clause-later
returns-clause-later g c = c.read_again.ensures.later

pub returns-clause-others : goal.returns-clause-others
returns-clause-others g c = c.read_again.ensures.others

pub read_again-requires-clause-ready : goal.read_again-requires-clause-ready
read_again-requires-clause-ready g c = c.requires.ready

pub read_again-requires-clause-given : goal.read_again-requires-clause-given
read_again-requires-clause-given g c = c.requires.given
