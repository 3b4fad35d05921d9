-- The postings that were read are those of a term.
use Rattle.index_import.proofs.Made.{read_postings}
use Rattle.shared_lemmas.proofs.Common.{subst, sym}
use Rattle.index_import.proofs.Below.{LeavesWalk}
use Rattle.index_import.specs.Private.Surveying.{IsReady}
use Rattle.index_import.proofs.Again.{ok_unread, same_fault}
use Rattle.index_import.proofs.reading.read_segments.Goals as goal

pub make_segments-made-requires-clause-list : goal.make_segments-made-requires-clause-list
make_segments-made-requires-clause-list g c =
    read_postings c.args.weighing c.args.walk.now.docs c.args.place.count c.in_ok-list.list c.requires.docs c.in_ok-list.ensures.below c.in_ok-list.ensures.count c.args.place.some

pub returns-in-Ok-clause-leaves : goal.returns-in-Ok-clause-leaves
returns-in-Ok-clause-leaves g c = subst (LeavesWalk c.args.walk.now) (sym c.take_back.ensures) c.read_again.ensures.leaves

pub returns-in-Ok-clause-stays : goal.returns-in-Ok-clause-stays
returns-in-Ok-clause-stays g c = c.read_again.ensures.stays

pub returns-in-Ok-clause-later : goal.returns-in-Ok-clause-later
returns-in-Ok-clause-later g c = c.read_again.ensures.later

pub returns-in-Ok-clause-others : goal.returns-in-Ok-clause-others
returns-in-Ok-clause-others g c = c.read_again.ensures.others

pub returns-clause-leaves : goal.returns-clause-leaves
returns-clause-leaves g c = subst (LeavesWalk c.args.walk.now) (sym c.take_back.ensures) c.read_again.ensures.leaves

pub returns-clause-stays : goal.returns-clause-stays
returns-clause-stays g c = c.read_again.ensures.stays

pub returns-clause-later : goal.returns-clause-later
returns-clause-later g c = c.read_again.ensures.later

pub returns-clause-others : goal.returns-clause-others
returns-clause-others g c = c.read_again.ensures.others

pub returns-in-Ok-clause-ready : goal.returns-in-Ok-clause-ready
returns-in-Ok-clause-ready g c = subst (IsReady (g.C.Cabinet.told c.args.files.now) c.args.walk.now.name) (sym c.take_back.ensures) c.in_ok-list.ensures.ready

pub returns-in-Ok-clause-fault : goal.returns-in-Ok-clause-fault
returns-in-Ok-clause-fault g c = λ is. absurd (ok_unread is)

pub returns-clause-ready : goal.returns-clause-ready
returns-clause-ready g c = tt

pub returns-clause-segments : goal.returns-clause-segments
returns-clause-segments g c = tt

pub returns-clause-fault : goal.returns-clause-fault
returns-clause-fault g c = λ is. absurd (c.in-Err.ensures.fault (same_fault is))

pub returns-in_err-list-clause-leaves : goal.returns-in_err-list-clause-leaves
returns-in_err-list-clause-leaves g c = c.read_again.ensures.leaves

pub returns-in_err-list-clause-stays : goal.returns-in_err-list-clause-stays
returns-in_err-list-clause-stays g c = c.read_again.ensures.stays

pub returns-in_err-list-clause-later : goal.returns-in_err-list-clause-later
returns-in_err-list-clause-later g c = c.read_again.ensures.later

pub returns-in_err-list-clause-others : goal.returns-in_err-list-clause-others
returns-in_err-list-clause-others g c = c.read_again.ensures.others

pub read_again-requires-clause-ready : goal.read_again-requires-clause-ready
read_again-requires-clause-ready g c = c.requires.ready

pub read_again-requires-clause-given : goal.read_again-requires-clause-given
read_again-requires-clause-given g c = c.requires.given

pub make_segments-made-requires-clause-width : goal.make_segments-made-requires-clause-width
make_segments-made-requires-clause-width g c = c.requires.width

pub make_segments-made-requires-clause-low : goal.make_segments-made-requires-clause-low
make_segments-made-requires-clause-low g c = c.requires.low
