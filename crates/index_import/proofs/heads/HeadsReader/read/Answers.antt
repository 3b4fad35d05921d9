-- What is read is the list of the entry.
use Rattle.shared_lemmas.proofs.Common.{ℕ, List, ap, ◌∙◌}
use Rattle.index_import.proofs.Below.{SegmentData, chosen_heads}
use Rattle.index_import.proofs.Again.{memory_unread, nothing_told, ok_unread}
use Rattle.index_import.proofs.heads.HeadsReader.read.Goals as goal

pub returns-in-Ok-push-clause-heads : goal.returns-in-Ok-push-clause-heads
returns-in-Ok-push-clause-heads g c =
    let segments : List SegmentData = c.entry_segments.new.segments in
    let more = c.in-Ok-push.ensures.terms in
    record {
      segments = segments;
      are = c.in-Ok.ensures.segments;
      positive = c.in-Ok-push.ensures.positive;
      told = c.in-Ok.ensures.told;
      own = more.0;
      term = more.1;
      made = more.2 ∙ ap (λ (n : ℕ). chosen_heads n segments) c.requires.docs;
      longer = more.3;
    }

pub returns-in-Err-clause-leaves : goal.returns-in-Err-clause-leaves
returns-in-Err-clause-leaves g c = c.entry_segments.ensures.leaves

pub returns-in-Err-clause-stays : goal.returns-in-Err-clause-stays
returns-in-Err-clause-stays g c = c.entry_segments.ensures.stays

pub returns-in-Err-clause-later : goal.returns-in-Err-clause-later
returns-in-Err-clause-later g c = c.entry_segments.ensures.later

pub returns-in-Err-clause-others : goal.returns-in-Err-clause-others
returns-in-Err-clause-others g c = c.entry_segments.ensures.others

pub returns-in-Err-clause-ready : goal.returns-in-Err-clause-ready
returns-in-Err-clause-ready g c = tt

pub returns-in-Err-clause-heads : goal.returns-in-Err-clause-heads
returns-in-Err-clause-heads g c = tt

pub returns-in-Err-clause-places : goal.returns-in-Err-clause-places
returns-in-Err-clause-places g c = tt

pub returns-in-Ok-push-clause-leaves : goal.returns-in-Ok-push-clause-leaves
returns-in-Ok-push-clause-leaves g c = c.entry_segments.ensures.leaves

pub returns-in-Ok-push-clause-stays : goal.returns-in-Ok-push-clause-stays
returns-in-Ok-push-clause-stays g c = c.entry_segments.ensures.stays

pub returns-in-Ok-push-clause-later : goal.returns-in-Ok-push-clause-later
returns-in-Ok-push-clause-later g c = c.entry_segments.ensures.later

pub returns-in-Ok-push-clause-others : goal.returns-in-Ok-push-clause-others
returns-in-Ok-push-clause-others g c = c.entry_segments.ensures.others

pub returns-in-Err-push-clause-leaves : goal.returns-in-Err-push-clause-leaves
returns-in-Err-push-clause-leaves g c = c.entry_segments.ensures.leaves

pub returns-in-Err-push-clause-stays : goal.returns-in-Err-push-clause-stays
returns-in-Err-push-clause-stays g c = c.entry_segments.ensures.stays

pub returns-in-Err-push-clause-later : goal.returns-in-Err-push-clause-later
returns-in-Err-push-clause-later g c = c.entry_segments.ensures.later

pub returns-in-Err-push-clause-others : goal.returns-in-Err-push-clause-others
returns-in-Err-push-clause-others g c = c.entry_segments.ensures.others

pub returns-in-Err-push-clause-ready : goal.returns-in-Err-push-clause-ready
returns-in-Err-push-clause-ready g c = tt

pub returns-in-Err-push-clause-heads : goal.returns-in-Err-push-clause-heads
returns-in-Err-push-clause-heads g c = tt

pub returns-in-Err-push-clause-places : goal.returns-in-Err-push-clause-places
returns-in-Err-push-clause-places g c = tt

pub returns-in-Err-clause-told : goal.returns-in-Err-clause-told
returns-in-Err-clause-told g c = c.in-Err.ensures.told

pub returns-in-Err-clause-fault : goal.returns-in-Err-clause-fault
returns-in-Err-clause-fault g c = c.in-Err.ensures.fault

pub returns-in-Ok-push-clause-ready : goal.returns-in-Ok-push-clause-ready
returns-in-Ok-push-clause-ready g c = c.in-Ok.ensures.ready

pub returns-in-Ok-push-clause-places : goal.returns-in-Ok-push-clause-places
returns-in-Ok-push-clause-places g c = c.in-Ok-push.ensures.places

pub returns-in-Ok-push-clause-told : goal.returns-in-Ok-push-clause-told
returns-in-Ok-push-clause-told g c = nothing_told (g.C.Cabinet.told c.args.files.now) c.args.walk.now.name

pub returns-in-Ok-push-clause-fault : goal.returns-in-Ok-push-clause-fault
returns-in-Ok-push-clause-fault g c = λ is. absurd (ok_unread is)

pub returns-in-Err-push-clause-told : goal.returns-in-Err-push-clause-told
returns-in-Err-push-clause-told g c = nothing_told (g.C.Cabinet.told c.args.files.now) c.args.walk.now.name

pub returns-in-Err-push-clause-fault : goal.returns-in-Err-push-clause-fault
returns-in-Err-push-clause-fault g c = λ is. absurd (memory_unread is)

pub entry_segments-requires-clause-ready : goal.entry_segments-requires-clause-ready
entry_segments-requires-clause-ready g c = c.requires.ready

pub entry_segments-requires-clause-given : goal.entry_segments-requires-clause-given
entry_segments-requires-clause-given g c = c.requires.given

pub entry_segments-requires-clause-keeps : goal.entry_segments-requires-clause-keeps
entry_segments-requires-clause-keeps g c = c.requires.keeps

pub entry_segments-requires-clause-told : goal.entry_segments-requires-clause-told
entry_segments-requires-clause-told g c = c.requires.told

pub entry_segments-requires-clause-docs : goal.entry_segments-requires-clause-docs
entry_segments-requires-clause-docs g c = c.requires.docs

pub entry_segments-requires-clause-width : goal.entry_segments-requires-clause-width
entry_segments-requires-clause-width g c = c.requires.width

pub entry_segments-requires-clause-low : goal.entry_segments-requires-clause-low
entry_segments-requires-clause-low g c = c.requires.low
