-- What is spelled is the list of the entry.
use Rattle.shared_lemmas.proofs.Common.{ℕ, ◌++◌, List, ap, ap₂, arith, subst, ◌∙◌}
use Rattle.index_layout.specs.Heads.{TermHeads as EntryData}
use Rattle.index_import.proofs.Below.{SegmentData, chosen_heads, chosen_payloads}
use Rattle.index_import.specs.Private.Spelling.{PutsTerm}
use Rattle.index_import.proofs.SegmentTurns.{few_segments}
use Rattle.index_import.proofs.Again.{memory_unread, nothing_told, ok_unread}
use Rattle.index_import.proofs.spelling.Speller.spell.Goals as goal

pub put-requires-clause-few : goal.put-requires-clause-few
put-requires-clause-few g c =
    let of = c.in-Ok.ensures.segments in
    omega (arith, few_segments c.args.walk.now.docs c.entry_segments.new.segments of.docs_are, of.postings, c.requires.postings)

pub returns-in-Ok-put-clause-spelled : goal.returns-in-Ok-put-clause-spelled
returns-in-Ok-put-clause-spelled g c =
    let segments : List SegmentData = c.entry_segments.new.segments in
    record {
      segments = segments;
      are = c.in-Ok.ensures.segments;
      positive = c.in-Ok-put.ensures.positive;
      told = c.in-Ok.ensures.told;
      put = subst (PutsTerm c.args.self.now.terms c.put.new.self.terms)
          (ap₂ (λ (term : List ℕ) (n : ℕ). (let entry : EntryData = record { term = term; heads = chosen_heads n segments } in entry)) c.as_str.ensures c.requires.docs) c.in-Ok-put.ensures.terms;
      longer = c.in-Ok-put.ensures.payloads ∙ ap (λ (n : ℕ). (c.args.self.now.payloads ++ c.args.self.now.block) ++ chosen_payloads n segments) c.requires.docs;
    }

pub returns-in-Err-clause-leaves : goal.returns-in-Err-clause-leaves
returns-in-Err-clause-leaves g c = c.entry_segments.ensures.leaves

pub returns-in-Err-clause-stays : goal.returns-in-Err-clause-stays
returns-in-Err-clause-stays g c = c.entry_segments.ensures.stays

pub returns-in-Err-clause-later : goal.returns-in-Err-clause-later
returns-in-Err-clause-later g c = c.entry_segments.ensures.later

pub returns-in-Err-clause-others : goal.returns-in-Err-clause-others
returns-in-Err-clause-others g c = c.entry_segments.ensures.others

pub returns-in-Err-clause-ready : goal.returns-in-Err-clause-ready
returns-in-Err-clause-ready g c = tt

pub returns-in-Err-clause-spelled : goal.returns-in-Err-clause-spelled
returns-in-Err-clause-spelled g c = tt

pub returns-in-Ok-put-clause-leaves : goal.returns-in-Ok-put-clause-leaves
returns-in-Ok-put-clause-leaves g c = c.entry_segments.ensures.leaves

pub returns-in-Ok-put-clause-stays : goal.returns-in-Ok-put-clause-stays
returns-in-Ok-put-clause-stays g c = c.entry_segments.ensures.stays

pub returns-in-Ok-put-clause-later : goal.returns-in-Ok-put-clause-later
returns-in-Ok-put-clause-later g c = c.entry_segments.ensures.later

pub returns-in-Ok-put-clause-others : goal.returns-in-Ok-put-clause-others
returns-in-Ok-put-clause-others g c = c.entry_segments.ensures.others

pub returns-in-Err-put-clause-leaves : goal.returns-in-Err-put-clause-leaves
returns-in-Err-put-clause-leaves g c = c.entry_segments.ensures.leaves

pub returns-in-Err-put-clause-stays : goal.returns-in-Err-put-clause-stays
returns-in-Err-put-clause-stays g c = c.entry_segments.ensures.stays

pub returns-in-Err-put-clause-later : goal.returns-in-Err-put-clause-later
returns-in-Err-put-clause-later g c = c.entry_segments.ensures.later

pub returns-in-Err-put-clause-others : goal.returns-in-Err-put-clause-others
returns-in-Err-put-clause-others g c = c.entry_segments.ensures.others

pub returns-in-Err-put-clause-ready : goal.returns-in-Err-put-clause-ready
returns-in-Err-put-clause-ready g c = tt

pub returns-in-Err-put-clause-spelled : goal.returns-in-Err-put-clause-spelled
returns-in-Err-put-clause-spelled g c = tt

pub returns-in-Err-clause-told : goal.returns-in-Err-clause-told
returns-in-Err-clause-told g c = c.in-Err.ensures.told

pub returns-in-Err-clause-fault : goal.returns-in-Err-clause-fault
returns-in-Err-clause-fault g c = c.in-Err.ensures.fault

pub returns-in-Ok-put-clause-ready : goal.returns-in-Ok-put-clause-ready
returns-in-Ok-put-clause-ready g c = c.in-Ok.ensures.ready

pub returns-in-Ok-put-clause-told : goal.returns-in-Ok-put-clause-told
returns-in-Ok-put-clause-told g c = nothing_told (g.C.Cabinet.told c.args.files.now) c.args.walk.now.name

pub returns-in-Ok-put-clause-fault : goal.returns-in-Ok-put-clause-fault
returns-in-Ok-put-clause-fault g c = λ is. absurd (ok_unread is)

pub returns-in-Err-put-clause-told : goal.returns-in-Err-put-clause-told
returns-in-Err-put-clause-told g c = nothing_told (g.C.Cabinet.told c.args.files.now) c.args.walk.now.name

pub returns-in-Err-put-clause-fault : goal.returns-in-Err-put-clause-fault
returns-in-Err-put-clause-fault g c = λ is. absurd (memory_unread is)

pub entry_segments-requires-clause-ready : goal.entry_segments-requires-clause-ready
entry_segments-requires-clause-ready g c = c.requires.ready

pub entry_segments-requires-clause-given : goal.entry_segments-requires-clause-given
entry_segments-requires-clause-given g c = c.requires.given

pub entry_segments-requires-clause-keeps : goal.entry_segments-requires-clause-keeps
entry_segments-requires-clause-keeps g c = c.requires.keeps

pub entry_segments-requires-clause-told : goal.entry_segments-requires-clause-told
entry_segments-requires-clause-told g c = c.requires.told

pub entry_segments-requires-clause-docs : goal.entry_segments-requires-clause-docs
entry_segments-requires-clause-docs g c = c.requires.docs

pub entry_segments-requires-clause-width : goal.entry_segments-requires-clause-width
entry_segments-requires-clause-width g c = c.requires.width

pub entry_segments-requires-clause-low : goal.entry_segments-requires-clause-low
entry_segments-requires-clause-low g c = c.requires.low
