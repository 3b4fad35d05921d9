use Rattle.shared_lemmas.proofs.Common.{◌≡◌, ℕ, ◌+◌, ◌∙◌, List, length, Some, subst, sym, arith, refl, slice_get}
use Rattle.session_engine.proofs.Below.{QueryTerm, AreTerms, IsWellFormed, IndexData, PlanEntry, PlanView}
use Rattle.sharp_bounds.specs.Marks.{AreMarkedTo}
use Rattle.session_engine.proofs.Pieces.{segment_inside}
use Rattle.session_engine.specs.Plans.{HasEntry, docs_named, segment_named, term_of, need_of, plan_postings, session_plan}
use Rattle.session_engine.specs.Standing.{IsPlanned}
use Rattle.session_engine.proofs.Scored.{Progress, fits_count, fits_next, next, room_next, started}
use Rattle.session_engine.proofs.entries.score_entries.Goals as goal

has_entry : {index : IndexData} {terms : List QueryTerm} {plan : PlanView} {n : ℕ} {entry : PlanEntry} → IsWellFormed index → AreTerms terms → IsPlanned index terms plan
    → slice_get plan.entries n ≡ Some entry → HasEntry index terms n entry
has_entry {n = n} {entry} is named planned at =
    record { is_well_formed = is; named = named; known = planned.known; at = subst (λ (p : PlanView). slice_get p.entries n ≡ Some entry) planned.arranged at }

pub loop-i-init : goal.loop-i-init
loop-i-init g c = (started c.args.from (need_of (g.S.Source.index c.args.source.now) c.args.terms.now) (session_plan (g.S.Source.index c.args.source.now) c.args.terms.now) c.args.scores.now c.args.pool.now c.args.steps.now c.requires.scored (c.calls_on_one_chain.ensures.none c.args.pool.now _), (λ are. are), (λ place room. room), (λ doc room. room))

pub bounds-terms-entry : goal.bounds-terms-entry
bounds-terms-entry g c = (c.one_entry_more_is_scored.ensures.names _ _ c.loop-i.i c.entry-entry.result
    (has_entry c.is_searchable.ensures.is_well_formed c.requires.terms c.requires.planned c.entry-entry.ensures)).term_place

pub score_segment-requires-clause-term : goal.score_segment-requires-clause-term
score_segment-requires-clause-term g c = (c.one_entry_more_is_scored.ensures.names _ _ c.loop-i.i c.entry-entry.result
    (has_entry c.is_searchable.ensures.is_well_formed c.requires.terms c.requires.planned c.entry-entry.ensures)).term

pub score_segment-requires-clause-segment : goal.score_segment-requires-clause-segment
score_segment-requires-clause-segment g c = (c.one_entry_more_is_scored.ensures.names _ _ c.loop-i.i c.entry-entry.result
    (has_entry c.is_searchable.ensures.is_well_formed c.requires.terms c.requires.planned c.entry-entry.ensures)).segment

pub score_segment-requires-clause-count : goal.score_segment-requires-clause-count
score_segment-requires-clause-count g c = (c.one_entry_more_is_scored.ensures.names _ _ c.loop-i.i c.entry-entry.result
    (has_entry c.is_searchable.ensures.is_well_formed c.requires.terms c.requires.planned c.entry-entry.ensures)).count

pub score_segment-requires-clause-weight : goal.score_segment-requires-clause-weight
score_segment-requires-clause-weight g c = (c.one_entry_more_is_scored.ensures.names _ _ c.loop-i.i c.entry-entry.result
    (has_entry c.is_searchable.ensures.is_well_formed c.requires.terms c.requires.planned c.entry-entry.ensures)).weight

pub score_segment-requires-clause-docs : goal.score_segment-requires-clause-docs
score_segment-requires-clause-docs g c = c.loop-i.invariant.0.scored.docs ∙ c.a_session_plan_names_its_segments.ensures.docs (g.S.Source.index c.args.source.now) c.args.terms.now

pub score_segment-requires-clause-fits : goal.score_segment-requires-clause-fits
score_segment-requires-clause-fits g c =
    let has : HasEntry (g.S.Source.index c.args.source.now) c.args.terms.now c.loop-i.i c.entry-entry.result =
    has_entry c.is_searchable.ensures.is_well_formed c.requires.terms c.requires.planned c.entry-entry.ensures in
    fits_next c.loop-i.invariant.0 c.entry-entry.result.weight (docs_named (g.S.Source.index c.args.source.now) c.args.terms.now c.entry-entry.result) (c.one_entry_more_is_scored.ensures.scores (g.S.Source.index c.args.source.now) c.args.terms.now c.loop-i.i c.entry-entry.result has)
    (c.scores_stay_small.ensures.scores (c.loop-i.i + 1) (session_plan (g.S.Source.index c.args.source.now) c.args.terms.now) (c.a_session_plan_is_small.ensures (g.S.Source.index c.args.source.now) c.args.terms.now c.is_searchable.ensures c.requires.terms c.requires.planned.times))

pub score_segment-requires-clause-room : goal.score_segment-requires-clause-room
score_segment-requires-clause-room g c =
    let has : HasEntry (g.S.Source.index c.args.source.now) c.args.terms.now c.loop-i.i c.entry-entry.result =
    has_entry c.is_searchable.ensures.is_well_formed c.requires.terms c.requires.planned c.entry-entry.ensures in
    room_next c.loop-i.invariant.0 c.entry-entry.result.count (length (g.S.Source.index c.args.source.now).names) (plan_postings (session_plan (g.S.Source.index c.args.source.now) c.args.terms.now)) (c.one_entry_more_is_scored.ensures.size (g.S.Source.index c.args.source.now) c.args.terms.now c.loop-i.i c.entry-entry.result has)
    (c.one_entry_more_is_scored.ensures.most (g.S.Source.index c.args.source.now) c.args.terms.now (c.loop-i.i + 1)) (c.a_session_plan_names_its_segments.ensures.docs (g.S.Source.index c.args.source.now) c.args.terms.now) refl

pub overflow_add-postings : goal.overflow_add-postings
overflow_add-postings g c =
    let has : HasEntry (g.S.Source.index c.args.source.now) c.args.terms.now c.loop-i.i c.entry-entry.result =
    has_entry c.is_searchable.ensures.is_well_formed c.requires.terms c.requires.planned c.entry-entry.ensures in
    let small = fits_count c.loop-i.invariant.0 c.entry-entry.result.count (plan_postings (session_plan (g.S.Source.index c.args.source.now) c.args.terms.now)) (c.one_entry_more_is_scored.ensures.size (g.S.Source.index c.args.source.now) c.args.terms.now c.loop-i.i c.entry-entry.result has)
    (c.one_entry_more_is_scored.ensures.most (g.S.Source.index c.args.source.now) c.args.terms.now (c.loop-i.i + 1)) (c.a_session_plan_is_small.ensures (g.S.Source.index c.args.source.now) c.args.terms.now c.is_searchable.ensures c.requires.terms c.requires.planned.times).postings in
    omega (arith, small, c.from-postings.ensures)

pub loop-i-preserved : goal.loop-i-preserved
loop-i-preserved g c =
    let has : HasEntry (g.S.Source.index c.args.source.now) c.args.terms.now c.loop-i.i c.entry-entry.result =
    has_entry c.is_searchable.ensures.is_well_formed c.requires.terms c.requires.planned c.entry-entry.ensures in
    let more = next c.loop-i.invariant.0 c.entry-entry.result.count c.entry-entry.result.weight (docs_named (g.S.Source.index c.args.source.now) c.args.terms.now c.entry-entry.result) c.score_segment.new.scores c.score_segment.new.pool c.score_segment.new.steps
    (c.one_entry_more_is_scored.ensures.scores (g.S.Source.index c.args.source.now) c.args.terms.now c.loop-i.i c.entry-entry.result has) (c.one_entry_more_is_scored.ensures.size (g.S.Source.index c.args.source.now) c.args.terms.now c.loop-i.i c.entry-entry.result has)
    c.score_segment.ensures.scores c.score_segment.ensures.frames c.score_segment.ensures.stand c.score_segment.ensures.same c.score_segment.ensures.leaves c.score_segment.ensures.steps c.calls_on_one_chain.ensures.two in (
      subst (λ n. Progress c.args.from (c.loop-i.i + 1) (need_of (g.S.Source.index c.args.source.now) c.args.terms.now) (session_plan (g.S.Source.index c.args.source.now) c.args.terms.now) c.args.scores.now c.args.pool.now c.score_segment.new.scores c.score_segment.new.pool
          c.args.steps.now c.score_segment.new.steps (c.loop-i.postings + n)) (sym c.from-postings.ensures) more,
      (λ are. subst (λ (m : List ℕ). AreMarkedTo (c.loop-i.i + 1) (session_plan (g.S.Source.index c.args.source.now) c.args.terms.now) m) (sym c.score_segment.ensures.masks)
          (c.each_posting_marks_its_document.ensures.segment c.loop-i.i (session_plan (g.S.Source.index c.args.source.now) c.args.terms.now) (segment_named (g.S.Source.index c.args.source.now) c.args.terms.now c.entry-entry.result) (g.M.Marks.masks c.loop-i.marks)
          (c.one_entry_more_is_scored.ensures.segment (g.S.Source.index c.args.source.now) c.args.terms.now c.loop-i.i c.entry-entry.result has) (c.loop-i.invariant.1 are))),
      (λ place room. c.score_segment.ensures.places place (c.loop-i.invariant.2 place room)),
      (λ doc room. c.score_segment.ensures.marks doc (c.loop-i.invariant.3 doc room)),
    )

pub score_segment-requires-clause-marks : goal.score_segment-requires-clause-marks
score_segment-requires-clause-marks g c =
    let index = g.S.Source.index c.args.source.now in
    let names = c.one_entry_more_is_scored.ensures.names index c.args.terms.now c.loop-i.i c.entry-entry.result
    (has_entry c.is_searchable.ensures.is_well_formed c.requires.terms c.requires.planned c.entry-entry.ensures) in
    let below = (segment_inside index (term_of c.args.terms.now c.entry-entry.result.term_place) c.entry-entry.result.segment c.is_searchable.ensures.is_well_formed names.term names.segment).below in
    λ k d inside. c.loop-i.invariant.3 _ (c.requires.marks _ (below k d inside))

pub score_segment-requires-clause-place : goal.score_segment-requires-clause-place
score_segment-requires-clause-place g c =
    let names = c.one_entry_more_is_scored.ensures.names (g.S.Source.index c.args.source.now) c.args.terms.now c.loop-i.i c.entry-entry.result
    (has_entry c.is_searchable.ensures.is_well_formed c.requires.terms c.requires.planned c.entry-entry.ensures) in
    c.loop-i.invariant.2 c.entry-entry.result.term_place (c.requires.places c.entry-entry.result.term_place names.term_place)
