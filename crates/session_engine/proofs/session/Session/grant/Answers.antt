use Rattle.std.proofs.Common.{◌≡◌, ◌+◌, ◌-◌, ◌≤◌, ◌∙◌, ap, sym, subst, List, arith}
use Rattle.session_engine.proofs.Below.{Report, QueryTerm, prefix_within, size_of_first, AreTerms, PlanView, HasShape}
use Rattle.session_engine.specs.Plans.{need_of, session_plan}
use Rattle.session_engine.specs.Standing.{ScoredTo, SessionStands}
use Rattle.session_engine.specs.View.{SessionView}
use Rattle.session_scores.specs.Scores.{room_of}
use Rattle.session_engine.proofs.Scored.{after_settle, prefix_grown}
use Rattle.session_engine.proofs.session.Session.grant.Goals as goal

pub overflow_add-before : goal.overflow_add-before
overflow_add-before g c =
    let s = c.self.inside in let index = g.S.Source.index c.args.source.now in let plan = session_plan index s.query.terms in
    let stands = subst (λ (v : SessionView). SessionStands v index c.args.pool.now) (sym c.self.view_is) c.requires.stands in
    let are : AreTerms s.query.terms = record { few = s.query.few; named = s.query.named; differ = s.query.differ } in
    let shape = subst (λ (p : PlanView). HasShape p plan) (sym stands.planned.arranged) (c.a_session_plan_names_its_segments.ensures.shape index s.query.terms c.is_searchable.ensures.is_well_formed are stands.planned.known) in
    let paid : s.report.postings ≡ size_of_first s.scored plan.segments = ap (λ (r : Report). r.postings) stands.report in
    let low : s.granted ≤ c.granted_with-self-inside.result = omega (arith, c.self.ranges, c.granted_with-self-inside.ensures) in
    let grown : s.scored + c.within-further.result ≡ prefix_within c.granted_with-self-inside.result plan.segments
    = prefix_grown s.scored s.granted c.granted_with-self-inside.result s.report.postings c.within-further.result plan.segments stands.prefix low paid
    (c.within-further.ensures.many ∙ sym (c.prefixes_are_those_of_the_plan.ensures.resumed s.plan plan s.scored (c.granted_with-self-inside.result - s.report.postings) shape)) c.a_prefix_is_resumed.ensures.prefix in
    let terms = c.as_slice-terms.ensures in
    let more : size_of_first s.scored plan.segments + c.score_entries-more.result ≡ size_of_first (s.scored + c.within-further.result) plan.segments
    = subst (λ (ts : List QueryTerm). size_of_first s.scored (session_plan index ts).segments + c.score_entries-more.result ≡ size_of_first (s.scored + c.within-further.result) (session_plan index ts).segments) terms c.score_entries-more.ensures.postings in
    let most = c.the_prefix_is_the_longest.ensures.fits c.granted_with-self-inside.result plan.segments in
    let same = ap (λ n. size_of_first n plan.segments) grown in
    omega (arith, paid, more, most, same, c.granted_with-self-inside.type_inv)

pub returns-then-further-eq0-clause-stands : goal.returns-then-further-eq0-clause-stands
returns-then-further-eq0-clause-stands g c =
    let s = c.self.inside in let index = g.S.Source.index c.args.source.now in let plan = session_plan index s.query.terms in
    let stands = subst (λ (v : SessionView). SessionStands v index c.args.pool.now) (sym c.self.view_is) c.requires.stands in
    let are : AreTerms s.query.terms = record { few = s.query.few; named = s.query.named; differ = s.query.differ } in
    let shape = subst (λ (p : PlanView). HasShape p plan) (sym stands.planned.arranged) (c.a_session_plan_names_its_segments.ensures.shape index s.query.terms c.is_searchable.ensures.is_well_formed are stands.planned.known) in
    let paid : s.report.postings ≡ size_of_first s.scored plan.segments = ap (λ (r : Report). r.postings) stands.report in
    let low : s.granted ≤ c.granted_with-self-inside.result = omega (arith, c.self.ranges, c.granted_with-self-inside.ensures) in
    let grown : s.scored + c.within-further.result ≡ prefix_within c.granted_with-self-inside.result plan.segments
    = prefix_grown s.scored s.granted c.granted_with-self-inside.result s.report.postings c.within-further.result plan.segments stands.prefix low paid
    (c.within-further.ensures.many ∙ sym (c.prefixes_are_those_of_the_plan.ensures.resumed s.plan plan s.scored (c.granted_with-self-inside.result - s.report.postings) shape)) c.a_prefix_is_resumed.ensures.prefix in
    record {
      planned = stands.planned;
      prefix = let none = c.if-further-eq0.true in omega (arith, none, grown);
      scored = stands.scored;
      settled = stands.settled;
      asked = stands.asked;
      report = stands.report;
    }

pub returns-clause-stands : goal.returns-clause-stands
returns-clause-stands g c =
    let s = c.self.inside in let index = g.S.Source.index c.args.source.now in let plan = session_plan index s.query.terms in
    let stands = subst (λ (v : SessionView). SessionStands v index c.args.pool.now) (sym c.self.view_is) c.requires.stands in
    let are : AreTerms s.query.terms = record { few = s.query.few; named = s.query.named; differ = s.query.differ } in
    let shape = subst (λ (p : PlanView). HasShape p plan) (sym stands.planned.arranged) (c.a_session_plan_names_its_segments.ensures.shape index s.query.terms c.is_searchable.ensures.is_well_formed are stands.planned.known) in
    let paid : s.report.postings ≡ size_of_first s.scored plan.segments = ap (λ (r : Report). r.postings) stands.report in
    let low : s.granted ≤ c.granted_with-self-inside.result = omega (arith, c.self.ranges, c.granted_with-self-inside.ensures) in
    let grown : s.scored + c.within-further.result ≡ prefix_within c.granted_with-self-inside.result plan.segments
    = prefix_grown s.scored s.granted c.granted_with-self-inside.result s.report.postings c.within-further.result plan.segments stands.prefix low paid
    (c.within-further.ensures.many ∙ sym (c.prefixes_are_those_of_the_plan.ensures.resumed s.plan plan s.scored (c.granted_with-self-inside.result - s.report.postings) shape)) c.a_prefix_is_resumed.ensures.prefix in
    let terms = c.as_slice-terms.ensures in
    let scored = after_settle (subst (λ (ts : List QueryTerm). ScoredTo (s.scored + c.within-further.result) (session_plan index ts) (need_of index ts) c.score_entries-more.new.scores c.score_entries-more.new.pool) terms c.score_entries-more.ensures.scored)
    c.settle.ensures.stand c.settle.ensures.scores c.settle.ensures.frames c.settle.ensures.same c.settle.ensures.leaves in
    let report = c.report_at-report.ensures plan shape scored.sums in
    record {
      planned = stands.planned;
      prefix = grown;
      scored = scored;
      settled = c.settle.ensures.settled;
      asked = c.settle.ensures.same.k ∙ c.score_entries-more.ensures.same.k ∙ stands.asked;
      report = report;
    }

pub returns-clause-steps : goal.returns-clause-steps
returns-clause-steps g c =
    let s = c.self.inside in let index = g.S.Source.index c.args.source.now in let plan = session_plan index s.query.terms in
    let stands = subst (λ (v : SessionView). SessionStands v index c.args.pool.now) (sym c.self.view_is) c.requires.stands in
    let are : AreTerms s.query.terms = record { few = s.query.few; named = s.query.named; differ = s.query.differ } in
    let shape = subst (λ (p : PlanView). HasShape p plan) (sym stands.planned.arranged) (c.a_session_plan_names_its_segments.ensures.shape index s.query.terms c.is_searchable.ensures.is_well_formed are stands.planned.known) in
    let paid : s.report.postings ≡ size_of_first s.scored plan.segments = ap (λ (r : Report). r.postings) stands.report in
    let terms = c.as_slice-terms.ensures in
    let more : size_of_first s.scored plan.segments + c.score_entries-more.result ≡ size_of_first (s.scored + c.within-further.result) plan.segments
    = subst (λ (ts : List QueryTerm). size_of_first s.scored (session_plan index ts).segments + c.score_entries-more.result ≡ size_of_first (s.scored + c.within-further.result) (session_plan index ts).segments) terms c.score_entries-more.ensures.postings in
    let scored = after_settle (subst (λ (ts : List QueryTerm). ScoredTo (s.scored + c.within-further.result) (session_plan index ts) (need_of index ts) c.score_entries-more.new.scores c.score_entries-more.new.pool) terms c.score_entries-more.ensures.scored)
    c.settle.ensures.stand c.settle.ensures.scores c.settle.ensures.frames c.settle.ensures.same c.settle.ensures.leaves in
    let report = c.report_at-report.ensures plan shape scored.sums in
    let postings = ap (λ (r : Report). r.postings) report in
    omega (arith, ap (λ (v : SessionView). v.report.postings) c.self.view_is, paid, more, postings, c.score_entries-more.ensures.steps)

pub returns-clause-more : goal.returns-clause-more
returns-clause-more g c = omega (arith, returns-clause-steps g c, c.score_entries-more.ensures.steps)

pub returns-clause-room : goal.returns-clause-room
returns-clause-room g c = record {
  plan = ap (λ (v : SessionView). v.plan) c.self.view_is;
  scores = c.settle.ensures.same.room ∙ c.score_entries-more.ensures.same.room ∙ ap (λ (v : SessionView). room_of v.scores) c.self.view_is;
}
