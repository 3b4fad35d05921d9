use Rattle.std.proofs.Common.{◌∙◌, ◌≤◌, ap, sym, subst, length, arith, replicate}
use Rattle.session_engine.proofs.Below.{chain_view, size_of_first, AreTerms, HasShape, PlanView}
use Rattle.session_engine.specs.Plans.{session_plan}
use Rattle.session_engine.proofs.First.{given_back}
use Rattle.session_engine.proofs.session.Session.open.Goals as goal

pub returns-in-Ok-new-clause-stands : goal.returns-in-Ok-new-clause-stands
returns-in-Ok-new-clause-stands g c =
    let index = g.S.Source.index c.args.source.now in let terms = c.args.query.terms in
    let are : AreTerms c.args.query.terms = record { few = c.args.query.few; named = c.args.query.named; differ = c.args.query.differ } in
    let made = c.in-Ok-new.ensures in
    let view = ap (chain_view c.promise.new.self) made.chain ∙ c.in-Ok-promise.ensures.view in
    let sums = made.scores ∙ ap (λ n. replicate n 0) c.docs.ensures ∙ sym (c.nothing_is_scored_at_first.ensures.scores index terms) in
    record {
      planned = c.in-Ok.ensures;
      prefix = sym (c.nothing_is_scored_at_first.ensures.prefix index terms c.is_searchable.ensures.is_well_formed are c.requires.known);
      scored = record {
        stand = made.stand;
        docs = made.docs ∙ c.docs.ensures ∙ sym (c.a_session_plan_names_its_segments.ensures.docs index terms);
        sums = sums;
        frames = subst (λ v. length v.frames ≤ size_of_first 0 (session_plan index terms).segments) (sym view) (omega arith);
        promise = ap (λ v. v.promise) view ∙ c.need-need.ensures;
      };
      settled = made.settled;
      asked = made.k;
      report = c.report_at-report.ensures (session_plan index terms)
          (subst (λ (p : PlanView). HasShape p (session_plan index terms)) (sym c.in-Ok.ensures.arranged) (c.a_session_plan_names_its_segments.ensures.shape index terms c.is_searchable.ensures.is_well_formed are c.requires.known)) sums;
    }

pub returns-in-Err-clause-refused : goal.returns-in-Err-clause-refused
returns-in-Err-clause-refused g c =
    given_back c.args.pool.now c.promise.new.self c.give_back.new.self c.in-Ok-promise.chain c.in-Err.chain c.need-need.result c.in-Ok-promise.ensures.promised c.in-Err.ensures.err c.give_back.ensures.frames c.give_back.ensures.chains
