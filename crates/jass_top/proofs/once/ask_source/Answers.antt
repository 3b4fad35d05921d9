use Rattle.std.proofs.Common.{◌≡◌, [], refl, ap, ◌∙◌, inl, inr, arith}
use Rattle.jass_top.proofs.Below.{query_data, query_of, report_of}
use Rattle.jass_top.specs.declared.stop.Stop.TheVariants as stops
use Rattle.jass_top.specs.Answers.{once_query}
use Rattle.jass_top.specs.Private.HeldIndexes.{asking_meaning}
use Rattle.jass_top.specs.Private.OnceTexts.{once_of}
use Rattle.jass_top.specs.Private.Worlds.{with_output, with_steps}
use Rattle.jass_top.proofs.JudgedFiles.{fits}
use Rattle.jass_top.proofs.Asking.{answered, exact}
use Rattle.jass_top.proofs.Stopping.{ran_on_output, stopped}
use Rattle.jass_top.proofs.Turns.{scored_none}
use Rattle.jass_top.proofs.once.ask_source.Goals as goal

pub returns-in_default : goal.returns-in_default
returns-in_default g c = λ beside.
    ran_on_output refl refl refl refl refl refl refl refl
    (stopped (asking_meaning c.args.input.now (g.S.Source.index c.args.source.now) (once_of c.args.question)) (with_output g.O.Sink c.args.out.now (with_steps c.args.steps.now beside)) stops.NoMemory tt)

pub returns-in_default-new : goal.returns-in_default-new
returns-in_default-new g c = λ beside.
    ran_on_output refl refl refl refl refl refl refl refl
    (stopped (asking_meaning c.args.input.now (g.S.Source.index c.args.source.now) (once_of c.args.question)) (with_output g.O.Sink c.args.out.now (with_steps c.args.steps.now beside)) stops.NoMemory tt)

pub returns-in-Err-NoMemory : goal.returns-in-Err-NoMemory
returns-in-Err-NoMemory g c = λ beside.
    ran_on_output refl refl refl refl refl refl refl refl
    (stopped (asking_meaning c.args.input.now (g.S.Source.index c.args.source.now) (once_of c.args.question)) (with_output g.O.Sink c.args.out.now (with_steps c.args.steps.now beside)) stops.NoMemory tt)

pub returns-in-Ok-answered : goal.returns-in-Ok-answered
returns-in-Ok-answered g c = λ beside.
    let index = g.S.Source.index c.args.source.now in let did = c.answer_session-answered.ensures in let s = c.answer_session-answered.new.session in
    let pool = c.answer_session-answered.new.pool in let opened = c.in-Ok-open in
    let asks : query_data (query_of opened.session) ≡ once_query index (once_of c.args.question)
    = ap query_data opened.ensures.query ∙ c.in-Ok.ensures.query in
    let none : (report_of opened.session).postings ≡ 0 = scored_none c.the_prefix_is_the_longest.ensures.fits index opened.session c.open.new.pool opened.ensures.stands opened.ensures.granted in
    ran_on_output refl refl refl refl refl refl refl c.in-Ok-answered.ensures.text.rest_stays (record {
      inputs = index;
      input = [];
      output = answered index (once_of c.args.question) opened.session s pool did.stands did.same asks opened.ensures.k did.granted opened.ensures.granted;
      accepted = inr (fits c.args.input.now index c.requires);
      had = λ feeds. cc;
      exact = exact index (once_of c.args.question) opened.session s pool did.stands did.same asks opened.ensures.k did.granted opened.ensures.granted
          (c.reports_of_sessions_keep_their_promises.ensures.report s index pool did.stands) (c.reports_of_sessions_keep_their_promises.ensures.promised s index pool c.is_searchable.ensures did.stands);
      left = record { content = refl; text = c.in-Ok-answered.ensures.text.bytes; steps = omega (arith, did.steps, none) };
    })

pub returns-in-Err : goal.returns-in-Err
returns-in-Err g c = λ beside.
    let index = g.S.Source.index c.args.source.now in let did = c.answer_session-answered.ensures in let s = c.answer_session-answered.new.session in
    let pool = c.answer_session-answered.new.pool in let opened = c.in-Ok-open in
    let asks : query_data (query_of opened.session) ≡ once_query index (once_of c.args.question)
    = ap query_data opened.ensures.query ∙ c.in-Ok.ensures.query in
    let none : (report_of opened.session).postings ≡ 0 = scored_none c.the_prefix_is_the_longest.ensures.fits index opened.session c.open.new.pool opened.ensures.stands opened.ensures.granted in
    ran_on_output refl refl refl refl refl refl refl c.in-Err.ensures.text.rest_stays (
      inl (refl, refl, c.in-Err.ensures.text.cause.failed),
      record {
        inputs = index;
        accepted = inr (fits c.args.input.now index c.requires);
        stands = record {
          output = answered index (once_of c.args.question) opened.session s pool did.stands did.same asks opened.ensures.k did.granted opened.ensures.granted;
          exact = exact index (once_of c.args.question) opened.session s pool did.stands did.same asks opened.ensures.k did.granted opened.ensures.granted
              (c.reports_of_sessions_keep_their_promises.ensures.report s index pool did.stands) (c.reports_of_sessions_keep_their_promises.ensures.promised s index pool c.is_searchable.ensures did.stands);
          stands = record { told = refl; text = c.in-Err.ensures.text.bytes; steps = record { never_less = omega (arith, did.steps, none); at_most = omega (arith, did.steps, none) } };
        };
      },
    )
