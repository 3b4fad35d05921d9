use Rattle.shared_lemmas.proofs.Common.{◌≡◌, ◌+◌, ◌≤◌, AllByRecursion}
use Rattle.jass_top.proofs.Below.{Query, AreKnown}
use Rattle.jass_top.specs.declared.search_stop.SearchStop.TheVariants.{Unwritten}
use Rattle.jass_top.specs.declared.search_stop.SearchOutput.TheVariants.{Run, Reports}
use Rattle.jass_top.specs.SearchMeaning.{search_until}
use Rattle.jass_top.specs.SearchTexts.{search_output}
use Rattle.jass_top.specs.Private.SearchRuns.{IsReady, MayStop, asked_of}
use Rattle.jass_top.proofs.Sides.{SideUpTo}
use Rattle.jass_top.proofs.search_queries.gather_queries.Given as goal

abbrev pub invariant-loop-query : goal.invariant-loop-query
invariant-loop-query g l = (
    let index = g.S.Source.index l.source in
    let search = search_until l.until l.k l.budgets l.tag in
    record {
      known : AllByRecursion (λ (query : Query). AreKnown index query.terms) l.query-iterator.rest.items;
      few_terms : AllByRecursion (MayStop l.until) l.query-iterator.rest.items;
      ready : IsReady index l.pool;
      steps : l.steps + (search_output index search (asked_of l.query-iterator.rest.items)).steps ≡ l.fn.steps + (search_output index search (asked_of l.fn.queries)).steps;
      later : l.fn.steps ≤ l.steps;
      run : SideUpTo g.R.Sink.written g.R.Sink.faults g.R.Sink.rest (Unwritten Run) l.fn.run l.run l.fn.run_buffer l.run_buffer (search_output index search (asked_of l.fn.queries)).content (search_output index search (asked_of l.query-iterator.rest.items)).content;
      out : SideUpTo g.O.Sink.written g.O.Sink.faults g.O.Sink.rest (Unwritten Reports) l.fn.out l.out l.fn.out_buffer l.out_buffer (search_output index search (asked_of l.fn.queries)).text (search_output index search (asked_of l.query-iterator.rest.items)).text;
    })
