use Rattle.shared_lemmas.proofs.Common.{◌≡◌, ◌+◌, ◌≤◌, AllByRecursion}
use Rattle.jass_top.proofs.Below.{Query, AreKnown}
use Rattle.jass_top.specs.declared.search_stop.SearchStop.TheVariants.{Unwritten}
use Rattle.jass_top.specs.declared.search_stop.SearchOutput.TheVariants.{Run, Reports}
use Rattle.jass_top.specs.ExhaustMeaning.{exhaustive_lines, exhaustive_runs, postings_of_queries}
use Rattle.jass_top.specs.Private.SearchRuns.{asked_of}
use Rattle.jass_top.proofs.Sides.{SideUpTo}
use Rattle.jass_top.proofs.exhaust_queries.gather_queries.Given as goal

abbrev pub invariant-loop-query : goal.invariant-loop-query
invariant-loop-query g l = record {
  known : AllByRecursion (λ (query : Query). AreKnown (g.S.Source.index l.source) query.terms) l.query-iterator.rest.items;
  steps : l.steps + postings_of_queries (g.S.Source.index l.source) (asked_of l.query-iterator.rest.items) ≡ l.fn.steps + postings_of_queries (g.S.Source.index l.source) (asked_of l.fn.queries);
  later : l.fn.steps ≤ l.steps;
  run : SideUpTo g.R.Sink.written g.R.Sink.faults g.R.Sink.rest (Unwritten Run) l.fn.run l.run l.fn.run_buffer l.run_buffer (exhaustive_runs (g.S.Source.index l.source) l.k l.tag (asked_of l.fn.queries)) (exhaustive_runs (g.S.Source.index l.source) l.k l.tag (asked_of l.query-iterator.rest.items));
  out : SideUpTo g.O.Sink.written g.O.Sink.faults g.O.Sink.rest (Unwritten Reports) l.fn.out l.out l.fn.out_buffer l.out_buffer (exhaustive_lines (g.S.Source.index l.source) l.k (asked_of l.fn.queries)) (exhaustive_lines (g.S.Source.index l.source) l.k (asked_of l.query-iterator.rest.items));
}
