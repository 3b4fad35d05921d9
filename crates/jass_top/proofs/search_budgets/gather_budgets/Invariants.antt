use Rattle.std.proofs.Common.{◌≡◌, ◌+◌, take, drop}
use Rattle.jass_top.proofs.Below.{LeavesPool, granted_sum, query_data}
use Rattle.jass_top.specs.declared.search_stop.SearchOutput.TheVariants.{Run, Reports}
use Rattle.jass_top.specs.SearchMeaning.{search_until}
use Rattle.jass_top.specs.SearchTexts.{first_part_of, parts_reports, parts_run, stops_for, stops_reports, stops_run}
use Rattle.jass_top.specs.Private.Engines.{EngineStands, IsEngineOf, chain_of, granted_of, k_of, query_of, report_of, until_of}
use Rattle.jass_top.proofs.Sides.{SideUpTo}
use Rattle.jass_top.proofs.search_budgets.gather_budgets.Given as goal

abbrev pub invariant-loop-budget : goal.invariant-loop-budget
invariant-loop-budget g l = (
    let index = g.S.Source.index l.source in
    let search = search_until (until_of l.fn.engine) (k_of l.fn.engine) l.budgets l.tag in
    let query = query_data (query_of l.fn.engine) in
    record {
      part : l.part ≡ first_part_of l.budgets + l.budget-index;
      stands : EngineStands l.engine index l.pool;
      same : IsEngineOf l.fn.engine l.engine;
      granted : granted_of l.engine ≡ granted_sum (take l.budget-index l.budgets);
      leaves : LeavesPool l.fn.pool l.pool (chain_of l.fn.engine);
      steps : l.steps ≡ l.fn.steps + (report_of l.engine).postings;
      run : SideUpTo g.R.Sink.written g.R.Sink.faults g.R.Sink.rest Run l.fn.run l.run l.fn.run_buffer l.run_buffer (stops_run index search query) (parts_run index search.k l.tag query l.part (drop l.budget-index (stops_for index search query)));
      out : SideUpTo g.O.Sink.written g.O.Sink.faults g.O.Sink.rest Reports l.fn.out l.out l.fn.out_buffer l.out_buffer (stops_reports index search query)
          (parts_reports index search.until search.k query (drop l.budget-index (stops_for index search query)));
    })
