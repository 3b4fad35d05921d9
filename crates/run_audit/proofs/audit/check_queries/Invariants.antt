use Rattle.shared_lemmas.proofs.Common.{◌≡◌, ◌+◌, ◌≤◌, drop, length}
use Rattle.index_model.specs.Flat.{numbered_flat}
use Rattle.run_audit.specs.Audits.{queries_data, queries_postings}
use Rattle.run_audit.specs.Private.Places.{AdvancesTo, AreWithin}
use Rattle.run_audit.specs.Private.Working.{IsRoomFor}
use Rattle.run_audit.specs.Private.Texts.{queries_reports, queries_rows}
use Rattle.run_audit.proofs.audit.check_queries.Given as goal

abbrev pub invariant-loop-query : goal.invariant-loop-query
invariant-loop-query g l = record {
  steps : l.steps + queries_postings (numbered_flat l.index.index) (queries_data (drop l.query-index l.queries)) ≡ l.fn.steps + queries_postings (numbered_flat l.index.index) (queries_data l.queries);
  later : l.fn.steps ≤ l.steps;
  within : AreWithin l.given l.places;
  room : IsRoomFor (length l.index.index.names) l.work;
  run : AdvancesTo l.given.run.now l.fn.places.run l.places.run (queries_rows l.index.index.names (numbered_flat l.index.index) l.search.k l.search.budgets.now l.search.tag.now (queries_data l.queries))
      (queries_rows l.index.index.names (numbered_flat l.index.index) l.search.k l.search.budgets.now l.search.tag.now (queries_data (drop l.query-index l.queries)));
  reports : AdvancesTo l.given.reports.now l.fn.places.reports l.places.reports (queries_reports l.index.index.names (numbered_flat l.index.index) l.search.k l.search.budgets.now (queries_data l.queries))
      (queries_reports l.index.index.names (numbered_flat l.index.index) l.search.k l.search.budgets.now (queries_data (drop l.query-index l.queries)));
}
