use Rattle.shared_lemmas.proofs.Common.{◌≡◌, ◌+◌, ◌≤◌, take, drop, length}
use Rattle.ranking_model.specs.Plan.{granted_sum, size_of_first}
use Rattle.ranking_model.specs.Scores.{scores_after}
use Rattle.ranking_model.specs.Search.{prefixes_granted, query_data}
use Rattle.run_audit.specs.Private.Places.{AdvancesTo, AreWithin}
use Rattle.run_audit.specs.Private.Working.{IsRoomFor}
use Rattle.run_audit.specs.Private.Texts.{first_part_of, reports_at, rows_at}
use Rattle.run_audit.proofs.budgets.check_budgets.Given as goal

abbrev pub invariant-loop-budget : goal.invariant-loop-budget
invariant-loop-budget l = record {
  part : l.part ≡ first_part_of l.search.budgets.now + l.budget-index;
  granted : l.granted ≡ granted_sum (take l.budget-index l.search.budgets.now);
  there : l.scored ≤ length l.plan.segments;
  paid : size_of_first l.scored l.plan.segments ≤ l.granted;
  scores : l.work.scores.items ≡ scores_after l.scored l.plan;
  room : IsRoomFor (length l.index.index.names) l.work;
  within : AreWithin l.given l.places;
  run : AdvancesTo l.given.run.now l.fn.places.run l.places.run (rows_at l.index.index.names l.plan l.search.k l.search.tag.now (query_data l.query) (first_part_of l.search.budgets.now) (prefixes_granted l.search.budgets.now l.plan))
      (rows_at l.index.index.names l.plan l.search.k l.search.tag.now (query_data l.query) l.part (drop l.budget-index (prefixes_granted l.search.budgets.now l.plan)));
  reports : AdvancesTo l.given.reports.now l.fn.places.reports l.places.reports (reports_at l.plan l.search.k (query_data l.query) (prefixes_granted l.search.budgets.now l.plan))
      (reports_at l.plan l.search.k (query_data l.query) (drop l.budget-index (prefixes_granted l.search.budgets.now l.plan)));
}
