use Rattle.std.proofs.Common.{◌≡◌, ◌+◌, ◌-◌, ◌≤◌}
use Rattle.trial_data.specs.Trials.{queries_from}
use Rattle.jass_top.specs.SearchTexts.{queries_steps}
use Rattle.jass_top.specs.Private.SearchRuns.{IsReady}
use Rattle.jass_top.specs.TrialMeaning.{queries_over, trial_budgets}
use Rattle.jass_top.specs.TrialSums.{no_sums, with_queries}
use Rattle.jass_top.specs.Private.SmallSums.{AreSmallSums}
use Rattle.jass_top.proofs.trial_queries.try_queries.Given as goal

abbrev pub invariant-queries : goal.invariant-queries
invariant-queries g l = record {
  ready : IsReady (g.S.Source.index l.source) l.pool;
  small : AreSmallSums l.counter l.sums;
  summed : with_queries (g.S.Source.index l.source) (queries_over (g.S.Source.index l.source) (queries_from l.terms (l.queries - l.counter) l.draws)) l.sums ≡ with_queries (g.S.Source.index l.source) (queries_over (g.S.Source.index l.source) (queries_from l.terms l.queries l.fn.draws)) no_sums;
  steps : l.steps + queries_steps (g.S.Source.index l.source) trial_budgets (queries_over (g.S.Source.index l.source) (queries_from l.terms (l.queries - l.counter) l.draws)) ≡ l.fn.steps + queries_steps (g.S.Source.index l.source) trial_budgets (queries_over (g.S.Source.index l.source) (queries_from l.terms l.queries l.fn.draws));
  later : l.fn.steps ≤ l.steps;
}
