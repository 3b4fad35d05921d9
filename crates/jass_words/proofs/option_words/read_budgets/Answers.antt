use Rattle.std.proofs.Common.{rules, [], subst, sym}
use Rattle.jass_words.proofs.Commas.{split_more, split_bad, split_full, last_read, cut_some, cut_none, parts_of, IsSplit}
use Rattle.jass_words.proofs.option_words.read_budgets.Goals as goal

pub returns-in_default-read_budget-clause-none : goal.returns-in_default-read_budget-clause-none
returns-in_default-read_budget-clause-none c = λ none.
    split_bad c.args.value.now c.budgets.budgets c.budgets.rest.now c.in-Some.first.now (parts_of c.in-Some.behind.now) c.budgets.invariant.1 (cut_some c.budgets.rest.now c.in-Some.first c.in-Some.behind c.in-Some.ensures.cases) (c.read_budget.ensures.none c.in_default-read_budget.is)

pub returns-in_default-with-clause-none : goal.returns-in_default-with-clause-none
returns-in_default-with-clause-none c = λ none.
    split_full c.args.value.now c.budgets.budgets c.budgets.rest.now c.in-Some.first.now (parts_of c.in-Some.behind.now) c.budgets.invariant.1 (cut_some c.budgets.rest.now c.in-Some.first c.in-Some.behind c.in-Some.ensures.cases) (c.with.ensures.none c.in_default-with.is)

pub budgets-preserved : goal.budgets-preserved
budgets-preserved c = (
  search rules,
  subst (λ read. IsSplit c.args.value.now read c.in-Some.behind.now) (sym c.in-Some-with.ensures.some)
      (split_more c.args.value.now c.budgets.budgets c.budgets.rest.now c.in-Some.first.now c.in-Some.behind.now c.in-Some-read_budget.budget c.budgets.invariant.1 (cut_some c.budgets.rest.now c.in-Some.first c.in-Some.behind c.in-Some.ensures.cases) c.in-Some-read_budget.ensures.some),
)

pub returns-in_default-read_budget-2-clause-none : goal.returns-in_default-read_budget-2-clause-none
returns-in_default-read_budget-2-clause-none c = λ none.
    split_bad c.args.value.now c.budgets.budgets c.budgets.rest.now c.budgets.rest.now [] c.budgets.invariant.1 (cut_none c.budgets.rest.now c.in_default.ensures.cases) (c.read_budget-2.ensures.none c.in_default-read_budget-2.is)

pub returns-clause-some : goal.returns-clause-some
returns-clause-some c =
    last_read c.args.value.now c.budgets.budgets c.budgets.rest.now c.in-Some-read_budget-2.last c.with-2.result c.budgets.invariant.1 (cut_none c.budgets.rest.now c.in_default.ensures.cases) c.in-Some-read_budget-2.ensures.some c.with-2.ensures.some c.with-2.ensures.few

pub returns-clause-none : goal.returns-clause-none
returns-clause-none c = λ none.
    split_full c.args.value.now c.budgets.budgets c.budgets.rest.now c.budgets.rest.now [] c.budgets.invariant.1 (cut_none c.budgets.rest.now c.in_default.ensures.cases) (c.with-2.ensures.none none)
