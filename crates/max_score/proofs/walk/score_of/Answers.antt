use Rattle.shared_lemmas.proofs.Common.{◌-◌, ◌≡◌, get_or, arith, ap, ap₂, ◌*◌, ◌∙◌, sym, subst, ◌<◌, ◌^◌}
use Rattle.max_score.specs.declared.term_list.TermList.{TermList}
use Rattle.max_score.specs.Private.Lists.{weight_in}
use Rattle.max_score.proofs.Bounds.{bound_fits, next_sum, sum_fits, under}
use Rattle.max_score.proofs.walk.score_of.Goals as goal

pub overflow_add-score : goal.overflow_add-score
overflow_add-score c = let fits = bound_fits c.args.doc c.lists.left c.lists.score c.index-lists-left.result.bound c.args.lists.now c.index-lists-left.result c.requires.bounded c.lists-test.true c.lists.invariant.0 c.lists.invariant.1
    (ap (λ (list : TermList). list.bound) c.index-lists-left.is) in omega (arith, fits)

pub returns-then-score-list-clause-low : goal.returns-then-score-list-clause-low
returns-then-score-list-clause-low c = λ _. under c.args.doc c.lists.left c.args.threshold c.lists.score c.index-lists-left.result.bound c.args.lists.now c.index-lists-left.result c.requires.bounded c.lists-test.true c.lists.invariant.0 c.lists.invariant.1
    (ap (λ (list : TermList). list.bound) c.index-lists-left.is) c.if-score-list.true

pub overflow_add-score-in-lists : goal.overflow_add-score-in-lists
overflow_add-score-in-lists c =
    let weight : c.from.result * c.from-in-lists.result ≡ weight_in c.args.doc (get_or c.args.lists.now (c.lists.left - 1) c.index-lists-left.result) =
    ap₂ (λ x y. x * y) (c.from.ensures ∙ c.impact.ensures) c.from-in-lists.ensures ∙ ap (weight_in c.args.doc) c.index-lists-left.is in
    let sum = next_sum c.args.doc c.lists.left c.lists.score (c.from.result * c.from-in-lists.result) c.args.lists.now c.index-lists-left.result c.lists-test.true c.lists.invariant.0 c.lists.invariant.1 weight in
    let fits = subst (λ n. n < 2 ^ 32) (sym sum) (sum_fits c.args.doc (c.lists.left - 1) c.args.lists.now c.requires.bounded) in
    omega (arith, fits)
