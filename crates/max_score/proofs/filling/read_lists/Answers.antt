use Rattle.shared_lemmas.proofs.Common.{◌≤◌, ◌+◌, ◌*◌, ◌∙◌, ap, arith, refl, rules, slice_index_or, sym}
use Rattle.index_model.specs.Querying.{segments_at}
use Rattle.max_score.specs.Cursors.{CursorView, postings_in}
use Rattle.max_score.specs.declared.term_list.TermList.{TermList}
use Rattle.max_score.proofs.ListsRead.{all_lists, has_read, next_list}
use Rattle.max_score.proofs.filling.read_lists.Goals as goal

pub loop-list-preserved : goal.loop-list-preserved
loop-list-preserved g c =
    let index = g.S.Source.index c.args.source.now in
    let item : TermList = slice_index_or c.loop-list.lists c.loop-list.list-index c.list-item.result in
    let weight = c.from.result * c.from-in-loop-list.result in
    let list : TermList = record { cursor = c.read-impact.new.self; times = item.times; greatest = weight; bound = c.loop-list.bound + weight } in
    let term = ap (λ (v : CursorView). v.term) c.read-impact.ensures.read in
    let few : item.times ≤ 255 = search rules in
    next_list index c.args.lists.now c.loop-list.lists c.loop-list.list-index c.loop-list.bound c.args.steps.now c.loop-list.steps c.list-item.result list (c.loop-list.bound + weight) c.read-impact.new.steps c.loop-list.invariant
    (omega (arith, c.loop-list-test.true, c.loop-list.auto.lists))
    (has_read index item.cursor.term c.from.result list c.read-impact.ensures.read (λ k d h. let less = c.read-impact.ensures.greatest k d h in omega (arith, less, c.from.ensures)) (ap (λ n. c.from.result * n) c.from-in-loop-list.ensures)
    (omega (arith, c.from.ensures, c.read-impact.type_inv)) few)
    (λ i. record { term = term i; times = item.times }) refl refl
    (c.read-impact.ensures.steps ∙ ap (λ t. c.loop-list.steps + postings_in (segments_at index.terms t)) (sym term))

pub returns-clause-named : goal.returns-clause-named
returns-clause-named g c = (all_lists (g.S.Source.index c.args.source.now) c.args.lists.now c.loop-list.lists c.loop-list.list-index c.loop-list.bound c.args.steps.now c.loop-list.steps c.loop-list.invariant
    (omega (arith, c.loop-list-test.false, c.loop-list.auto.lists)) (omega (arith, c.requires.few, c.loop-list.auto.lists))).2

pub returns-clause-read : goal.returns-clause-read
returns-clause-read g c = (all_lists (g.S.Source.index c.args.source.now) c.args.lists.now c.loop-list.lists c.loop-list.list-index c.loop-list.bound c.args.steps.now c.loop-list.steps c.loop-list.invariant
    (omega (arith, c.loop-list-test.false, c.loop-list.auto.lists)) (omega (arith, c.requires.few, c.loop-list.auto.lists))).0

pub returns-clause-bounded : goal.returns-clause-bounded
returns-clause-bounded g c = (all_lists (g.S.Source.index c.args.source.now) c.args.lists.now c.loop-list.lists c.loop-list.list-index c.loop-list.bound c.args.steps.now c.loop-list.steps c.loop-list.invariant
    (omega (arith, c.loop-list-test.false, c.loop-list.auto.lists)) (omega (arith, c.requires.few, c.loop-list.auto.lists))).1

pub returns-clause-steps : goal.returns-clause-steps
returns-clause-steps g c = (all_lists (g.S.Source.index c.args.source.now) c.args.lists.now c.loop-list.lists c.loop-list.list-index c.loop-list.bound c.args.steps.now c.loop-list.steps c.loop-list.invariant
    (omega (arith, c.loop-list-test.false, c.loop-list.auto.lists)) (omega (arith, c.requires.few, c.loop-list.auto.lists))).3
