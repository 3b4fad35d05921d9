use Rattle.std.proofs.Common.{◌∙◌, ℕ, List, set, ap, sym}
use Rattle.accumulator_pages.specs.Pages.{pages_places, pages_scores}
use Rattle.topk_heap.proofs.Raised.{one_first, one_placed, one_touched}
use Rattle.topk_heap.proofs.Rows.{docs_scored}
use Rattle.topk_heap.proofs.Settled.{within}
use Rattle.answer_tests.proofs.heaps.add.Goals as goal

pub settle-requires-clause-placed : goal.settle-requires-clause-placed
settle-requires-clause-placed o c =
    let scores : List ℕ = pages_scores c.args.pages.now c.args.pool.now in
    one_placed scores _ c.args.doc c.args.w (c.add.ensures.scores ∙ ap (λ (v : ℕ). set scores c.args.doc v) c.add.ensures.score)
    c.args.top.now (pages_places c.args.pages.now c.args.pool.now) _ c.requires.top c.add.ensures.places

pub settle-requires-clause-touched : goal.settle-requires-clause-touched
settle-requires-clause-touched o c =
    let scores : List ℕ = pages_scores c.args.pages.now c.args.pool.now in
    one_touched scores _ c.args.doc c.args.w (c.add.ensures.scores ∙ ap (λ (v : ℕ). set scores c.args.doc v) c.add.ensures.score)
    (within _ _ _ (sym (docs_scored c.args.pages.now c.args.pool.now)) c.requires.inside) c.requires.weight

pub settle-requires-clause-first : goal.settle-requires-clause-first
settle-requires-clause-first o c =
    let scores : List ℕ = pages_scores c.args.pages.now c.args.pool.now in
    one_first scores _ c.args.doc c.args.w (c.add.ensures.scores ∙ ap (λ (v : ℕ). set scores c.args.doc v) c.add.ensures.score)
    c.args.top.now (pages_places c.args.pages.now c.args.pool.now) c.requires.top
