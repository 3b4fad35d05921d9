use Rattle.std.proofs.Common.{◌∙◌, ◌<◌, ap, subst, sym, length}
use Rattle.topk_heap.specs.Hits.{HitsView}
use Rattle.topk_heap.specs.Private.Rows.{with_score}
use Rattle.topk_heap.proofs.Rows.{score_in_place}
use Rattle.topk_heap.proofs.hits.Hits.set_score.Goals as goal

pub returns-clause-hits : goal.returns-clause-hits
returns-clause-hits c = score_in_place c.self.inside.row.items c.args.index c.args.score c.index.result.now
    (subst (λ (v : HitsView). c.args.index < length v.hits) (sym c.self.view_is) c.requires) c.index.ensures
    ∙ ap (λ v. with_score v.hits c.args.index c.args.score) c.self.view_is
