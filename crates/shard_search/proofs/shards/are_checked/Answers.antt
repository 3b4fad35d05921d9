use Rattle.std.proofs.Common.{List, All, take, slice_index_or, subst, sym}
use Rattle.shared_lemmas.proofs.Common.{All-push, take_all, take_more}
use Rattle.index_layout.specs.View.{FileView, IsFileView}
use Rattle.shard_search.proofs.shards.are_checked.Goals as goal

pub parts-preserved : goal.parts-preserved
parts-preserved c =
    let files = c.args.parts.now in
    let i = c.parts.i in
    let d = c.index-parts-i.result in
    subst (λ (l : List FileView). All IsFileView l) (sym (take_more files i d c.parts-test.true))
    (All-push IsFileView (take i files) (slice_index_or files i d) c.parts.invariant (subst IsFileView c.index-parts-i.is c.is_checked.ensures))

pub returns : goal.returns
returns c = subst (λ (l : List FileView). All IsFileView l) (take_all c.parts.i c.args.parts.now c.parts-test.false) c.parts.invariant
