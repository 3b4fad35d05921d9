-- The rows are the segments.
use Rattle.std.proofs.Common.{List, AllPairs, All, length, sym, subst}
use Rattle.shared_lemmas.proofs.Lists.{All-unmap}
use Rattle.shared_lemmas.proofs.Pairs.{AllPairs-unmap}
use Rattle.index_model.specs.Index.{FallsTo, SharesNoDocument}
use Rattle.impact_segments.proofs.Below.{AreDocs, SegmentData, segment_data}
use Rattle.impact_segments.proofs.OneList.{of_list}
use Rattle.impact_segments.proofs.segments.segments_of.Goals as goal

pub make_segments-requires-clause-list : goal.make_segments-requires-clause-list
make_segments-requires-clause-list c = of_list c.args.lengths.now c.args.total c.args.list.now c.requires.list

pub returns-in-Ok-clause-falling : goal.returns-in-Ok-clause-falling
returns-in-Ok-clause-falling c = AllPairs-unmap FallsTo segment_data c.in-Ok.rows (subst (λ (l : List SegmentData). AllPairs FallsTo l) (sym c.in-Ok.ensures) c.in_ok-make_segments.ensures.falling)

pub returns-in-Ok-clause-once : goal.returns-in-Ok-clause-once
returns-in-Ok-clause-once c = AllPairs-unmap SharesNoDocument segment_data c.in-Ok.rows (subst (λ (l : List SegmentData). AllPairs SharesNoDocument l) (sym c.in-Ok.ensures) c.in_ok-make_segments.ensures.once)

pub returns-in-Ok-clause-docs : goal.returns-in-Ok-clause-docs
returns-in-Ok-clause-docs c =
    let P : SegmentData → Type 0 = λ (s : SegmentData). AreDocs (length c.args.lengths.now) s.docs in
    All-unmap P segment_data c.in-Ok.rows (subst (λ (l : List SegmentData). All P l) (sym c.in-Ok.ensures) c.in_ok-make_segments.ensures.docs)
