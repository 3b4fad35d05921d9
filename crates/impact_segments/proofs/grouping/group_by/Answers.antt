-- The rows are the segments.
use Rattle.std.proofs.Common.{◌≡◌, ap, sym, ◌∙◌, List, AllPairs, subst}
use Rattle.std.proofs.lemmas.Result.{IfOk-weaker}
use Rattle.shared_lemmas.proofs.Pairs.{AllPairs-unmap}
use Rattle.index_model.specs.Index.{FallsTo, SharesNoDocument}
use Rattle.impact_segments.proofs.Below.{SegmentData, segment_data, sorted}
use Rattle.impact_segments.specs.ListTerms.{segments_in}
use Rattle.impact_segments.specs.Pairs.{pair_cmp}
use Rattle.impact_segments.specs.declared.doc_impact.DocImpact.{DocImpact}
use Rattle.impact_segments.proofs.Grouped.{data_pairs, pairs_are, rows_hold, segments_fall, segments_once}
use Rattle.impact_segments.proofs.grouping.group_by.Goals as goal

made : (pairs slice : List DocImpact) (segments : List SegmentData) → slice ≡ pairs → segments ≡ segments_in (sorted pair_cmp slice) → segments ≡ segments_in (sorted pair_cmp pairs)
made pairs slice segments same is = is ∙ ap (λ (l : List DocImpact). segments_in (sorted pair_cmp l)) same

pub returns-clause-pairs : goal.returns-clause-pairs
returns-clause-pairs c =
    IfOk-weaker c.to_rows.result _ _ (λ rows are. rows_hold rows ∙ ap data_pairs are ∙ pairs_are c.args.pairs.now.items c.group_into.new.segments (made c.args.pairs.now.items c.as_mut_slice.result.now c.group_into.new.segments c.as_mut_slice.ensures.value c.in_ok-group_into.ensures)) c.to_rows.ensures

pub returns-clause-falling : goal.returns-clause-falling
returns-clause-falling c =
    let fall = segments_fall c.args.pairs.now.items c.group_into.new.segments (made c.args.pairs.now.items c.as_mut_slice.result.now c.group_into.new.segments c.as_mut_slice.ensures.value c.in_ok-group_into.ensures) c.requires.rising c.requires.positive in
    IfOk-weaker c.to_rows.result _ _ (λ rows are. AllPairs-unmap FallsTo segment_data rows (subst (λ (l : List SegmentData). AllPairs FallsTo l) (sym are) fall)) c.to_rows.ensures

pub returns-clause-once : goal.returns-clause-once
returns-clause-once c =
    let once = segments_once c.args.pairs.now.items c.group_into.new.segments (made c.args.pairs.now.items c.as_mut_slice.result.now c.group_into.new.segments c.as_mut_slice.ensures.value c.in_ok-group_into.ensures) c.requires.rising c.requires.positive in
    IfOk-weaker c.to_rows.result _ _ (λ rows are. AllPairs-unmap SharesNoDocument segment_data rows (subst (λ (l : List SegmentData). AllPairs SharesNoDocument l) (sym are) once)) c.to_rows.ensures
