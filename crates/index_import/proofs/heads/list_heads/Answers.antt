-- One head more.
use Rattle.shared_lemmas.proofs.Common.{◌<◌, ◌++◌, ◌∷◌, [], List, length, ap, ap₂, map, map-append, sym, ◌∙◌, arith}
use Rattle.index_import.proofs.Below.{HeadData, SegmentData, head_data}
use Rattle.index_import.proofs.SegmentTurns.{heads_next}
use Rattle.index_import.proofs.heads.list_heads.Goals as goal

pub loop-index-preserved : goal.loop-index-preserved
loop-index-preserved c =
    let i = c.loop-index.index in
    let segments : List SegmentData = c.args.segments.now in
    let s : SegmentData = record { impact = c.segment-impact.result.0; docs = c.segment-impact.result.1.now } in
    let low : i < length segments = omega (arith, c.loop-index-test.true, c.len-index-end.ensures.count) in
    ap (map head_data) c.in_ok-push.ensures.ok ∙ map-append head_data c.loop-index.heads (c.of.result ∷ [])
    ∙ ap₂ (λ (hs : List HeadData) (h : HeadData). hs ++ h ∷ []) c.loop-index.invariant c.of.ensures
    ∙ sym (heads_next segments i s low c.segment-impact.ensures c.args.docs)
