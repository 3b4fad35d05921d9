-- One segment more.
use Rattle.shared_lemmas.proofs.Common.{◌<◌, ◌++◌, ◌∷◌, [], List, length, ap, ap₂, map, map-append, sym, ◌∙◌, append_assoc, arith}
use Rattle.index_import.proofs.Below.{HeadData, SegmentData, head_data}
use Rattle.index_write.specs.Chosen.{chosen_payload}
use Rattle.index_import.proofs.SegmentTurns.{heads_next, payloads_next}
use Rattle.index_import.proofs.spelling.spell_segments.Goals as goal

pub loop-index-preserved : goal.loop-index-preserved
loop-index-preserved c =
    let i = c.loop-index.index in
    let d = c.args.docs in
    let segments : List SegmentData = c.args.segments.now in
    let s : SegmentData = record { impact = c.segment-impact.result.0; docs = c.segment-impact.result.1.now } in
    let low : i < length segments = omega (arith, c.loop-index-test.true, c.len-index-end.ensures.count) in
    record {
      heads = ap (map head_data) c.in_ok-push.ensures.ok ∙ map-append head_data c.loop-index.heads (c.in_ok-head.head ∷ [])
          ∙ ap₂ (λ (hs : List HeadData) (h : HeadData). hs ++ h ∷ []) c.loop-index.invariant.heads c.in_ok-head.ensures.head
          ∙ sym (heads_next segments i s low c.segment-impact.ensures d);
      payloads = c.in_ok-head.ensures.payload ∙ ap (λ bytes. bytes ++ chosen_payload d s) c.loop-index.invariant.payloads
          ∙ append_assoc c.args.payloads.now _ (chosen_payload d s) ∙ ap (λ bytes. c.args.payloads.now ++ bytes) (sym (payloads_next segments i s low c.segment-impact.ensures d));
    }
