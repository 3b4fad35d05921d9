use Rattle.shared_lemmas.proofs.Common.{ℕ, List, ◌++◌, ◌∙◌, ap, ap₂, append_assoc, map, sym, take}
use Rattle.segment_codecs.specs.Codecs.{payload_of}
use Rattle.index_write.proofs.Below.{HeadData, chosen_codec, segment_data}
use Rattle.index_write.specs.Chosen.{chosen_payload, chosen_payloads}
use Rattle.index_write.proofs.Memory.{head_at, payloads_more}
use Rattle.index_write.proofs.payloads.put_payloads.Goals as goal

pub put_payload-requires-clause-codec : goal.put_payload-requires-clause-codec
put_payload-requires-clause-codec c =
    ap (λ (h : HeadData). h.codec) (head_at c.args.d c.args.heads.now c.args.segments.now c.loop-i.i _ c.index-segments-i.result c.requires.heads c.loop-i-test.true c.index-segments-i.is)
    ∙ ap (chosen_codec c.args.d) (sym c.as_slice.ensures)

pub loop-i-preserved : goal.loop-i-preserved
loop-i-preserved c =
    let d = c.args.d in
    let s = c.index-segments-i.result in
    let before = chosen_payloads d (map segment_data (take c.loop-i.i c.args.segments.now)) in
    c.in_ok-put_payload.ensures ∙ ap₂ (λ (out docs : List ℕ). out ++ payload_of (chosen_codec d docs) d docs) c.loop-i.invariant c.as_slice.ensures
    ∙ append_assoc c.args.out.now before (chosen_payload d (segment_data s))
    ∙ ap (λ (xs : List ℕ). c.args.out.now ++ xs) (sym (payloads_more d c.args.segments.now c.loop-i.i s c.loop-i-test.true c.index-segments-i.is))
