use Rattle.shared_lemmas.proofs.Common.{◌++◌, ◌∙◌, ap, append_assoc, arith, length, map, take_all}
use Rattle.std.proofs.lemmas.Result.{on_ok_weaker}
use Rattle.index_write.proofs.Below.{u32_bytes, heads_bytes}
use Rattle.index_write.specs.Chosen.{head_data}
use Rattle.index_write.proofs.front.put_heads.Goals as goal

pub returns : goal.returns
returns c =
    let heads = c.args.heads.now in
    let count = u32_bytes (length heads) in
    on_ok_weaker c.send.result (λ last.
    last ∙ c.loop-head.invariant ∙ ap (λ hs. (c.args.out.now ++ count) ++ heads_bytes (map head_data hs)) (take_all c.loop-head.head-index heads (omega (arith, c.loop-head-test.false)))
    ∙ append_assoc c.args.out.now count (heads_bytes (map head_data heads)))
    c.send.ensures.bytes
