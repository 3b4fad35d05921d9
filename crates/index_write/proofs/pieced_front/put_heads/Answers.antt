use Rattle.std.proofs.Common.{◌++◌, ◌+◌, ◌∙◌, arith, ap, sym, drop, map}
use Rattle.std.proofs.lemmas.List.{drop_all}
use Rattle.index_write.proofs.Below.{heads_bytes}
use Rattle.index_write.specs.Chosen.{head_data}
use Rattle.index_write.proofs.Entries.{heads_next}
use Rattle.index_write.proofs.Sending.{up_to_more, up_to_all}
use Rattle.index_write.proofs.pieced_front.put_heads.Goals as goal

pub loop-head-preserved : goal.loop-head-preserved
loop-head-preserved g c =
    let heads = c.args.heads.now in
    let i = c.loop-head.head-index in
    let rest = heads_bytes (map head_data (drop (i + 1) heads)) in
    up_to_more g.C.Cabinet c.args.file.now (heads_bytes (map head_data (drop i heads))) c.spelled_head.result rest
    (heads_next heads i _ c.loop-head-test.true ∙ ap (λ head. head ++ rest) (sym c.spelled_head.ensures)) c.loop-head.invariant c.put.ensures

pub returns : goal.returns
returns g c =
    up_to_all g.C.Cabinet c.args.file.now (heads_bytes (map head_data (drop c.loop-head.head-index c.args.heads.now)))
    (ap (λ hs. heads_bytes (map head_data hs)) (drop_all c.loop-head.head-index c.args.heads.now (omega (arith, c.loop-head-test.false)))) c.loop-head.invariant
