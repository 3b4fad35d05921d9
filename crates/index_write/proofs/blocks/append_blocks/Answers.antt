-- Each block is appended behind those before it.
use Rattle.std.proofs.Common.{ℕ, List, ◌++◌, ◌∙◌, ap, arith, take, sym}
use Rattle.shared_lemmas.proofs.Common.{take_all}
use Rattle.index_write.specs.Private.Blocks.{joined}
use Rattle.index_write.proofs.Sending.{appends_none, appends_same, appends_then, joined_next}
use Rattle.index_write.proofs.blocks.append_blocks.Goals as goal

pub loop-block-init : goal.loop-block-init
loop-block-init g c = appends_none g.C.Cabinet c.args.name.now c.args.files.now c.args.failed

pub loop-block-preserved : goal.loop-block-preserved
loop-block-preserved g c =
    let blocks = c.as_slice-block-items.result.now in
    let i = c.loop-block.block-index in
    appends_same g.C.Cabinet c.args.name.now (ap (λ (bytes : List ℕ). joined (take i blocks) ++ bytes) c.as_slice.ensures ∙ sym (joined_next blocks i c.block-item.result c.loop-block-test.true c.block-item.is))
    (appends_then g.C.Cabinet c.args.name.now (joined (take i blocks)) c.as_slice.result.now c.loop-block.invariant c.append-lost.ensures)

pub returns : goal.returns
returns g c =
    let blocks = c.as_slice-block-items.result.now in
    appends_same g.C.Cabinet c.args.name.now (ap joined (take_all c.loop-block.block-index blocks (omega (arith, c.loop-block-test.false))) ∙ c.as_slice-block-items.ensures) c.loop-block.invariant
