use Rattle.std.proofs.Common.{◌+◌, ◌<◌, length, slice_index, arith, ◌∙◌}
use Rattle.shared_lemmas.proofs.Common.{length-set}
use Rattle.shard_search.proofs.Blocks.{one_raised, others_stay, sum_fits}
use Rattle.shard_search.proofs.raising.raise.Goals as goal

pub overflow_add-block : goal.overflow_add-block
overflow_add-block c =
    let here = c.docs.invariant in
    let size = here.size in
    let room : c.docs.i < length c.docs.block = omega (arith, size, c.requires.count, c.docs-test.true) in
    let fits = sum_fits c.docs.block c.args.block.now c.docs.i c.args.count c.args.base c.docs-test.true room here.left c.requires.fits (omega (arith, c.told-block, c.requires.count)) in
    omega (arith, fits)

pub docs-preserved : goal.docs-preserved
docs-preserved c =
    let here = c.docs.invariant in
    let size = here.size in
    let room : c.docs.i < length c.docs.block = omega (arith, size, c.requires.count, c.docs-test.true) in
    record {
      size = length-set c.docs.block c.docs.i (c.args.base + slice_index c.docs.block c.docs.i) ∙ size;
      raised = one_raised c.docs.block c.args.block.now c.docs.i c.args.count c.args.base c.docs-test.true room here.left (omega (arith, c.told-block, c.requires.count, c.docs-test.true)) here.raised;
      left = others_stay c.docs.block c.args.block.now c.docs.i c.args.count c.args.base c.docs-test.true room here.left;
    }
