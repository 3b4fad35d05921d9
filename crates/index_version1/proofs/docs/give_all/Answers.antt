use Rattle.std.proofs.Common.{drop}
use Rattle.index_version1.proofs.Marking.{block_on}
use Rattle.index_version1.proofs.docs.give_all.Goals as goal

pub pieces-preserved : goal.pieces-preserved
pieces-preserved c = λ docs gives.
    let inv = c.pieces.invariant docs gives in
    let n = c.next_block-given.result in (
      drop n inv.0,
      c.next_block-given.ensures.rest inv.0 inv.1,
      block_on c.pieces.docs c.extend.new.self c.next_block-given.new.out inv.0 docs n c.in_ok-extend.ensures.ok (c.next_block-given.ensures.block inv.0 inv.1) inv.2,
    )
