use Rattle.std.proofs.Common.{◌^◌, ◌/◌, ◌<◌, ℕ, List, length, ap, arith}
use Rattle.jass_base.proofs.Gaps.{length-gaps_from}
use Rattle.jass_base.specs.Gaps.{AreDocs, gaps_of}
use Rattle.codec_packed.specs.Packing.{packed_of}
use Rattle.codec_packed.specs.Private.Steps.{BlockLaws}
use Rattle.codec_packed.proofs.Docs.{from_docs, from_wider}
use Rattle.codec_packed.proofs.Turns.{few_docs}
use Rattle.codec_packed.proofs.BlockTurns.{all_left, next_block_of, counted_more, counted_all, rest_are, packed_size}
use Rattle.codec_packed.proofs.sizes.length.Goals as goal

pub loop-block-init : goal.loop-block-init
loop-block-init c = (
  from_wider c.args.d (2 ^ 26) 0 c.args.docs.now c.requires.limit (from_docs c.args.d c.args.docs.now c.requires),
  omega (arith, ap length (all_left (length c.args.docs.now / 128) (gaps_of c.args.docs.now))),
)

pub block_size-size-requires-clause-rising : goal.block_size-size-requires-clause-rising
block_size-size-requires-clause-rising c = (next_block_of (2 ^ 26) c.loop-block.least c.loop-block.block c.args.docs.now c.loop-block.invariant.0 c.loop-block-test.true).are

small_total : (laws : BlockLaws) (d : ℕ) (docs : List ℕ) → AreDocs d docs → length (packed_of docs) < 2 ^ 60
small_total laws d docs are =
    omega (arith, packed_size laws (length docs / 128) (gaps_of docs), length-gaps_from 0 docs, few_docs d 0 docs (from_docs d docs are), are.limit)

pub overflow_add-size : goal.overflow_add-size
overflow_add-size c =
    let docs = c.args.docs.now in
    let t = next_block_of (2 ^ 26) c.loop-block.least c.loop-block.block docs c.loop-block.invariant.0 c.loop-block-test.true in
    let more = counted_more (2 ^ 26) c.loop-block.least (length docs / 128) c.loop-block.block c.loop-block.size _ docs t c.loop-block-test.true c.loop-block.invariant.1 in
    omega (arith, more, c.block_size-size.ensures, small_total c.blocks_keep_their_gaps.ensures c.args.d docs c.requires)

pub loop-block-preserved : goal.loop-block-preserved
loop-block-preserved c =
    let docs = c.args.docs.now in
    let t = next_block_of (2 ^ 26) c.loop-block.least c.loop-block.block docs c.loop-block.invariant.0 c.loop-block-test.true in
    let more = counted_more (2 ^ 26) c.loop-block.least (length docs / 128) c.loop-block.block c.loop-block.size _ docs t c.loop-block-test.true c.loop-block.invariant.1 in
    (t.rest, rw c.block_size-size.ensures more)

pub gaps_size-requires : goal.gaps_size-requires
gaps_size-requires c = rest_are (2 ^ 26) c.loop-block.least (length c.args.docs.now / 128) c.loop-block.block c.args.docs.now (omega arith) c.loop-block.invariant.0

pub overflow_add-result : goal.overflow_add-result
overflow_add-result c =
    let docs = c.args.docs.now in
    let all = counted_all c.loop-block.least (length docs / 128) c.loop-block.block c.loop-block.size _ docs (omega arith) c.loop-block.invariant.1 in
    omega (arith, all, c.gaps_size.ensures, small_total c.blocks_keep_their_gaps.ensures c.args.d docs c.requires)

pub returns : goal.returns
returns c =
    let docs = c.args.docs.now in
    let all = counted_all c.loop-block.least (length docs / 128) c.loop-block.block c.loop-block.size _ docs (omega arith) c.loop-block.invariant.1 in
    rw c.gaps_size.ensures all
