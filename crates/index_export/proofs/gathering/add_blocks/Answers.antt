-- A block more of the documents that are left.
use Rattle.std.proofs.Common.{ℕ, List, drop, take, ◌++◌, arith}
use Rattle.index_file.specs.Places.{segment_at}
use Rattle.index_export.specs.Private.Gathering.{doc_postings}
use Rattle.index_export.proofs.Steps.{block_more, block_counted}
use Rattle.index_export.proofs.gathering.add_blocks.Goals as goal

pub blocks-2-preserved : goal.blocks-2-preserved
blocks-2-preserved g c =
    let docs : List ℕ = c.blocks-2.invariant.0 in
    let gives = c.blocks-2.invariant.1 in
    let n : ℕ = c.next_block-given.result in
    let whole = c.args.postings.now.items ++ doc_postings c.args.impact (segment_at c.args.index.now.index.terms c.args.t c.args.s).docs in
    let same = c.next_block-given.ensures.block docs gives in (
      drop n docs,
      c.next_block-given.ensures.rest docs gives,
      block_more c.args.impact n c.blocks-2.postings.items c.add_docs.new.postings.items whole (take n c.next_block-given.new.out) docs same c.in_ok-add_docs.ensures c.blocks-2.invariant.2,
      (let counted = block_counted n c.next_block-given.new.out docs same (omega (arith, c.next_block-given.ensures.most, c.next_block-given.array_long)) in omega (arith, counted, c.next_block-given.ensures.steps, c.blocks-2.invariant.3)),
      omega (arith, c.next_block-given.ensures.steps, c.blocks-2.invariant.4),
    )
