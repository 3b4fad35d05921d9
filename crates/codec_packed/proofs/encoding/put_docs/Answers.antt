use Rattle.shared_lemmas.proofs.Common.{◌≡◌, ◌^◌, ◌/◌, ◌++◌, List, ℕ, length, sym, ap, arith, on_err_weaker, take_all}
use Rattle.jass_base.specs.Gaps.{gaps_of, gaps_from}
use Rattle.codec_packed.specs.Packing.{packed_block}
use Rattle.codec_packed.proofs.Turns.{front_more, front_kept}
use Rattle.codec_packed.proofs.BlockTurns.{all_left, block_docs, next_block_of, written_more, written_all, rest_are}
use Rattle.codec_packed.proofs.encoding.put_docs.Goals as goal

pub loop-block-init : goal.loop-block-init
loop-block-init c = (c.requires, ap (λ (xs : List ℕ). c.args.out.now ++ xs) (all_left (length c.args.docs.now / 128) (gaps_of c.args.docs.now)), take_all (length c.args.out.now) c.args.out.now (omega arith))

pub put_block-requires : goal.put_block-requires
put_block-requires c =
    let t = next_block_of (2 ^ 26) c.loop-block.least c.loop-block.block c.args.docs.now c.loop-block.invariant.0 c.loop-block-test.true in
    record { count = t.count; rising = t.are }

pub loop-block-preserved : goal.loop-block-preserved
loop-block-preserved c =
    let docs = c.args.docs.now in
    let block = packed_block (gaps_from c.loop-block.least (block_docs c.loop-block.block docs)) in
    let t = next_block_of (2 ^ 26) c.loop-block.least c.loop-block.block docs c.loop-block.invariant.0 c.loop-block-test.true in
    let is : c.put_block.new.out ≡ c.loop-block.out ++ block = c.in_ok-put_block.ensures.ok in (
      t.rest,
      rw is (written_more (2 ^ 26) c.loop-block.least (length docs / 128) c.loop-block.block docs c.loop-block.out _ t c.loop-block-test.true c.loop-block.invariant.1),
      rw is (front_more c.args.out.now c.loop-block.out block c.loop-block.invariant.2),
    )

pub overflow_add-least-in-loop-block : goal.overflow_add-least-in-loop-block
overflow_add-least-in-loop-block c =
    omega (arith, (next_block_of (2 ^ 26) c.loop-block.least c.loop-block.block c.args.docs.now c.loop-block.invariant.0 c.loop-block-test.true).small)

pub put_gaps-requires : goal.put_gaps-requires
put_gaps-requires c = rest_are (2 ^ 26) c.loop-block.least (length c.args.docs.now / 128) c.loop-block.block c.args.docs.now (omega arith) c.loop-block.invariant.0

pub returns : goal.returns
returns c =
    let docs = c.args.docs.now in
    let all = written_all c.loop-block.least (length docs / 128) c.loop-block.block docs c.loop-block.out _ (omega arith) c.loop-block.invariant.1 in
    record { ok = rw (sym all) c.put_gaps.ensures.ok; err = on_err_weaker c.put_gaps.result (front_kept c.args.out.now c.loop-block.out c.put_gaps.new.out c.loop-block.invariant.2) c.put_gaps.ensures.err }
