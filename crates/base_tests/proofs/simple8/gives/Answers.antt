use Rattle.std.proofs.Common.{drop, refl, arith}
use Rattle.base_tests.proofs.simple8.gives.Goals as goal

pub loop-at-init : goal.loop-at-init
loop-at-init c = record { stands = (c.args.docs.now, c.new-cursor.ensures c.args.bytes.now c.args.docs.now c.requires.docs refl c.requires.bytes); within = omega arith }

pub next_block-count-requires : goal.next_block-count-requires
next_block-count-requires c = record { stands = c.loop-at.invariant.stands }

pub loop-at-preserved : goal.loop-at-preserved
loop-at-preserved c = record {
  stands = (drop c.next_block-count.result c.loop-at.invariant.stands.0, c.next_block-count.ensures.rest c.loop-at.invariant.stands.0 c.loop-at.invariant.stands.1);
  within = c.goes_on.ensures.within c.if-not-goes_on.false;
}
