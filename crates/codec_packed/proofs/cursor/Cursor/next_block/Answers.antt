use Rattle.shared_lemmas.proofs.Common.{length, ap, ◌∙◌, arith, take_all}
use Rattle.codec_packed.proofs.cursor.Cursor.next_block.Goals as goal

pub returns-then-self-ge128 : goal.returns-then-self-ge128
returns-then-self-ge128 c = record {
  most = omega arith;
  block = λ docs gives. take_all 128 c.full_block.new.out (omega (arith, c.full_block.array_long2)) ∙ c.full_block.ensures.block docs gives;
  rest = c.full_block.ensures.rest;
  end = λ docs gives. ((λ none. absurd (omega (arith, none))), (λ none. absurd (omega (arith, ap length none, gives.left, c.if-self-ge128.true))));
}
