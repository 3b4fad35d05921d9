use Rattle.shared_lemmas.proofs.Common.{◌≤◌, length, refl, ap, arith, length-take}
use Rattle.plain_codecs.proofs.BitmapCursors.{block, rest, skipped, not_end, at_end}
use Rattle.plain_codecs.proofs.bitmap.cursor.Cursor.next_block.Goals as goal

pub returns-then-count-gt0 : goal.returns-then-count-gt0
returns-then-count-gt0 c =
    let cursor = c.loop-self.self in
    let bytes = c.args.bytes.now in
    let end = c.min-end.result in
    let up : cursor.at ≤ end = omega (arith, c.min-end.ensures, c.loop-self-test.true) in
    let inside : end ≤ length bytes = omega (arith, c.min-end.ensures) in
    let count = c.bits_to_docs-count.result in
    let out = c.bits_to_docs-count.new.out in
    let parts = c.set_bits_rise.ensures.parts in
    let gives_still = c.loop-self.invariant in
    record {
      most = omega (arith, c.bits_to_docs-count.ensures.count, ap length c.bits_to_docs-count.ensures.front, length-take count out, c.bits_to_docs-count.array_long);
      block = λ docs gives. block parts cursor bytes docs (gives_still docs gives) end up inside count c.bits_to_docs-count.ensures.count out c.bits_to_docs-count.ensures.front;
      rest = λ docs gives. rest parts cursor bytes docs (gives_still docs gives) end up inside count c.bits_to_docs-count.ensures.count;
      end = λ docs gives. not_end parts cursor bytes docs (gives_still docs gives) end up inside count c.bits_to_docs-count.ensures.count c.if-count-gt0.true;
    }

pub loop-self-preserved : goal.loop-self-preserved
loop-self-preserved c = λ docs gives.
    skipped c.set_bits_rise.ensures.parts c.loop-self.self c.args.bytes.now docs (c.loop-self.invariant docs gives) c.min-end.result (omega (arith, c.min-end.ensures, c.loop-self-test.true)) (omega (arith, c.min-end.ensures))
    c.bits_to_docs-count.result c.bits_to_docs-count.ensures.count c.if-count-gt0.false

pub returns : goal.returns
returns c = record {
  most = omega arith;
  block = λ docs gives. refl;
  rest = c.loop-self.invariant;
  end = λ docs gives. ((λ zero. at_end c.loop-self.self c.args.bytes.now docs (c.loop-self.invariant docs gives) c.loop-self-test.false), (λ none. refl));
}
