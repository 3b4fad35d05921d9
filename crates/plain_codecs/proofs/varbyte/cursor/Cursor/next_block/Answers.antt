use Rattle.std.proofs.Common.{length, refl, ap, arith}
use Rattle.plain_codecs.proofs.VarbyteCursors.{run, block, rest, end}
use Rattle.plain_codecs.proofs.varbyte.cursor.Cursor.next_block.Goals as goal

pub returns-then-self-eq1 : goal.returns-then-self-eq1
returns-then-self-eq1 c =
    let one = c.last.ensures.one in
    record {
      most = omega (arith, one);
      block = λ docs gives. rw one (c.last.ensures.block docs gives);
      rest = λ docs gives. rw one (c.last.ensures.rest docs gives);
      end = λ docs gives. ((λ zero. absurd (omega (arith, one, zero))), (λ none. absurd (omega (arith, c.last.ensures.more docs gives, ap length none))));
    }

pub returns : goal.returns
returns c =
    let cursor = c.args.self.now in
    let bytes = c.args.bytes.now in
    let count = c.min-count.result in
    let is = c.min-count.ensures in
    record {
      most = omega (arith, is);
      block = λ docs gives. block cursor bytes docs gives count is c.docs_of_gaps.ensures.parts c.docs_of_gaps.ensures.count
          c.read_run-self.new.out c.docs_of_gaps-self.new.out (c.read_run-self.ensures.gaps gives.gaps (run cursor bytes docs gives count is)) c.docs_of_gaps-self.ensures.docs;
      rest = λ docs gives. rest cursor bytes docs gives count is c.docs_of_gaps.ensures.parts c.docs_of_gaps.ensures.count
          c.read_run-self.new.out _ _ _ (c.read_run-self.ensures.gaps gives.gaps (run cursor bytes docs gives count is)) (c.read_run-self.ensures.behind gives.gaps (run cursor bytes docs gives count is)) c.docs_of_gaps-self.ensures.behind refl;
      end = λ docs gives. end cursor bytes docs gives count is;
    }
