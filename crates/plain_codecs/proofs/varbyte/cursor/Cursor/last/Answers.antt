use Rattle.std.proofs.Common.{refl, arith}
use Rattle.plain_codecs.proofs.VarbyteCursors.{last_known, one_doc, last_block, last_rest}
use Rattle.plain_codecs.proofs.varbyte.cursor.Cursor.last.Goals as goal

pub known_gap-gap-requires : goal.known_gap-gap-requires
known_gap-gap-requires c = last_known c.gap_varints_are_read.ensures.found c.args.self.now c.args.bytes.now c.requires.stands.0 c.requires.stands.1 c.requires.one

pub overflow_add-doc : goal.overflow_add-doc
overflow_add-doc c = record { fits = omega (arith, c.known_gap-gap.ensures.limit, c.requires.stands.1.room) }

pub returns : goal.returns
returns c =
    let found = c.gap_varints_are_read.ensures.found in
    let value = c.known_gap-gap.ensures.value in
    record {
      one = refl;
      block = λ docs gives. last_block found c.args.self.now c.args.bytes.now docs gives c.requires.one c.known_gap-gap.result.0 c.known_gap-gap.result.1 value c.known_gap-gap.ensures.behind c.known_gap-gap.ensures.within c.args.out.now (omega (arith, c.told-out));
      rest = λ docs gives. last_rest found c.args.self.now c.args.bytes.now docs gives c.requires.one c.known_gap-gap.result.0 c.known_gap-gap.result.1 value c.known_gap-gap.ensures.behind c.known_gap-gap.ensures.within;
      more = λ docs gives. one_doc found c.args.self.now c.args.bytes.now docs gives c.requires.one;
    }
