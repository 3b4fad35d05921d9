use Rattle.std.proofs.Common.{arith}
use Rattle.plain_codecs.proofs.ShortSpelling.{part_behind}
use Rattle.plain_codecs.proofs.varbyte.spelling.put_short.Goals as goal

pub returns-clause-bytes : goal.returns-clause-bytes
returns-clause-bytes c =
    part_behind c.args.bytes.now c.spelled-four.result _ c.args.at c.short_length-size.result (omega (arith, c.told-bytes, c.requires.room)) c.spelled-four.ensures.four
    c.short_length-size.ensures.most c.spelled-four.ensures.begin
