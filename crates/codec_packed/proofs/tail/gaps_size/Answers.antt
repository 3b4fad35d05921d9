use Rattle.std.proofs.Common.{◌^◌, arith}
use Rattle.jass_base.proofs.Gaps.{length-gaps_from}
use Rattle.jass_base.specs.Gaps.{gaps_from}
use Rattle.codec_packed.proofs.Turns.{turn, size_more, spelled_size, few_docs}
use Rattle.codec_packed.proofs.tail.gaps_size.Goals as goal

pub overflow_add-size : goal.overflow_add-size
overflow_add-size c =
    let docs = c.args.docs.now in
    let t = turn (2 ^ 26) c.loop-doc.next c.loop-doc.doc-index docs c.loop-doc.invariant.0 (omega arith) in
    let total = spelled_size (gaps_from c.args.least docs) in
    let more = size_more (2 ^ 26) c.loop-doc.next c.loop-doc.doc-index c.loop-doc.size _ docs t c.loop-doc.invariant.1 in
    omega (arith, more, total, length-gaps_from c.args.least docs, few_docs (2 ^ 26) c.args.least docs c.requires, c.gap_length-size.ensures.is)
