use Rattle.jass_base.proofs.Accepting.{checks_into, all_bytes}
use Rattle.codec_simple8.specs.Simple8.{simple8_of, read_simple8}
use Rattle.codec_simple8.proofs.handing.check_into.Goals as goal

pub returns : goal.returns
returns c =
    let d = c.args.d in
    let count = c.args.count in
    let bytes = c.args.bytes.now in
    checks_into simple8_of read_simple8 d count bytes c.args.out.now c.hand_out.new.out c.hand_out.result c.hand_out.ensures.judged c.hand_out.ensures.docs c.hand_out.ensures.length
    (λ docs are size is. c.payloads_are_read.ensures.found d count docs bytes are size is)
    (λ docs is. c.payloads_are_read.ensures.only d count docs bytes c.requires.count.some c.requires.count.limit (all_bytes bytes (λ k. (c.type_inv.bytes k).fits)) is)
