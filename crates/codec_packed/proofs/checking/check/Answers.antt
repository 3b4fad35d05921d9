use Rattle.jass_base.proofs.Accepting.{checks, all_bytes}
use Rattle.codec_packed.specs.Packing.{packed_of}
use Rattle.codec_packed.specs.Reading.{read_packed}
use Rattle.codec_packed.proofs.checking.check.Goals as goal

pub returns : goal.returns
returns c =
    let d = c.args.d in
    let count = c.args.count in
    let bytes = c.args.bytes.now in
    checks packed_of read_packed d count bytes c.judge.result c.judge.ensures
    (λ docs are size is. c.payloads_are_read.ensures.found d count docs bytes are size is)
    (λ docs is. c.payloads_are_read.ensures.only d count docs bytes c.requires.some c.requires.limit (all_bytes bytes (λ k. (c.type_inv.bytes k).fits)) is)
