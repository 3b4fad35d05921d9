use Rattle.jass_base.proofs.Accepting.{checks, all_bytes}
use Rattle.plain_codecs.specs.Bitmap.{bitmap_of, read_bitmap}
use Rattle.plain_codecs.proofs.bitmap.checking.check.Goals as goal

pub returns : goal.returns
returns c =
    let d = c.args.d in
    let count = c.args.count in
    let bytes = c.args.bytes.now in
    checks (bitmap_of d) read_bitmap d count bytes c.judge.result c.judge.ensures
    (λ docs are size is. c.payloads_are_read.ensures.found d count docs bytes are size is)
    (λ docs is. c.payloads_are_read.ensures.only d count docs bytes c.requires.some c.requires.limit (all_bytes bytes (λ k. (c.type_inv.bytes k).fits)) is)
