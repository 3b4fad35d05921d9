use Rattle.std.proofs.Common.{◌^◌}
use Rattle.codec_packed.proofs.Docs.{from_docs, from_wider}
use Rattle.codec_packed.proofs.encoding.encode.Goals as goal

pub put_docs-requires : goal.put_docs-requires
put_docs-requires c = from_wider c.args.d (2 ^ 26) 0 c.args.docs.now c.requires.limit (from_docs c.args.d c.args.docs.now c.requires)
