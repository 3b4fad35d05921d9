use Rattle.std.proofs.Common.{◌∙◌, sym}
use Rattle.plain_codecs.proofs.Bitmaps.{length-bitmap}
use Rattle.plain_codecs.proofs.bitmap.length.Goals as goal

pub returns : goal.returns
returns c = c.from.ensures ∙ c.size.ensures.is ∙ sym (length-bitmap c.args.d c.args.docs.now)
