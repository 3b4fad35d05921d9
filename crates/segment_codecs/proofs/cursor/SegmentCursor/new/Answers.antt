use Rattle.std.proofs.Common.{ap, ◌∙◌}
use Rattle.segment_codecs.specs.Codecs.{payload_of}
use Rattle.segment_codecs.proofs.cursor.SegmentCursor.new.Goals as goal

pub returns-in-Bitmap : goal.returns-in-Bitmap
returns-in-Bitmap c = λ bytes docs are many is. c.new-in-Bitmap.ensures bytes docs are many (is ∙ ap (λ codec. payload_of codec c.args.d docs) c.in-Bitmap.is)
