use Rattle.std.proofs.Common.{subst}
use Rattle.segment_codecs.specs.Giving.{CodecGives}
use Rattle.segment_codecs.proofs.cursor.SegmentCursor.next_block.Goals as goal

pub returns-in-Bitmap : goal.returns-in-Bitmap
returns-in-Bitmap c =
    let bytes = c.args.bytes.now in
    let is = c.in-Bitmap.is in
    let handed = c.next_block-in-Bitmap.ensures in
    record {
      most = handed.most;
      block = λ docs gives. handed.block docs (subst (λ codec. CodecGives codec bytes docs) is gives);
      rest = λ docs gives. handed.rest docs (subst (λ codec. CodecGives codec bytes docs) is gives);
      end = λ docs gives. handed.end docs (subst (λ codec. CodecGives codec bytes docs) is gives);
    }
