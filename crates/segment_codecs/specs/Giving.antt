-- What a cursor still gives.
use Rattle.std.specs.Prelude.{ℕ, List}
use Rattle.codec_packed.specs.Giving.{Gives as PackedGives}
use Rattle.codec_simple8.specs.Cursor.{Gives as Simple8Gives}
use Rattle.plain_codecs.specs.BitmapCursor.{Gives as BitmapGives}
use Rattle.plain_codecs.specs.VarbyteCursor.{Gives as VarbyteGives}
use Rattle.segment_codecs.specs.declared.cursor.SegmentCursor.{SegmentCursor}
use Rattle.segment_codecs.specs.declared.cursor.CodecCursor.{CodecCursor}
use Rattle.segment_codecs.specs.declared.cursor.CodecCursor.TheVariants.{Varbyte, Packed, Bitmap, Simple8}

-- what the cursor of the codec still gives
abbrev pub CodecGives : CodecCursor → List ℕ → List ℕ → Type 0
CodecGives (Varbyte cursor) bytes docs = VarbyteGives cursor bytes docs
CodecGives (Packed cursor) bytes docs = PackedGives cursor bytes docs
CodecGives (Bitmap cursor) bytes docs = BitmapGives cursor bytes docs
CodecGives (Simple8 cursor) bytes docs = Simple8Gives cursor bytes docs

-- the cursor still gives these documents of these bytes
abbrev pub Gives : SegmentCursor → List ℕ → List ℕ → Type 0
Gives cursor bytes docs = CodecGives cursor.codec bytes docs
