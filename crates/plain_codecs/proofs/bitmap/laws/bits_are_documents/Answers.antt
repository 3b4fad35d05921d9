use Rattle.plain_codecs.proofs.Bitmaps.{length-bitmap, bitmap_found, bitmap_only}
use Rattle.plain_codecs.proofs.bitmap.laws.bits_are_documents.Goals as goal

pub returns : goal.returns
returns c = record {
  size = length-bitmap;
  found = bitmap_found c.set_bits_rise.ensures.rising c.set_bits_rise.ensures.members;
  only = bitmap_only c.set_bits_rise.ensures.members;
}
