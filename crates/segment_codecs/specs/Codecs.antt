-- The codecs of a segment, and which of them a list of documents takes.
use Rattle.std.specs.Prelude.{ℕ, ◌==◌, List, length, nat_le, if◌then◌else◌, Option, Some, None, Result}
use Rattle.jass_base.specs.declared.payload_fault.PayloadFault.{PayloadFault}
use Rattle.codec_packed.specs.Packing.{packed_of}
use Rattle.codec_packed.specs.Reading.{read_packed}
use Rattle.codec_simple8.specs.Simple8.{simple8_of, read_simple8}
use Rattle.plain_codecs.specs.Bitmap.{bitmap_of, read_bitmap}
use Rattle.plain_codecs.specs.Varbyte.{varbyte_of, read_varbyte}
use Rattle.segment_codecs.specs.declared.codec.Codec.{Codec}
use Rattle.segment_codecs.specs.declared.codec.Codec.TheVariants.{Varbyte, Packed, Bitmap, Simple8}

-- the number of a codec in an index file
abbrev pub codec_number : Codec → ℕ
codec_number Varbyte = 0
codec_number Packed = 1
codec_number Bitmap = 2
codec_number Simple8 = 3

-- the codec with a number, none above 3
abbrev pub codec_of : ℕ → Option Codec
codec_of number =
    if number == 0 then Some Varbyte
    else (if number == 1 then Some Packed
    else (if number == 2 then Some Bitmap
    else (if number == 3 then Some Simple8 else None)))

-- the payload of documents of an index of d documents
abbrev pub payload_of : Codec → ℕ → List ℕ → List ℕ
payload_of Varbyte d docs = varbyte_of docs
payload_of Packed d docs = packed_of docs
payload_of Bitmap d docs = bitmap_of d docs
payload_of Simple8 d docs = simple8_of docs

-- `count` documents below d, or the first fault
abbrev pub read_payload : Codec → ℕ → ℕ → List ℕ → Result (List ℕ) PayloadFault
read_payload Varbyte d count bytes = read_varbyte d count bytes
read_payload Packed d count bytes = read_packed d count bytes
read_payload Bitmap d count bytes = read_bitmap d count bytes
read_payload Simple8 d count bytes = read_simple8 d count bytes

-- how many bytes it has
abbrev pub payload_size : ℕ → List ℕ → Codec → ℕ
payload_size d docs codec = length (payload_of codec d docs)

-- the codec of the two whose payload is shorter, the first of equal ones
abbrev pub shorter : ℕ → List ℕ → Codec → Codec → Codec
shorter d docs first second = if nat_le (payload_size d docs first) (payload_size d docs second) then first else second

-- the same of the codecs but Simple8
abbrev pub without_words : ℕ → List ℕ → Codec
without_words d docs = shorter d docs (shorter d docs Varbyte Packed) Bitmap

-- the codec with the shortest payload, the one with the lowest number of equal ones
abbrev pub chosen_codec : ℕ → List ℕ → Codec
chosen_codec d docs = shorter d docs (without_words d docs) Simple8
