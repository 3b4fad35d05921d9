-- Terms and segments by their numbers, and how many segments are in each codec.
use Rattle.std.specs.Prelude.{ℕ, ◌==◌, List, [], length, map}
use Rattle.std.specs.List.{filter, flat_map, slice_index_or}
use Rattle.segment_codecs.specs.Codecs.{codec_number}
use Rattle.segment_codecs.specs.declared.codec.Codec.{Codec}
use Rattle.segment_codecs.specs.declared.codec.Codec.TheVariants.{Varbyte, Packed, Bitmap, Simple8}
use Rattle.index_model.specs.Index.{SegmentData, TermData}
use Rattle.index_model.specs.Querying.{segments_at}
use Rattle.index_file.specs.declared.figures.CodecUse.{CodecUse}

-- the bytes of the term with a number
abbrev pub term_at : List TermData → ℕ → List ℕ
term_at terms number = (slice_index_or terms number (record { term = []; segments = [] })).term

-- the bytes of all terms
abbrev pub texts_of : List TermData → List (List ℕ)
texts_of terms = map (λ (t : TermData). t.term) terms

-- a segment of the term with a number
abbrev pub segment_at : List TermData → ℕ → ℕ → SegmentData
segment_at terms number place = slice_index_or (segments_at terms number) place (record { impact = 0; docs = [] })

-- the codec of a segment of the term with a number
abbrev pub codec_at : List (List Codec) → ℕ → ℕ → Codec
codec_at codecs number place = slice_index_or (slice_index_or codecs number []) place Varbyte

-- the codecs of all segments, where they stand term by term
abbrev pub all_codecs : List (List Codec) → List Codec
all_codecs codecs = flat_map (λ (here : List Codec). here) codecs

-- how many of some codecs are this one
abbrev pub uses_of : Codec → List Codec → ℕ
uses_of codec codecs = length (filter (λ (c : Codec). codec_number c == codec_number codec) codecs)

-- how many segments are in each codec
abbrev pub codec_use : List (List Codec) → CodecUse
codec_use codecs = record {
  varbyte = uses_of Varbyte (all_codecs codecs);
  packed = uses_of Packed (all_codecs codecs);
  bitmap = uses_of Bitmap (all_codecs codecs);
  simple8 = uses_of Simple8 (all_codecs codecs);
}
