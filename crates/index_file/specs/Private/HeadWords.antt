-- Heads in words of 32 bits.
use Rattle.std.specs.Prelude.{ℕ, ◌+◌, ◌-◌, ◌/◌, ◌%◌, ◌^◌, ◌<◌, List, map, nat_lt, if◌then◌else◌}
use Rattle.std.specs.Option.{unwrap_or}
use Rattle.segment_codecs.specs.Codecs.{codec_of}
use Rattle.segment_codecs.specs.declared.codec.Codec.TheVariants.{Varbyte}
use Rattle.index_layout.specs.Heads.{HeadData}
use Rattle.index_file.specs.declared.segment_head.SegmentHead.{SegmentHead}
use Rattle.index_file.specs.Parts.{told}
use Rattle.index_file.specs.Private.Tables.{head_at}

-- the head that a word has in itself
unfoldable pub unpacked : ℕ → HeadData
unpacked word = record {
  impact = word % 1024;
  count = word / 1024 % 512;
  codec = unwrap_or (codec_of (word / 536870912)) Varbyte;
  size = word / 524288 % 1024;
}

-- the heads that stand aside
abbrev pub all_told : List SegmentHead → List HeadData
all_told aside = map told aside

-- the head of a word: its own, or the one aside that it tells
abbrev pub head_of_word : List HeadData → ℕ → HeadData
head_of_word aside word = if nat_lt word (2 ^ 31) then unpacked word else head_at aside (word - 2 ^ 31)

-- the heads of words
abbrev pub heads_of_words : List HeadData → List ℕ → List HeadData
heads_of_words aside words = map (head_of_word aside) words

-- a word tells no head behind so many that stand aside
abbrev pub IsWord : ℕ → ℕ → Type 0
IsWord count word = word < 2 ^ 31 + count
