-- The bytes of an index file in version 2. This project's.
use Rattle.std.specs.Prelude.{ℕ, ◌+◌, List, [], ◌∷◌, ◌++◌, length, drop, codes}
use Rattle.std.specs.List.{flat_map, common_prefix_len}
use Rattle.std.specs.Prelude.{nat_eq}
use Rattle.segment_codecs.specs.Codecs.{codec_number, payload_of}
use Rattle.segment_codecs.specs.declared.codec.Codec.{Codec}
use Rattle.index_model.specs.Index.{SegmentData, TermData}
use Rattle.index_layout.specs.Bytes.{u16_bytes, u32_bytes, u64_bytes}
use Rattle.index_layout.specs.Heads.{HeadData, TermHeads, head_postings, payloads_size, greatest_impact}

-- the first eight bytes of a file in this version and in the one before
abbrev pub magic : List ℕ
magic = codes "JASSIDX2"

abbrev pub old_magic : List ℕ
old_magic = codes "JASSIDX1"

-- a name behind its length
unfoldable pub name_bytes : List ℕ → List ℕ
name_bytes name = u32_bytes (length name) ++ name

abbrev pub names_bytes : List (List ℕ) → List ℕ
names_bytes names = flat_map name_bytes names

-- a head: impact, count, codec, size of the payload
unfoldable pub head_bytes : HeadData → List ℕ
head_bytes h = u16_bytes h.impact ++ (u32_bytes h.count ++ (codec_number h.codec ∷ u32_bytes h.size))

abbrev pub heads_bytes : List HeadData → List ℕ
heads_bytes heads = flat_map head_bytes heads

-- how many bytes a term has in common with the one before
abbrev pub shared_with : List ℕ → List ℕ → ℕ
shared_with before term = common_prefix_len nat_eq before term

-- what a term adds to the one before
abbrev pub rest_behind : List ℕ → List ℕ → List ℕ
rest_behind before term = drop (shared_with before term) term

-- a term behind the one before it: what they share is not spelled again (front coding)
unfoldable pub term_bytes : List ℕ → List ℕ → List ℕ
term_bytes before term =
    u16_bytes (shared_with before term) ++ (u16_bytes (length (rest_behind before term)) ++ rest_behind before term)

-- terms behind one, each with the number of its segments and their heads
abbrev pub terms_bytes : List ℕ → List TermHeads → List ℕ
terms_bytes before [] = []
terms_bytes before (t ∷ terms) =
    (term_bytes before t.term ++ (u32_bytes (length t.heads) ++ heads_bytes t.heads)) ++ terms_bytes t.term terms

-- how many bytes the file has: 40, the names, the terms with their heads, and the payloads
abbrev pub file_length : List (List ℕ) → List TermHeads → ℕ
file_length names terms = 40 + length (names_bytes names) + length (terms_bytes [] terms) + payloads_size terms

-- the first 40 bytes
unfoldable pub totals_bytes : List (List ℕ) → List TermHeads → List ℕ
totals_bytes names terms =
    magic ++ (u64_bytes (file_length names terms) ++ (u32_bytes (length names) ++ (u32_bytes (length terms)
    ++ (u64_bytes (head_postings terms) ++ (u32_bytes (greatest_impact terms) ++ u32_bytes 0)))))

-- what stands before the payloads
unfoldable pub front_bytes : List (List ℕ) → List TermHeads → List ℕ
front_bytes names terms = totals_bytes names terms ++ (names_bytes names ++ terms_bytes [] terms)

-- the payloads of segments, each in its codec, in an index of d documents
abbrev pub segments_payloads : ℕ → List SegmentData → List Codec → List ℕ
segments_payloads d [] codecs = []
segments_payloads d (segment ∷ segments) [] = []
segments_payloads d (segment ∷ segments) (codec ∷ codecs) =
    payload_of codec d segment.docs ++ segments_payloads d segments codecs

-- the payloads of all terms
abbrev pub terms_payloads : ℕ → List TermData → List (List Codec) → List ℕ
terms_payloads d [] codecs = []
terms_payloads d (t ∷ terms) [] = []
terms_payloads d (t ∷ terms) (here ∷ codecs) = segments_payloads d t.segments here ++ terms_payloads d terms codecs
