-- The heads of an index file: what stands in it before the payloads.
use Rattle.std.specs.Prelude.{ℕ, List, [], ◌∷◌, length, max}
use Rattle.std.specs.List.{flat_map, sum_by}
use Rattle.index_model.specs.Index.{SegmentData, TermData}
use Rattle.segment_codecs.specs.Codecs.{payload_size}
use Rattle.segment_codecs.specs.declared.codec.Codec.{Codec}

-- the head of a segment: its impact, how many documents, the codec of its payload, and how many bytes that has
pub record HeadData : Type 0 where
  pub impact : ℕ
  pub count : ℕ
  pub codec : Codec
  pub size : ℕ

-- a term, and the heads of its segments
pub record TermHeads : Type 0 where
  pub term : List ℕ
  pub heads : List HeadData

-- the head of a segment in a codec, in an index of d documents
abbrev pub head_of : ℕ → SegmentData → Codec → HeadData
head_of d segment codec = record {
  impact = segment.impact;
  count = length segment.docs;
  codec = codec;
  size = payload_size d segment.docs codec;
}

-- the heads of segments, each in its codec
abbrev pub heads_of : ℕ → List SegmentData → List Codec → List HeadData
heads_of d [] codecs = []
heads_of d (segment ∷ segments) [] = []
heads_of d (segment ∷ segments) (codec ∷ codecs) = head_of d segment codec ∷ heads_of d segments codecs

-- the terms with the heads of their segments
abbrev pub terms_heads : ℕ → List TermData → List (List Codec) → List TermHeads
terms_heads d [] codecs = []
terms_heads d (t ∷ terms) [] = []
terms_heads d (t ∷ terms) (here ∷ codecs) =
    record { term = t.term; heads = heads_of d t.segments here } ∷ terms_heads d terms codecs

-- the heads of all terms
abbrev pub all_heads : List TermHeads → List HeadData
all_heads terms = flat_map (λ (t : TermHeads). t.heads) terms

-- how many postings the heads count
abbrev pub head_postings : List TermHeads → ℕ
head_postings terms = sum_by (λ (h : HeadData). h.count) (all_heads terms)

-- how many bytes the payloads have
abbrev pub payloads_size : List TermHeads → ℕ
payloads_size terms = sum_by (λ (h : HeadData). h.size) (all_heads terms)

-- the greatest impact of heads, 0 where there is none
abbrev pub greatest_of : List HeadData → ℕ
greatest_of [] = 0
greatest_of (h ∷ heads) = max h.impact (greatest_of heads)

abbrev pub greatest_impact : List TermHeads → ℕ
greatest_impact terms = greatest_of (all_heads terms)
