-- The heads and the payloads of an index whose segments are each in their shortest codec.
use Rattle.std.specs.Prelude.{ℕ, List, map, flat_map}
use Rattle.segment_codecs.specs.Codecs.{chosen_codec, payload_of}
use Rattle.index_model.specs.Index.{SegmentData, TermData}
use Rattle.index_layout.specs.Heads.{HeadData, TermHeads, head_of}
use Rattle.index_write.specs.declared.head.PayloadHead.{PayloadHead}

-- a head of the table as plain data
abbrev pub head_data : PayloadHead → HeadData
head_data h = record { impact = h.impact; count = h.count; codec = h.codec; size = h.bytes }

-- the head of a segment in its shortest codec, in an index of d documents
abbrev pub chosen_head : ℕ → SegmentData → HeadData
chosen_head d segment = head_of d segment (chosen_codec d segment.docs)

abbrev pub chosen_heads : ℕ → List SegmentData → List HeadData
chosen_heads d segments = map (chosen_head d) segments

-- a term with these heads
abbrev pub chosen_entry : ℕ → TermData → TermHeads
chosen_entry d t = record { term = t.term; heads = chosen_heads d t.segments }

-- the terms with these heads
abbrev pub chosen_terms : ℕ → List TermData → List TermHeads
chosen_terms d terms = map (chosen_entry d) terms

-- the payload of a segment in its shortest codec
abbrev pub chosen_payload : ℕ → SegmentData → List ℕ
chosen_payload d segment = payload_of (chosen_codec d segment.docs) d segment.docs

abbrev pub chosen_payloads : ℕ → List SegmentData → List ℕ
chosen_payloads d segments = flat_map (chosen_payload d) segments

-- the payloads of all terms
abbrev pub table_payloads : ℕ → List TermData → List ℕ
table_payloads d terms = flat_map (λ (t : TermData). chosen_payloads d t.segments) terms
