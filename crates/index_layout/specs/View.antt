-- What callers see of an index file, and the bytes of what they see.
use Rattle.std.specs.Prelude.{ℕ, ◌≡◌, ◌≤◌, List, ◌++◌, length, map}
use Rattle.std.specs.List.{sum_by}
use Rattle.segment_codecs.specs.Codecs.{chosen_codec}
use Rattle.segment_codecs.specs.declared.codec.Codec.{Codec}
use Rattle.index_model.specs.Index.{SegmentData, TermData, IndexData, IsIndex}
use Rattle.index_layout.specs.Heads.{TermHeads, terms_heads}
use Rattle.index_layout.specs.Layout.{front_bytes, terms_payloads}
use Rattle.jass_base.specs.declared.limits.TheConstants.{LONGEST_FILE, MOST_POSTINGS}

-- an index, and the codec of each segment of each term
pub record FileView : Type 0 where
  pub index : IndexData
  pub codecs : List (List Codec)

-- the terms of the view with the heads of their segments
unfoldable pub view_heads : FileView → List TermHeads
view_heads v = terms_heads (length v.index.names) v.index.terms v.codecs

-- the payloads of the view
unfoldable pub view_payloads : FileView → List ℕ
view_payloads v = terms_payloads (length v.index.names) v.index.terms v.codecs

-- the bytes of the view: what stands before the payloads, and the payloads
unfoldable pub file_bytes : FileView → List ℕ
file_bytes v = front_bytes v.index.names (view_heads v) ++ view_payloads v

-- how many postings an index has
abbrev pub term_postings : TermData → ℕ
term_postings t = sum_by (λ (s : SegmentData). length s.docs) t.segments

abbrev pub index_postings : IndexData → ℕ
index_postings index = sum_by term_postings index.terms

-- one codec for each segment
abbrev pub HaveCodecs : List TermData → List (List Codec) → Type 0
HaveCodecs terms codecs =
    map (λ (here : List Codec). length here) codecs ≡ map (λ (t : TermData). length t.segments) terms

-- the view of a file: an index of at most 2^29 postings, a codec for each segment, and at most 2^32 bytes
pub record IsFileView (v : FileView) : Type 0 where
  pub index : IsIndex v.index
  pub codecs : HaveCodecs v.index.terms v.codecs
  pub postings : index_postings v.index ≤ MOST_POSTINGS
  pub fits : length (file_bytes v) ≤ LONGEST_FILE

-- the shortest codec for each segment
abbrev pub chosen_codecs : ℕ → List TermData → List (List Codec)
chosen_codecs d terms = map (λ (t : TermData). map (λ (s : SegmentData). chosen_codec d s.docs) t.segments) terms

abbrev pub chosen_view : IndexData → FileView
chosen_view index = record { index = index; codecs = chosen_codecs (length index.names) index.terms }

-- the text of an index: its bytes with each segment in its shortest codec
unfoldable pub index_text : IndexData → List ℕ
index_text index = file_bytes (chosen_view index)
