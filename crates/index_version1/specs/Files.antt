-- Which index the bytes of a file of version 1 stand for.
use Rattle.std.specs.Prelude.{ℕ, ◌≡◌, ◌≤◌, List, ◌++◌, length, All}
use Rattle.segment_codecs.specs.declared.codec.Codec.{Codec}
use Rattle.index_model.specs.Index.{IndexData, IsIndex}
use Rattle.index_layout.specs.View.{FileView, HaveCodecs, view_heads, view_payloads, index_postings}
use Rattle.index_version1.specs.Layout.{front1_bytes}
use Rattle.jass_base.specs.declared.limits.TheConstants.{LONGEST_FILE, LONGEST_OLD_NAME, MOST_POSTINGS}

-- the bytes of a view: what stands before the payloads, and the payloads
unfoldable pub file1_bytes : FileView → List ℕ
file1_bytes v = front1_bytes v.index.names (view_heads v) ++ view_payloads v

-- a name of at most 65,535 bytes
abbrev pub IsShort : List ℕ → Type 0
IsShort name = length name ≤ LONGEST_OLD_NAME

-- the view of a file: an index with short names and at most 2^29 postings, a codec for each segment, and at most 2^32 bytes
pub record IsFile1View (v : FileView) : Type 0 where
  pub index : IsIndex v.index
  pub short : All IsShort v.index.names
  pub codecs : HaveCodecs v.index.terms v.codecs
  pub postings : index_postings v.index ≤ MOST_POSTINGS
  pub fits : length (file1_bytes v) ≤ LONGEST_FILE

-- the bytes are those of the index, each segment in some codec
pub record IsIndexFile1 (bytes : List ℕ) (index : IndexData) : Type 0 where
  pub codecs : List (List Codec)
  pub view : IsFile1View (record { index = index; codecs = codecs })
  pub spelled : bytes ≡ file1_bytes (record { index = index; codecs = codecs })
