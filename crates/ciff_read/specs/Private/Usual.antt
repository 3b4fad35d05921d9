-- Postings of a list in their usual spelling, one and several.
use Rattle.std.specs.Prelude.{ℕ, ◌≡◌, ◌+◌, ◌<◌, ◌≤◌, ◌/◌, ◌%◌, ◌^◌, List, [], ◌∷◌, length, get_or, drop, Ok}
use Rattle.jass_base.specs.Wire.{Text}
use Rattle.wire_fields.specs.Reading.{field_at}
use Rattle.ciff_read.specs.declared.posting_fields.PostingFields.{PostingFields}
use Rattle.ciff_read.specs.Walking.{PlacedEntry, entry_at}

-- the field at a place is this posting of a list, and ends at another place
pub record IsPosting (bytes : List ℕ) (at : ℕ) (entry : PostingFields) (next : ℕ) : Type 0 where
  pub body : List ℕ
  pub read : field_at (drop at bytes) ≡ Ok (record { number = 4; value = Text body }, drop next bytes)
  pub spells : (from : ℕ) → entry_at from body ≡ Ok entry
  pub before : at < next
  pub within : next ≤ length bytes

-- a gap of at most three bytes and a tf of one byte, neither of them 0
pub record IsUsual (entry : PostingFields) : Type 0 where
  pub some_gap : 0 < entry.docid
  pub small_gap : entry.docid < 2 ^ 21
  pub some_tf : 0 < entry.tf
  pub small_tf : entry.tf < 128

-- the eight bytes at a place are those of the number, the lowest first
abbrev pub HasBytes : List ℕ → ℕ → ℕ → Type 0
HasBytes bytes at word = (i : ℕ) → i < 8 → get_or bytes (at + i) 0 ≡ word / 256 ^ i % 256

-- these postings stand in the bytes one behind the other, from a place to another
abbrev pub IsRun : List ℕ → ℕ → List PlacedEntry → ℕ → Type 0
IsRun bytes at [] next = at ≡ next
IsRun bytes at (x ∷ xs) next = (x.at ≡ at) × ((behind : ℕ) × IsPosting bytes at x.entry behind × IsRun bytes behind xs next)
