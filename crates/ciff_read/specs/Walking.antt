-- Walking the fields of a body from the left, with the first fault and its place.
use Rattle.std.specs.Prelude.{ℕ, zero, suc, ◌+◌, ◌-◌, ◌==◌, List, [], ◌∷◌, ◌++◌, length, Result, Ok, if◌then◌else◌}
use Rattle.jass_base.specs.Wire.{WireField, WireValue, Number, Eight, Text, Four, number_field}
use Rattle.wire_fields.specs.Reading.{field_at}
use Rattle.ciff_read.specs.declared.posting_fields.PostingFields.{PostingFields}
use Rattle.ciff_read.specs.declared.refusal.CiffRefusal.{CiffRefusal}
use Rattle.ciff_read.specs.Refusals.{◌>>=◌, field_placed}

-- a posting as it stands, and the place of its field
pub record PlacedEntry : Type 0 where
  pub at : ℕ
  pub entry : PostingFields

-- the fields of a body, and the postings inside them
pub record Walked : Type 0 where
  pub fields : List WireField
  pub entries : List PlacedEntry

-- one field more in front, with the postings inside it
abbrev pub in_front : WireField → List PlacedEntry → Walked → Walked
in_front f entries later = record { fields = f ∷ later.fields; entries = entries ++ later.entries }

-- the fields of bytes that stand from a place on, at most so many; `inside` looks into a field by its place and the place behind it
unfoldable pub walk_within : (ℕ → ℕ → WireField → Result (List PlacedEntry) CiffRefusal) → ℕ → ℕ → List ℕ → Result Walked CiffRefusal
walk_within inside k at [] = Ok (record { fields = []; entries = [] })
walk_within inside zero at (b ∷ s) = Ok (record { fields = []; entries = [] })
walk_within inside (suc k) at (b ∷ s) =
    field_placed at (field_at (b ∷ s)) >>= λ x.
    inside at (at + (length (b ∷ s) - length x.1)) x.0 >>= λ entries.
    walk_within inside k (at + (length (b ∷ s) - length x.1)) x.1 >>= λ later.
    Ok (in_front x.0 entries later)

-- all fields of a body
abbrev pub walk : (ℕ → ℕ → WireField → Result (List PlacedEntry) CiffRefusal) → ℕ → List ℕ → Result Walked CiffRefusal
walk inside at s = walk_within inside (length s) at s

-- nothing is looked for inside a field
abbrev pub nothing_inside : ℕ → ℕ → WireField → Result (List PlacedEntry) CiffRefusal
nothing_inside at next f = Ok []

-- the posting that the fields of its body give
abbrev pub entry_of : List WireField → PostingFields
entry_of fields = record { docid = number_field 1 fields; tf = number_field 2 fields }

-- the posting of a body that stands at a place
abbrev pub entry_at : ℕ → List ℕ → Result PostingFields CiffRefusal
entry_at from body = walk nothing_inside from body >>= λ walked. Ok (entry_of walked.fields)

-- the posting in a value that ends at a place
abbrev pub entry_in : WireValue → ℕ → ℕ → Result (List PlacedEntry) CiffRefusal
entry_in (Number n) at next = Ok []
entry_in (Eight bytes) at next = Ok []
entry_in (Text body) at next = entry_at (next - length body) body >>= λ entry. Ok (record { at = at; entry = entry } ∷ [])
entry_in (Four bytes) at next = Ok []

-- the postings of a list are its fields of number 4
abbrev pub entry_inside : ℕ → ℕ → WireField → Result (List PlacedEntry) CiffRefusal
entry_inside at next f = if f.number == 4 then entry_in f.value at next else Ok []
