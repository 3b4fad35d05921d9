-- The protobuf wire format (protobuf.dev, "Encoding"): varints, and the fields of a message's body.
use Rattle.std.specs.Prelude.{ℕ, zero, suc, ◌≡◌, ◌≢◌, ◌<◌, ◌≤◌, ◌+◌, ◌*◌, ◌/◌, ◌%◌, ◌^◌, ◌==◌, List, [], ◌∷◌, ◌++◌, length, fold, replicate, nat_lt, if◌then◌else◌}
use Rattle.std.specs.List.{flat_map}

-- the number that groups of 7 bits stand for, the lowest first
abbrev pub groups_value : List ℕ → ℕ
groups_value [] = 0
groups_value (b ∷ bs) = b % 128 + 128 * groups_value bs

-- each byte but the last has its top bit set, and the last has not
abbrev pub AreGroups : List ℕ → Type 0
AreGroups [] = ⊥
AreGroups (b ∷ []) = b < 128
AreGroups (b ∷ c ∷ bs) = (128 ≤ b) × AreGroups (c ∷ bs)

-- one to ten bytes that are a varint of the number
pub record IsVarint (s : List ℕ) (n : ℕ) : Type 0 where
  pub groups : AreGroups s
  pub short : length s ≤ 10
  pub value : n ≡ groups_value s
  pub fits : n < 2 ^ 64

-- the last byte is not 0
abbrev pub EndsInBits : List ℕ → Type 0
EndsInBits [] = ⊥
EndsInBits (b ∷ []) = b ≢ 0
EndsInBits (b ∷ c ∷ bs) = EndsInBits (c ∷ bs)

-- the shortest varint of the number: the one byte 0, or the last byte is not 0
pub record IsShortVarint (s : List ℕ) (n : ℕ) : Type 0 where
  pub varint : IsVarint s n
  pub shortest : length s ≢ 1 → EndsInBits s

-- the shortest varint of a number, with at most so many groups behind the first
abbrev pub short_varint_within : ℕ → ℕ → List ℕ
short_varint_within zero n = n ∷ []
short_varint_within (suc k) n = if nat_lt n 128 then n ∷ [] else (n % 128 + 128) ∷ short_varint_within k (n / 128)

unfoldable pub short_varint : ℕ → List ℕ
short_varint n = short_varint_within 9 n

-- the value of a field: a number, eight bytes, a text, or four bytes
pub data WireValue : Type 0 where
  Number : ℕ → WireValue
  Eight : List ℕ → WireValue
  Text : List ℕ → WireValue
  Four : List ℕ → WireValue

-- a field of a message
pub record WireField : Type 0 where
  pub number : ℕ
  pub value : WireValue

-- the wire type of a value
abbrev pub wire_of : WireValue → ℕ
wire_of (Number n) = 0
wire_of (Eight bytes) = 1
wire_of (Text bytes) = 2
wire_of (Four bytes) = 5

-- bytes behind the varint of their length
pub record IsSized (s bytes : List ℕ) : Type 0 where
  pub size : List ℕ
  pub parts : s ≡ size ++ bytes
  pub sized : IsVarint size (length bytes)

-- the spelling of a value
abbrev pub IsValue : List ℕ → WireValue → Type 0
IsValue s (Number n) = IsVarint s n
IsValue s (Eight bytes) = (s ≡ bytes) × (length bytes ≡ 8)
IsValue s (Text bytes) = IsSized s bytes
IsValue s (Four bytes) = (s ≡ bytes) × (length bytes ≡ 4)

-- a field: the varint of its number and wire type, and its value
pub record IsField (s : List ℕ) (f : WireField) : Type 0 where
  pub tag : List ℕ
  pub value : List ℕ
  pub parts : s ≡ tag ++ value
  pub tagged : IsVarint tag (f.number * 8 + wire_of f.value)
  pub numbered : (1 ≤ f.number) × (f.number ≤ 536870911)
  pub valued : IsValue value f.value

-- one spelling of each item, one after the other
abbrev pub Spells : {X : Type 0} → (List ℕ → X → Type 0) → List ℕ → List X → Type 0
Spells IsOne s [] = s ≡ []
Spells IsOne s (x ∷ xs) = (first : List ℕ) × (rest : List ℕ) × (s ≡ first ++ rest) × IsOne first x × Spells IsOne rest xs

-- a body: its fields one after the other
abbrev pub AreFields : List ℕ → List WireField → Type 0
AreFields s fields = Spells IsField s fields

-- the number in a value, or the one before where it is none
abbrev pub number_in : WireValue → ℕ → ℕ
number_in (Number n) before = n
number_in (Eight bytes) before = before
number_in (Text bytes) before = before
number_in (Four bytes) before = before

-- the text in a value, or the one before where it is none
abbrev pub text_in : WireValue → List ℕ → List ℕ
text_in (Number n) before = before
text_in (Eight bytes) before = before
text_in (Text bytes) before = bytes
text_in (Four bytes) before = before

-- the eight bytes in a value, or those before where it is none
abbrev pub eight_in : WireValue → List ℕ → List ℕ
eight_in (Number n) before = before
eight_in (Eight bytes) before = bytes
eight_in (Text bytes) before = before
eight_in (Four bytes) before = before

-- the text in a value, as a list of none or one
abbrev pub texts_in : WireValue → List (List ℕ)
texts_in (Number n) = []
texts_in (Eight bytes) = []
texts_in (Text bytes) = bytes ∷ []
texts_in (Four bytes) = []

-- what a number, a text or eight bytes are behind one field more: those of the field where it has this number and such a value
abbrev pub number_after : ℕ → ℕ → WireField → ℕ
number_after i before f = if f.number == i then number_in f.value before else before

abbrev pub text_after : ℕ → List ℕ → WireField → List ℕ
text_after i before f = if f.number == i then text_in f.value before else before

abbrev pub eight_after : ℕ → List ℕ → WireField → List ℕ
eight_after i before f = if f.number == i then eight_in f.value before else before

-- the last number of field i, 0 where there is none
abbrev pub number_field : ℕ → List WireField → ℕ
number_field i fields = fold (number_after i) 0 fields

-- the last text of field i, empty where there is none
abbrev pub text_field : ℕ → List WireField → List ℕ
text_field i fields = fold (text_after i) [] fields

-- the last eight bytes of field i, zeros where there are none
abbrev pub eight_field : ℕ → List WireField → List ℕ
eight_field i fields = fold (eight_after i) (replicate 8 0) fields

-- the texts of a repeated field i
abbrev pub texts_field : ℕ → List WireField → List (List ℕ)
texts_field i fields = flat_map (λ (f : WireField). if f.number == i then texts_in f.value else []) fields
