-- Reading varints and fields from the front of bytes, with the first fault that is met.
use Rattle.std.specs.Prelude.{ℕ, zero, suc, ◌+◌, ◌*◌, ◌/◌, ◌%◌, ◌==◌, ◌||◌, List, [], ◌∷◌, length, take, drop, Result, Ok, Err, nat_lt, if◌then◌else◌}
use Rattle.jass_base.specs.Wire.{WireField, WireValue, Number, Eight, Text, Four}
use Rattle.wire_fields.specs.declared.fault.WireWhy.{WireWhy}
use Rattle.wire_fields.specs.declared.fault.WireWhy.TheVariants.{Cut, LongVarint, BadWire, FieldNumber}

-- what is read next, unless there was a fault
infixl 10 ◌>>=◌
abbrev pub ◌>>=◌ : {A B : Type 0} → Result A WireWhy → (A → Result B WireWhy) → Result B WireWhy
(Ok x) >>= f = f x
(Err e) >>= f = Err e

-- a varint of so many bytes at most, and the bytes behind it
abbrev pub varint_within : ℕ → List ℕ → Result (ℕ × List ℕ) WireWhy
varint_within zero bytes = Err LongVarint
varint_within (suc k) [] = Err Cut
varint_within (suc zero) (b ∷ rest) = if nat_lt b 2 then Ok (b, rest) else Err LongVarint
varint_within (suc (suc k)) (b ∷ rest) = if nat_lt b 128 then Ok (b, rest) else (varint_within (suc k) rest >>= λ x. Ok (b % 128 + 128 * x.0, x.1))

unfoldable pub varint_at : List ℕ → Result (ℕ × List ℕ) WireWhy
varint_at bytes = varint_within 10 bytes

-- so many bytes, and those behind them
abbrev pub some_at : ℕ → List ℕ → Result (List ℕ × List ℕ) WireWhy
some_at n bytes = if nat_lt (length bytes) n then Err Cut else Ok (take n bytes, drop n bytes)

-- the value of a wire type, and the bytes behind it
abbrev pub value_at : ℕ → List ℕ → Result (WireValue × List ℕ) WireWhy
value_at wire bytes =
    if wire == 0 then (varint_at bytes >>= λ x. Ok (Number x.0, x.1))
    else (if wire == 1 then (some_at 8 bytes >>= λ x. Ok (Eight x.0, x.1))
    else (if wire == 2 then (varint_at bytes >>= λ size. some_at size.0 size.1 >>= λ x. Ok (Text x.0, x.1))
    else (if wire == 5 then (some_at 4 bytes >>= λ x. Ok (Four x.0, x.1))
    else Err BadWire)))

-- the field at the front of bytes, and the bytes behind it
unfoldable pub field_at : List ℕ → Result (WireField × List ℕ) WireWhy
field_at bytes = varint_at bytes >>= λ tag.
    if tag.0 / 8 == 0 || nat_lt 536870911 (tag.0 / 8) then Err FieldNumber
    else (value_at (tag.0 % 8) tag.1 >>= λ x. Ok (record { number = tag.0 / 8; value = x.0 }, x.1))
