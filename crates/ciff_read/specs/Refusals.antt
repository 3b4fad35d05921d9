-- A refusal with its place, and steps that may refuse.
use Rattle.std.specs.Prelude.{ℕ, ◌≡◌, ⊤, Result, Ok, Err}
use Rattle.wire_fields.specs.declared.fault.WireWhy.{WireWhy}
use Rattle.wire_fields.specs.declared.fault.WireWhy.TheVariants as wire
use Rattle.ciff_read.specs.declared.refusal.CiffWhy.{CiffWhy}
use Rattle.ciff_read.specs.declared.refusal.CiffWhy.TheVariants.{Cut, Varint, Wire, Range, Text, Gap, DocRange, Tf, TermTwice, DocTwice, NameText, Trailing, Limit, Changed}
use Rattle.ciff_read.specs.declared.refusal.CiffRefusal.{CiffRefusal}
use Rattle.ciff_read.specs.declared.refusal.CiffFault.{CiffFault}
use Rattle.ciff_read.specs.declared.refusal.CiffFault.TheVariants as faults

-- what is read next, unless there was a refusal
infixl 10 ◌>>=◌
abbrev pub ◌>>=◌ : {A B : Type 0} → Result A CiffRefusal → (A → Result B CiffRefusal) → Result B CiffRefusal
(Ok x) >>= f = f x
(Err e) >>= f = Err e

-- the numbers of the refusals
abbrev pub number_of : CiffWhy → ℕ
number_of Cut = 10
number_of Varint = 11
number_of Wire = 12
number_of Range = 13
number_of Text = 14
number_of Gap = 15
number_of DocRange = 16
number_of Tf = 17
number_of TermTwice = 18
number_of DocTwice = 19
number_of NameText = 20
number_of Trailing = 21
number_of Limit = 22
number_of (Changed kept found) = 23

-- what a fault in the fields is as a refusal
abbrev pub why_of : WireWhy → CiffWhy
why_of wire.Cut = Cut
why_of wire.LongVarint = Varint
why_of wire.BadWire = Wire
why_of wire.FieldNumber = Wire

-- a refusal stands at this place
abbrev pub placed : {A : Type 0} → ℕ → Result A CiffWhy → Result A CiffRefusal
placed at (Ok x) = Ok x
placed at (Err why) = Err (record { at = at; why = why })

-- a fault in the fields stands at this place
abbrev pub field_placed : {A : Type 0} → ℕ → Result A WireWhy → Result A CiffRefusal
field_placed at (Ok x) = Ok x
field_placed at (Err why) = Err (record { at = at; why = why_of why })

-- a fault that a function answers is the refusal that reading gives; want of memory may come instead, a read fault never
abbrev pub Fails : {Y : Type 0} → CiffFault → Result Y CiffRefusal → Type 0
Fails (faults.Refused refusal) read = read ≡ Err refusal
Fails faults.ReadFault read = ⊥
Fails faults.NoMemory read = ⊤

-- what a function answers, seen by view, is what reading gives
abbrev pub Answers : {X Y : Type 0} → (X → Y) → Result X CiffFault → Result Y CiffRefusal → Type 0
Answers view (Ok x) read = read ≡ Ok (view x)
Answers view (Err fault) read = Fails fault read
