-- The documents of a segment as gaps, and a gap as its shortest varint.
use Rattle.std.specs.Prelude.{ℕ, zero, suc, ◌≡◌, ◌↔◌, ◌<◌, ◌≤◌, ◌+◌, ◌-◌, ◌*◌, ◌%◌, ◌==◌, List, [], ◌∷◌, length, drop, All, nat_lt, if◌then◌else◌, Result, Ok, Err, IsOk}
use Rattle.std.specs.List.{flat_map}
use Rattle.std.specs.List.Sorted.{IsStrictlyIncreasing}
use Rattle.jass_base.specs.Wire.{short_varint}
use Rattle.jass_base.specs.declared.payload_fault.PayloadFault.{PayloadFault}
use Rattle.jass_base.specs.declared.payload_fault.PayloadFault.TheVariants.{Cut, Longer, Shape, DocRange}
use Rattle.jass_base.specs.declared.limits.TheConstants.{MOST_DOCUMENTS}

-- the documents of a segment, in an index of d documents
pub record AreDocs (d : ℕ) (docs : List ℕ) : Type 0 where
  pub some : 0 < length docs
  pub rising : IsStrictlyIncreasing docs
  pub below : All (λ doc. doc < d) docs
  pub limit : d ≤ MOST_DOCUMENTS

-- how far each document is above the least that it may be: `least` at first, then one above the document before it
abbrev pub gaps_from : ℕ → List ℕ → List ℕ
gaps_from least [] = []
gaps_from least (doc ∷ docs) = (doc - least) ∷ gaps_from (doc + 1) docs

abbrev pub gaps_of : List ℕ → List ℕ
gaps_of docs = gaps_from 0 docs

-- the documents with these gaps
abbrev pub docs_from : ℕ → List ℕ → List ℕ
docs_from least [] = []
docs_from least (gap ∷ gaps) = (least + gap) ∷ docs_from (least + gap + 1) gaps

-- the gaps as shortest varints, one after the other
abbrev pub spelled_gaps : List ℕ → List ℕ
spelled_gaps gaps = flat_map short_varint gaps

-- a gap, and how many bytes spell it
pub record GapSpelling : Type 0 where
  pub gap : ℕ
  pub size : ℕ

-- what is read next, unless there was a fault
infixl 10 ◌>>=◌
abbrev pub ◌>>=◌ : {A B : Type 0} → Result A PayloadFault → (A → Result B PayloadFault) → Result B PayloadFault
(Ok x) >>= f = f x
(Err fault) >>= f = Err fault

-- the shortest varint that the bytes begin with, of at most so many groups behind the first; groups of 0 behind a group are more than needed
abbrev pub gap_within : ℕ → List ℕ → Result GapSpelling PayloadFault
gap_within k [] = Err Cut
gap_within zero (b ∷ bs) = if nat_lt b 128 then Ok (record { gap = b; size = 1 }) else Err Shape
gap_within (suc k) (b ∷ bs) =
    if nat_lt b 128 then Ok (record { gap = b; size = 1 })
    else (gap_within k bs >>= λ rest. if rest.gap == 0 then Err Shape else Ok (record { gap = b % 128 + 128 * rest.gap; size = rest.size + 1 }))

-- the gap that the bytes begin with, a shortest varint of at most four bytes
unfoldable pub gap_in : List ℕ → Result GapSpelling PayloadFault
gap_in bytes = gap_within 3 bytes

-- the documents below d that so many gaps at the front of the bytes spell, the first at least `least`, or the first fault; no byte may be left
abbrev pub read_gaps : ℕ → ℕ → ℕ → List ℕ → Result (List ℕ) PayloadFault
read_gaps d least zero bytes = if length bytes == 0 then Ok [] else Err Longer
read_gaps d least (suc n) bytes = gap_in bytes >>= λ first.
    if nat_lt (least + first.gap) d then (read_gaps d (least + first.gap + 1) n (drop first.size bytes) >>= λ docs. Ok ((least + first.gap) ∷ docs))
    else Err DocRange

-- an answer that is Ok exactly for the payload of some list of so many documents below d
abbrev pub Accepts : {T E : Type 0} → (List ℕ → List ℕ) → ℕ → ℕ → List ℕ → Result T E → Type 0
Accepts payload d count bytes result = IsOk result ↔ ((docs : List ℕ) × AreDocs d docs × (length docs ≡ count) × (bytes ≡ payload docs))

-- an answer that is Ok exactly where the bytes are read, and else the fault
abbrev pub Judges : {T : Type 0} → Result (List ℕ) PayloadFault → Result T PayloadFault → Type 0
Judges (Ok docs) result = IsOk result
Judges (Err fault) result = result ≡ Err fault
