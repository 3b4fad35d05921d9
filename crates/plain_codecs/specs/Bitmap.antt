-- A bitmap: bit x is set exactly where document x is in the list, as dense lists are kept in Culpepper
-- and Moffat, "Efficient set intersection for inverted indexing" (2010). The lowest bit of the first
-- byte is bit 0.
use Rattle.std.specs.Prelude.{ℕ, ◌+◌, ◌*◌, ◌/◌, ◌==◌, List, length, Result, Ok, Err, nat_lt, if◌then◌else◌}
use Rattle.std.specs.List.{list_all, list_any}
use Rattle.jass_base.specs.declared.payload_fault.PayloadFault.{PayloadFault}
use Rattle.jass_base.specs.declared.payload_fault.PayloadFault.TheVariants.{Cut, Longer, Shape, DocRange}
use Rattle.lane_kernels.specs.Bitmap.{set_bits}
use Rattle.lane_kernels.specs.Block.{list_of, number_of_bits}

-- how many bytes d bits take
abbrev pub bitmap_size : ℕ → ℕ
bitmap_size d = (d + 7) / 8

-- 1 for a document of the list, else 0
abbrev pub bit_for : List ℕ → ℕ → ℕ
bit_for docs x = if list_any (λ doc. doc == x) docs then 1 else 0

-- byte k of the payload
abbrev pub bitmap_byte : List ℕ → ℕ → ℕ
bitmap_byte docs k = number_of_bits (λ v. bit_for docs (8 * k + v)) 8

-- the payload of the documents, in an index of d documents
abbrev pub bitmap_of : ℕ → List ℕ → List ℕ
bitmap_of d docs = list_of (bitmap_byte docs) (bitmap_size d)

-- so many documents below d, or the first fault
abbrev pub read_bitmap : ℕ → ℕ → List ℕ → Result (List ℕ) PayloadFault
read_bitmap d count bytes =
    if nat_lt (length bytes) (bitmap_size d) then Err Cut
    else (if nat_lt (bitmap_size d) (length bytes) then Err Longer
    else (if list_all (λ doc. nat_lt doc d) (set_bits 0 bytes)
    then (if length (set_bits 0 bytes) == count then Ok (set_bits 0 bytes) else Err Shape)
    else Err DocRange))
