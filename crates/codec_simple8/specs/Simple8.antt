-- Simple-8b (Anh and Moffat, "Index compression using 64-bit words", 2010): gaps in words of 64
-- bits. The lowest 4 bits of a word are its selector, which tells how many gaps follow and how
-- many bits each of them has, the first in the lowest bits.
use Rattle.std.specs.Prelude.{ℕ, zero, suc, ◌+◌, ◌*◌, ◌-◌, ◌/◌, ◌%◌, ◌^◌, ◌==◌, ◌&&◌, Bool, List, [], ◌∷◌, ◌++◌, length, take, drop, sum, slice_index, nat_lt, nat_le, if◌then◌else◌, Result, Ok, Err}
use Rattle.std.specs.Int.{w64, from_le_bytes, to_le_bytes}
use Rattle.std.specs.List.{flat_map, list_all}
use Rattle.std.specs.Simd.Lanes.{number_l, digits_l}
use Rattle.std.specs.Str.{bytes_eq}
use Rattle.jass_base.specs.Gaps.{gaps_of, docs_from, ◌>>=◌}
use Rattle.jass_base.specs.declared.payload_fault.PayloadFault.{PayloadFault}
use Rattle.jass_base.specs.declared.payload_fault.PayloadFault.TheVariants.{Cut, Longer, Shape, DocRange}

-- ---- words

-- how many gaps a word of each selector has
unfoldable pub count_of : ℕ → ℕ
count_of selector = slice_index (240 ∷ 120 ∷ 60 ∷ 30 ∷ 20 ∷ 15 ∷ 12 ∷ 10 ∷ 8 ∷ 7 ∷ 6 ∷ 5 ∷ 4 ∷ 3 ∷ 2 ∷ 1 ∷ []) selector

-- how many bits each of them has
unfoldable pub width_of : ℕ → ℕ
width_of selector = slice_index (0 ∷ 0 ∷ 1 ∷ 2 ∷ 3 ∷ 4 ∷ 5 ∷ 6 ∷ 7 ∷ 8 ∷ 10 ∷ 12 ∷ 15 ∷ 20 ∷ 30 ∷ 60 ∷ []) selector

-- whether there are enough gaps for a word of this selector, and its width holds each of them
abbrev pub takes : ℕ → List ℕ → Bool
takes selector gaps = nat_le (count_of selector) (length gaps) && list_all (λ gap. nat_lt gap (2 ^ width_of selector)) (take (count_of selector) gaps)

-- the least of so many selectors, from this one on, whose word takes the gaps; else the one after them
abbrev pub selector_from : ℕ → ℕ → List ℕ → ℕ
selector_from zero selector gaps = selector
selector_from (suc n) selector gaps = if takes selector gaps then selector else selector_from n (selector + 1) gaps

-- the least selector whose word takes the gaps; the last one takes any single gap
unfoldable pub selector_of : List ℕ → ℕ
selector_of gaps = selector_from 15 0 gaps

-- the word of a selector with the gaps at the front: a number whose digits are the gaps, above the selector
unfoldable pub word_of : ℕ → List ℕ → ℕ
word_of selector gaps = selector + 16 * number_l (2 ^ width_of selector) (take (count_of selector) gaps)

-- so many numbers of so many bits each, the first in the lowest bits of this one
unfoldable pub fields : ℕ → ℕ → ℕ → List ℕ
fields width count number = digits_l (2 ^ width) count number

-- the gaps that a word has
unfoldable pub gaps_in : ℕ → List ℕ
gaps_in word = fields (width_of (word % 16)) (count_of (word % 16)) (word / 16)

-- ---- the one spelling of a list

-- the words of gaps, of which there are at most so many
abbrev pub words_within : ℕ → List ℕ → List ℕ
words_within zero gaps = []
words_within (suc n) [] = []
words_within (suc n) (gap ∷ gaps) =
    let selector = selector_of (gap ∷ gaps) in word_of selector (gap ∷ gaps) ∷ words_within n (drop (count_of selector) (gap ∷ gaps))

-- the bytes of gaps: their words, little-endian
unfoldable pub spelled_words : List ℕ → List ℕ
spelled_words gaps = flat_map (to_le_bytes w64) (words_within (length gaps) gaps)

-- the payload of a list of documents
abbrev pub simple8_of : List ℕ → List ℕ
simple8_of docs = spelled_words (gaps_of docs)

-- ---- reading

-- the word at the front of bytes
unfoldable pub word_in : List ℕ → ℕ
word_in bytes = from_le_bytes w64 (take 8 bytes)

-- the least document that may follow those with these gaps
abbrev pub least_behind : ℕ → List ℕ → ℕ
least_behind least gaps = least + sum gaps + length gaps

-- the gaps of the word at the front of bytes, where so many gaps are left and the next document is at least `least`, or the first fault
abbrev pub read_word : ℕ → ℕ → ℕ → List ℕ → Result (List ℕ) PayloadFault
read_word d least left bytes =
    if nat_lt (length bytes) 8 then Err Cut
    else (let gaps = gaps_in (word_in bytes) in
    if nat_lt left (length gaps) then Err Shape
    else (if list_all (λ doc. nat_lt doc d) (docs_from least gaps) then Ok gaps else Err DocRange))

-- the gaps of at most so many words, until so many gaps were read, or the first fault; no byte may be left
abbrev pub read_words : ℕ → ℕ → ℕ → ℕ → List ℕ → Result (List ℕ) PayloadFault
read_words n d least zero bytes = if length bytes == 0 then Ok [] else Err Longer
read_words zero d least (suc left) bytes = Err Cut
read_words (suc n) d least (suc left) bytes = read_word d least (suc left) bytes >>= λ gaps.
    read_words n d (least_behind least gaps) (suc left - length gaps) (drop 8 bytes) >>= λ rest. Ok (gaps ++ rest)

-- the documents that bytes are the payload of, or the first fault; each word has a gap, so `count` words are enough
unfoldable pub read_simple8 : ℕ → ℕ → List ℕ → Result (List ℕ) PayloadFault
read_simple8 d count bytes = read_words count d 0 count bytes >>= λ gaps. if bytes_eq bytes (spelled_words gaps) then Ok (docs_from 0 gaps) else Err Shape
