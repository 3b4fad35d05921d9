-- How many segments are in each codec: counted head by head, and the heads of all terms one after the other.
use Rattle.shared_lemmas.proofs.Common.{◌≡◌, ◌≢◌, ◌<◌, ◌≤◌, ◌+◌, ◌==◌, Bool, true, false, ℕ, zero, suc, List, [], ◌∷◌, ◌++◌, length, map, take, drop, ap, sym, ◌∙◌, refl, slice_index, slice_set, slice_range, arith, nat_tests}
use Rattle.shared_lemmas.proofs.Common.{length-append, map-append, filter-append, map_push, take_more, drop_all}
use Rattle.std.specs.List.{filter}
use Rattle.std.proofs.lemmas.List.{get_or-set_other}
use Rattle.std.proofs.lemmas.List.Folds.{drop_split}
use Rattle.std.proofs.lemmas.Grind.{get_or-set_at}
use Rattle.segment_codecs.specs.declared.codec.Codec.TheVariants.{Packed, Bitmap, Simple8}
use Rattle.segment_codecs.specs.Codecs.{codec_number}
use Rattle.index_file.proofs.Below.{Codec, Varbyte, HeadData, head_codecs}
use Rattle.index_file.specs.declared.term_row.TermRow.{TermRow}
use Rattle.index_file.specs.Places.{all_codecs, uses_of}
use Rattle.index_file.specs.Private.Tables.{AreRows, RowsFrom, head_at, row_heads}

abbrev pub head_codec : HeadData → Codec
head_codec h = h.codec

-- the uses of a codec in a list, and in one behind it
uses_both : (codec : Codec) (xs ys : List Codec) → uses_of codec (xs ++ ys) ≡ uses_of codec xs + uses_of codec ys
uses_both codec xs ys =
    let is : Codec → Bool = λ c. codec_number c == codec_number codec in
    ap (λ (used : List Codec). length used) (filter-append is xs ys) ∙ length-append (filter is xs) (filter is ys)

-- one segment more is counted at its codec's number
used : (codec k : Codec) → (codec_number k == codec_number codec) ≡ true → uses_of codec (k ∷ []) ≡ 1
used codec k is = rw is refl

unused : (codec k : Codec) → (codec_number k == codec_number codec) ≡ false → uses_of codec (k ∷ []) ≡ 0
unused codec k is = rw is refl

number_small : (codec : Codec) → codec_number codec < 4
number_small Varbyte = omega arith
number_small Packed = omega arith
number_small Bitmap = omega arith
number_small Simple8 = omega arith

use_more : (uses : List ℕ) (codec k : Codec) → length uses ≡ 4
    → slice_index (slice_set uses (codec_number k) (slice_index uses (codec_number k) + 1)) (codec_number codec) ≡ slice_index uses (codec_number codec) + uses_of codec (k ∷ [])
use_more uses codec k four = by_test (codec_number k == codec_number codec) refl
  where
    by_test : (same : Bool) → (codec_number k == codec_number codec) ≡ same
        → slice_index (slice_set uses (codec_number k) (slice_index uses (codec_number k) + 1)) (codec_number codec) ≡ slice_index uses (codec_number codec) + uses_of codec (k ∷ [])
    by_test true is =
        let here : codec_number codec ≡ codec_number k = grind (arith, nat_tests, is) in
        let one = used codec k is in
        let small = number_small k in
        let set = get_or-set_at uses (codec_number k) (codec_number codec) (slice_index uses (codec_number k) + 1) 0 here (omega (arith, small, four)) in
        let same = ap (slice_index uses) here in
        omega (arith, set, one, same)
    by_test false is =
        let other : codec_number codec ≢ codec_number k = λ same. (let no : (codec_number k == codec_number codec) ≡ true = grind (arith, nat_tests, same) in let bad : false ≡ true = sym is ∙ no in cc) in
        let one = unused codec k is in
        let set = get_or-set_other uses (codec_number k) (codec_number codec) (slice_index uses (codec_number k) + 1) 0 other in
        omega (arith, set, one)

-- one head more
pub uses_on : (uses : List ℕ) (heads : List HeadData) (i : ℕ) (codec k : Codec) → i < length heads → k ≡ (head_at heads i).codec → length uses ≡ 4
    → slice_index uses (codec_number codec) ≡ uses_of codec (map head_codec (take i heads))
    → slice_index (slice_set uses (codec_number k) (slice_index uses (codec_number k) + 1)) (codec_number codec) ≡ uses_of codec (map head_codec (take (i + 1) heads))
uses_on uses heads i codec k inside is four before =
    let front = map head_codec (take i heads) in
    let none : HeadData = record { impact = 0; count = 0; codec = Varbyte; size = 0 } in
    let all : uses_of codec (map head_codec (take (i + 1) heads)) ≡ uses_of codec (front ++ k ∷ [])
    = ap (uses_of codec) (ap (map head_codec) (take_more heads i none inside) ∙ map_push head_codec (take i heads) (head_at heads i) ∙ ap (λ last. front ++ last ∷ []) (sym is)) in
    let both = uses_both codec front (k ∷ []) in
    let more = use_more uses codec k four in
    omega (arith, all, both, more, before)

-- what is counted grows by one at the most
pub set_by_one : (uses : List ℕ) (at i : ℕ) → slice_index (slice_set uses at (slice_index uses at + 1)) i ≤ slice_index uses i + 1
set_by_one [] at i = omega arith
set_by_one (n ∷ uses) zero zero = omega arith
set_by_one (n ∷ uses) zero (suc i) = omega arith
set_by_one (n ∷ uses) (suc at) zero = omega arith
set_by_one (n ∷ uses) (suc at) (suc i) = set_by_one uses at i

codecs_from : (heads : List HeadData) (text : List ℕ) (a : TermRow) (rows : List TermRow) → RowsFrom heads text a rows
    → all_codecs (head_codecs (row_heads heads text (a ∷ rows))) ≡ map head_codec (drop a.head heads)
codecs_from heads text a [] are = ap (map head_codec) (sym (drop_all a.head heads (omega (arith, are.1))))
codecs_from heads text a (b ∷ rows) are =
    ap (λ (later : List Codec). map head_codec (slice_range heads a.head b.head) ++ later) (codecs_from heads text b rows are.3)
    ∙ sym (map-append head_codec (slice_range heads a.head b.head) (drop b.head heads))
    ∙ ap (map head_codec) (sym (drop_split heads a.head b.head (omega (arith, are.1))))

-- the codecs of all terms are those of all heads
pub all_head_codecs : (heads : List HeadData) (text : List ℕ) (rows : List TermRow) → AreRows heads text rows
    → all_codecs (head_codecs (row_heads heads text rows)) ≡ map head_codec heads
all_head_codecs heads text [] are = absurd are
all_head_codecs heads text (a ∷ rows) are = codecs_from heads text a rows are.3 ∙ ap (λ n. map head_codec (drop n heads)) are.1
