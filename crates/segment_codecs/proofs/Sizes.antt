-- How many bytes a payload has.
use Rattle.shared_lemmas.proofs.Common.{◌≡◌, ℕ, zero, suc, ◌*◌, ◌≤◌, List, [], ◌∷◌, length, take, drop, true, refl, arith, ◌/◌, ◌<◌, nat_le, le-leb, AllByRecursion, div-eq_of_lt}
use Rattle.std.proofs.Common.{◌++◌, ◌-◌, ap, length-append}
use Rattle.jass_base.specs.Gaps.{AreDocs, gaps_of, spelled_gaps}
use Rattle.jass_base.proofs.Gaps.{length-gaps_from}
use Rattle.jass_base.specs.Wire.{short_varint}
use Rattle.codec_packed.specs.Packing.{packed_block, packed_gaps}
use Rattle.codec_simple8.specs.Simple8.{selector_of, spelled_words}
use Rattle.codec_simple8.proofs.WordParts.{next_length}
use Rattle.segment_codecs.specs.Codecs.{chosen_codec, payload_size, shorter}
use Rattle.segment_codecs.specs.declared.codec.Codec.{Codec}
use Rattle.segment_codecs.specs.declared.codec.Codec.TheVariants.{Bitmap, Simple8, Varbyte, Packed}

-- a shortest varint of a gap has one to four bytes
abbrev pub FewBytes : ℕ → Type 0
FewBytes gap = (1 ≤ length (short_varint gap)) × (length (short_varint gap) ≤ 4)

pub gaps_some : (gaps : List ℕ) → AllByRecursion FewBytes gaps → length gaps ≤ length (spelled_gaps gaps)
gaps_some [] few = omega arith
gaps_some (gap ∷ gaps) few = omega (arith, length-append (short_varint gap) (spelled_gaps gaps), few.0.0, gaps_some gaps few.1)

pub gaps_few : (gaps : List ℕ) → AllByRecursion FewBytes gaps → length (spelled_gaps gaps) ≤ 4 * length gaps
gaps_few [] few = omega arith
gaps_few (gap ∷ gaps) few = omega (arith, length-append (short_varint gap) (spelled_gaps gaps), few.0.1, gaps_few gaps few.1)

pub packed_some : (blocks : ℕ) (gaps : List ℕ) → 1 ≤ length gaps → AllByRecursion FewBytes gaps → 1 ≤ length (packed_gaps blocks gaps)
packed_some zero gaps some few = omega (arith, some, gaps_some gaps few)
packed_some (suc blocks) gaps some few = omega (arith, length-append (packed_block (take 128 gaps)) (packed_gaps blocks (drop 128 gaps)))

pub words_some : (gaps : List ℕ) → 1 ≤ length gaps → 1 ≤ length (spelled_words gaps)
words_some gaps some = let next = next_length gaps 0 (selector_of gaps) (omega (arith, some)) refl in omega (arith, next)

-- one word at least
pub simple8_some : (d : ℕ) (docs : List ℕ) → AreDocs d docs → 8 ≤ payload_size d docs Simple8
simple8_some d docs are =
    let some : 1 ≤ length (gaps_of docs) = omega (arith, length-gaps_from 0 docs, are.some) in
    omega (arith, next_length (gaps_of docs) 0 (selector_of (gaps_of docs)) (omega (arith, some)) refl)

-- without a full block all gaps are varints
pub packed_same : (d : ℕ) (docs : List ℕ) → length docs < 128 → payload_size d docs Packed ≡ payload_size d docs Varbyte
packed_same d docs few = let none : length docs / 128 ≡ 0 = div-eq_of_lt few in rw none refl

-- so Simple8 isn't chosen where another payload has a word's bytes or fewer
pub words_no_shorter : (d : ℕ) (docs : List ℕ) (codec : Codec) → AreDocs d docs → payload_size d docs codec ≤ 8 → shorter d docs codec Simple8 ≡ codec
words_no_shorter d docs codec are low =
    let no_less : nat_le (payload_size d docs codec) (payload_size d docs Simple8) ≡ true = le-leb (payload_size d docs codec) (payload_size d docs Simple8) (omega (arith, low, simple8_some d docs are)) in
    rw no_less refl

-- gaps without a full block are chosen where neither the bitmap nor words have fewer bytes
pub few_gaps : (d : ℕ) (docs : List ℕ) → length docs < 128 → payload_size d docs Varbyte ≤ payload_size d docs Bitmap → payload_size d docs Varbyte ≤ payload_size d docs Simple8 → chosen_codec d docs ≡ Varbyte
few_gaps d docs few bitmap words =
    let no_packed : nat_le (payload_size d docs Varbyte) (payload_size d docs Packed) ≡ true = le-leb (payload_size d docs Varbyte) (payload_size d docs Packed) (omega (arith, packed_same d docs few)) in
    let no_bitmap : nat_le (payload_size d docs Varbyte) (payload_size d docs Bitmap) ≡ true = le-leb (payload_size d docs Varbyte) (payload_size d docs Bitmap) bitmap in
    let no_words : nat_le (payload_size d docs Varbyte) (payload_size d docs Simple8) ≡ true = le-leb (payload_size d docs Varbyte) (payload_size d docs Simple8) words in
    rw no_packed (rw no_bitmap (rw no_words refl))

-- bytes with a payload behind them are as much longer
pub grown : (old new payload : List ℕ) → new ≡ old ++ payload → length new - length old ≡ length payload
grown old new payload is = omega (arith, ap length is, length-append old payload)
