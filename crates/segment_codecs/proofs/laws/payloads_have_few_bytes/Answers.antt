use Rattle.shared_lemmas.proofs.Common.{◌≡◌, ℕ, ◌*◌, ◌/◌, ◌^◌, ◌<◌, ◌≤◌, List, [], ◌∷◌, ◌++◌, length, arith, All, AllByRecursion, recursion_from_All}
use Rattle.jass_base.specs.Gaps.{AreDocs, gaps_of}
use Rattle.jass_base.specs.Wire.{short_varint}
use Rattle.plain_codecs.specs.Bitmap.{bitmap_of, bitmap_size}
use Rattle.segment_codecs.specs.Codecs.{payload_size}
use Rattle.segment_codecs.specs.declared.codec.Codec.{Codec}
use Rattle.segment_codecs.specs.declared.codec.Codec.TheVariants.{Varbyte, Packed, Bitmap, Simple8}
use Rattle.segment_codecs.proofs.Sizes.{FewBytes, gaps_some, gaps_few, packed_some, words_some}
use Rattle.segment_codecs.proofs.laws.payloads_have_few_bytes.Goals as goal

few_each : ((gap : ℕ) → gap < 2 ^ 28 → FewBytes gap) → (d : ℕ) → d ≤ 2 ^ 26 → (gaps : List ℕ) → AllByRecursion (λ gap. gap < d) gaps → AllByRecursion FewBytes gaps
few_each each d limit [] below = tt
few_each each d limit (gap ∷ gaps) below = (each gap (omega (arith, below.0, limit)), few_each each d limit gaps below.1)

first_below : (d : ℕ) (docs : List ℕ) → 0 < length docs → All (λ doc. doc < d) docs → 1 ≤ d
first_below d docs some below = let low = below 0 0 some in omega (arith, low)

-- what is known of the gaps of documents
record Gaps (d : ℕ) (docs : List ℕ) : Type 0 where
  count : length (gaps_of docs) ≡ length docs
  few : AllByRecursion FewBytes (gaps_of docs)

some_of : (d : ℕ) (docs : List ℕ) → ((d : ℕ) (docs : List ℕ) → length (bitmap_of d docs) ≡ bitmap_size d) → AreDocs d docs → Gaps d docs → (codec : Codec) → 1 ≤ payload_size d docs codec
some_of d docs size are gaps Varbyte = omega (arith, gaps_some (gaps_of docs) gaps.few, gaps.count, are.some)
some_of d docs size are gaps Packed = packed_some (length docs / 128) (gaps_of docs) (omega (arith, gaps.count, are.some)) gaps.few
some_of d docs size are gaps Bitmap = omega (arith, size d docs, first_below d docs are.some are.below)
some_of d docs size are gaps Simple8 = words_some (gaps_of docs) (omega (arith, gaps.count, are.some))

pub returns : goal.returns
returns c =
    let each : (gap : ℕ) → gap < 2 ^ 28 → FewBytes gap = λ gap small. (let size = c.gap_varints_are_read.ensures.size (short_varint gap ++ []) _ (c.gap_varints_are_read.ensures.found gap [] small) in (omega (arith, size.0), size.1)) in
    let gaps : (d : ℕ) (docs : List ℕ) → AreDocs d docs → Gaps d docs = λ d docs are. record {
      count = c.gaps_of_docs.ensures.count 0 docs;
      few = few_each each d are.limit (gaps_of docs) (recursion_from_All (λ gap. gap < d) (gaps_of docs) (c.gaps_of_docs.ensures.below d 0 docs are.below));
    } in
    record {
      some = λ codec d docs are. some_of d docs c.bits_are_documents.ensures.size are (gaps d docs are) codec;
      few = λ d docs are.
          let known = gaps d docs are in
          let all : payload_size d docs Varbyte ≤ 4 * length docs = omega (arith, gaps_few (gaps_of docs) known.few, known.count) in
          omega (arith, all, c.the_choice_is_the_first_of_the_shortest.ensures.shortest d docs Varbyte);
    }
