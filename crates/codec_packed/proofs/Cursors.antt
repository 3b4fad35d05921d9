-- What a cursor gives next.
use Rattle.shared_lemmas.proofs.Common.{◌≡◌, ℕ, suc, ◌+◌, ◌-◌, ◌*◌, ◌/◌, ◌^◌, ◌<◌, ◌≤◌, List, [], ◌∷◌, ◌++◌, length, get_or, take, drop, sum, set, All, refl, sym, ap, ◌∙◌, arith, subst, IsOk, length-take-le, length-drop, length-append, take_at, drop_at, drop_more, take_more, take_more_set}
use Rattle.shared_lemmas.proofs.Common.{take_all, drop_all, get_or-drop, drop-drop}
use Rattle.jass_base.proofs.Gaps.{length-gaps_from}
use Rattle.jass_base.specs.Gaps.{gaps_from, spelled_gaps, gap_in}
use Rattle.jass_base.specs.Wire.{short_varint}
use Rattle.lane_kernels.specs.Block.{block_bytes, block_values}
use Rattle.lane_kernels.specs.Gaps.{running}
use Rattle.lane_kernels.specs.Width.{least_width}
use Rattle.codec_packed.specs.declared.cursor.Cursor.{Cursor}
use Rattle.codec_packed.specs.Giving.{AreFrom, Gives}
use Rattle.codec_packed.specs.Packing.{packed_block, packed_gaps}
use Rattle.codec_packed.specs.Private.Steps.{BlockLaws}
use Rattle.codec_packed.proofs.Docs.{behind, behind_gaps, behind_le_some, docs_of_gaps, running_docs, take_gaps, drop_gaps, take_from, drop_from, small_gaps}
use Rattle.codec_packed.proofs.BlockTurns.{behind_last, narrow}
use Rattle.jass_base.proofs.GapSpelling.{spelled, GapFound, spelled_same}

-- ---- a full block
module _ (laws : BlockLaws) (at least left : ℕ) (bytes docs : List ℕ) (gives : Gives (record { at = at; least = least; left = left }) bytes docs) (full : 128 ≤ left) where
  abbrev front : List ℕ
  front = take 128 docs

  abbrev gaps : List ℕ
  gaps = gaps_from least front

  abbrev more : List ℕ
  more = packed_gaps ((left - 128) / 128) (gaps_from (behind least front) (drop 128 docs))

  here : drop at bytes ≡ packed_block gaps ++ more
  here =
      gives.spelled
      ∙ ap (λ n. packed_gaps n (gaps_from least docs)) (let e : left / 128 ≡ suc ((left - 128) / 128) = omega arith in e)
      ∙ ap (λ (xs : List ℕ). packed_block xs ++ packed_gaps ((left - 128) / 128) (drop 128 (gaps_from least docs))) (take_gaps 128 least docs)
      ∙ ap (λ (xs : List ℕ). packed_block gaps ++ packed_gaps ((left - 128) / 128) xs) (drop_gaps 128 least docs)

  many : length front ≡ 128
  many = length-take-le 128 docs (omega (arith, gives.left))

  are : AreFrom (2 ^ 26) least front
  are = take_from 128 (2 ^ 26) least docs gives.rising

  small : All (λ gap. gap < 2 ^ 32) gaps
  small = small_gaps (2 ^ 26) least front (omega arith) are

  size_here : length (drop at bytes) ≡ suc (16 * least_width gaps + length more)
  size_here = ap length here ∙ omega (arith, length-append (packed_block gaps) more, laws.size gaps (least_width gaps))

  pub inside : at < length bytes
  inside = omega (arith, size_here, length-drop at bytes)

  pub width_here : get_or bytes at 0 ≡ least_width gaps
  width_here = ap (λ k. get_or bytes k 0) (let e : at ≡ at + 0 = omega arith in e) ∙ sym (get_or-drop at bytes 0 0) ∙ ap (λ (xs : List ℕ). get_or xs 0 0) here

  pub narrow_here : get_or bytes at 0 ≤ 32
  narrow_here = omega (arith, width_here, narrow gaps)

  pub long_here : at + 1 + 16 * get_or bytes at 0 ≤ length bytes
  long_here = omega (arith, size_here, length-drop at bytes, width_here)

  rest_here : drop (at + 1) bytes ≡ block_bytes gaps (least_width gaps) ++ more
  rest_here = sym (drop-drop 1 at bytes) ∙ ap (drop 1) here

  module _ (n : ℕ) (is : n ≡ get_or bytes at 0) where
    width_is : n ≡ least_width gaps
    width_is = is ∙ width_here

    pub values_here : block_values (take (at + 1 + 16 * n - (at + 1)) (drop (at + 1) bytes)) (get_or bytes at 0) ≡ gaps
    values_here =
        ap (block_values (take (at + 1 + 16 * n - (at + 1)) (drop (at + 1) bytes))) width_here
        ∙ ap (λ k. block_values (take k (drop (at + 1) bytes)) (least_width gaps)) (let e : at + 1 + 16 * n - (at + 1) ≡ 16 * least_width gaps = omega (arith, width_is) in e)
        ∙ ap (λ (xs : List ℕ). block_values (take (16 * least_width gaps) xs) (least_width gaps)) rest_here
        ∙ ap (λ (xs : List ℕ). block_values xs (least_width gaps)) (take_at (block_bytes gaps (least_width gaps)) more (16 * least_width gaps) (laws.size gaps (least_width gaps)))
        ∙ laws.values gaps (least_width gaps) (length-gaps_from least front ∙ many) (laws.holds gaps small)

    more_here : drop (at + 1 + 16 * n) bytes ≡ more
    more_here =
        ap (λ k. drop (at + 1 + 16 * k) bytes) width_is
        ∙ sym (drop-drop (16 * least_width gaps) (at + 1) bytes)
        ∙ ap (drop (16 * least_width gaps)) rest_here
        ∙ drop_at (block_bytes gaps (least_width gaps)) more (16 * least_width gaps) (laws.size gaps (least_width gaps))

    module _ (unpacked : List ℕ) (values : unpacked ≡ block_values (take (at + 1 + 16 * n - (at + 1)) (drop (at + 1) bytes)) (get_or bytes at 0)) where
      unpacked_is : unpacked ≡ gaps
      unpacked_is = values ∙ values_here

      last_is : behind least front ≡ least + sum gaps + 128
      last_is = ap (behind least) (sym (docs_of_gaps (2 ^ 26) least front are)) ∙ omega (arith, behind_gaps least gaps, length-gaps_from least front, many)

      last_le : behind least front ≤ 2 ^ 26
      last_le = behind_le_some (2 ^ 26) least front are (omega (arith, many))

      pub room : least + sum unpacked + 127 < 2 ^ 26
      room = omega (arith, last_is, last_le, ap sum unpacked_is)

      module _ (given : List ℕ) (numbers : given ≡ running least unpacked) where
        pub given_is : given ≡ front
        given_is = numbers ∙ ap (running least) unpacked_is ∙ running_docs least gaps ∙ docs_of_gaps (2 ^ 26) least front are

        next_is : behind least front ≡ get_or given 127 0 + 1
        next_is = behind_last least 127 front many ∙ ap (λ (xs : List ℕ). get_or xs 127 0 + 1) (sym given_is)

        pub next_small : get_or given 127 0 + 1 ≤ 2 ^ 26
        next_small = omega (arith, next_is, last_le)

        pub gives_more : Gives (record { at = at + 1 + 16 * n; least = get_or given 127 0 + 1; left = left - 128 }) bytes (drop 128 docs)
        gives_more = record {
          left = omega (arith, length-drop 128 docs, gives.left);
          spelled = more_here ∙ ap (λ k. packed_gaps ((left - 128) / 128) (gaps_from k (drop 128 docs))) next_is;
          rising = subst (λ k. AreFrom (2 ^ 26) k (drop 128 docs)) next_is (drop_from 128 (2 ^ 26) least docs gives.rising);
        }

-- ---- a gap behind the blocks

module _ (law : GapFound) (at least left : ℕ) (bytes docs : List ℕ) (gives : Gives (record { at = at; least = least; left = left }) bytes docs) (few : left < 128) (some : 0 < left) where
  abbrev doc : ℕ
  doc = get_or docs 0 0

  abbrev rest : List ℕ
  rest = drop 1 docs

  docs_are : docs ≡ doc ∷ rest
  docs_are = drop_more docs 0 0 (omega (arith, gives.left))

  first : AreFrom (2 ^ 26) least (doc ∷ rest)
  first = subst (AreFrom (2 ^ 26) least) docs_are gives.rising

  gap_bytes : drop at bytes ≡ short_varint (doc - least) ++ spelled_gaps (gaps_from (doc + 1) rest)
  gap_bytes =
      gives.spelled
      ∙ ap (λ n. packed_gaps n (gaps_from least docs)) (let e : left / 128 ≡ 0 = omega arith in e)
      ∙ ap (λ (xs : List ℕ). spelled_gaps (gaps_from least xs)) docs_are

  gap_here : gap_in (drop at bytes) ≡ spelled (doc - least) (length (short_varint (doc - least)))
  gap_here = ap gap_in gap_bytes ∙ law (doc - least) (spelled_gaps (gaps_from (doc + 1) rest)) (omega (arith, first.1))

  pub gap_stands : IsOk (gap_in (drop at bytes))
  gap_stands = rw gap_here refl

  module _ (gap behind : ℕ) (read : gap_in (drop at bytes) ≡ spelled gap (behind - at)) (on : at < behind) where
    spelling : (doc - least ≡ gap) × (length (short_varint (doc - least)) ≡ behind - at)
    spelling = spelled_same _ _ _ _ (sym gap_here ∙ read)

    pub doc_is : least + gap ≡ doc
    doc_is = omega (arith, spelling.0, first.0)

    pub doc_small : least + gap < 2 ^ 26
    doc_small = omega (arith, doc_is, first.1)

    pub gives_next : Gives (record { at = behind; least = least + gap + 1; left = left - 1 }) bytes rest
    gives_next = record {
      left = omega (arith, length-drop 1 docs, gives.left);
      spelled =
          ap (λ k. drop k bytes) (let e : behind ≡ at + length (short_varint (doc - least)) = omega (arith, spelling.1) in e)
          ∙ sym (drop-drop (length (short_varint (doc - least))) at bytes)
          ∙ ap (drop (length (short_varint (doc - least)))) gap_bytes
          ∙ drop_at (short_varint (doc - least)) (spelled_gaps (gaps_from (doc + 1) rest)) (length (short_varint (doc - least))) refl
          ∙ ap (λ k. spelled_gaps (gaps_from (k + 1) rest)) (sym doc_is)
          ∙ ap (λ k. packed_gaps k (gaps_from (least + gap + 1) rest)) (let e : 0 ≡ (left - 1) / 128 = omega arith in e);
      rising = subst (λ k. AreFrom (2 ^ 26) (k + 1) rest) (sym doc_is) first.2;
    }

-- a document more in the output
pub given_more : (i doc : ℕ) (out docs : List ℕ) → i < length out → i < length docs → doc ≡ get_or (drop i docs) 0 0 → take i out ≡ take i docs → take (i + 1) (set out i doc) ≡ take (i + 1) docs
given_more i doc out docs inside there is same =
    let at : doc ≡ get_or docs i 0 = is ∙ get_or-drop i docs 0 0 ∙ ap (λ k. get_or docs k 0) (let e : i + 0 ≡ i = omega arith in e) in
    take_more_set out i doc inside
    ∙ ap (λ (xs : List ℕ). xs ++ doc ∷ []) same
    ∙ ap (λ n. take i docs ++ n ∷ []) at
    ∙ sym (take_more docs i 0 there)

pub gives_dropped : (cursor : Cursor) (i : ℕ) (bytes docs : List ℕ) → Gives cursor bytes (drop 1 (drop i docs)) → Gives cursor bytes (drop (i + 1) docs)
gives_dropped cursor i bytes docs gives = subst (Gives cursor bytes) (drop-drop 1 i docs) gives

pub given_all : (i count : ℕ) (out docs : List ℕ) → i ≡ count → length docs ≡ count → take i out ≡ take i docs → take count out ≡ docs
given_all i count out docs end many same = ap (λ k. take k out) (sym end) ∙ same ∙ take_all i docs (omega (arith, end, many))

pub gives_end : (cursor : Cursor) (i : ℕ) (bytes docs : List ℕ) → length docs ≤ i → Gives cursor bytes (drop i docs) → Gives cursor bytes []
gives_end cursor i bytes docs past gives = subst (Gives cursor bytes) (drop_all i docs past) gives
