-- One block more, of documents that are written.
use Rattle.shared_lemmas.proofs.Common.{◌≡◌, ℕ, zero, suc, ◌+◌, ◌-◌, ◌*◌, ◌/◌, ◌<◌, ◌≤◌, List, [], ◌∷◌, ◌++◌, length, get_or, take, drop, refl, sym, ap, ◌∙◌, append_assoc, arith, subst, length-take-le, length-drop, length-append, take_rest, get_or-take, get_or-drop, drop-drop}
use Rattle.jass_base.specs.Gaps.{gaps_from, spelled_gaps}
use Rattle.lane_kernels.specs.Width.{least_width}
use Rattle.codec_packed.specs.Giving.{AreFrom}
use Rattle.codec_packed.specs.Packing.{packed_block, packed_gaps}
use Rattle.codec_packed.specs.Private.Steps.{BlockLaws}
use Rattle.codec_packed.proofs.Docs.{behind, below_from, take_gaps, drop_gaps, take_from, drop_from}
use Rattle.codec_packed.proofs.Turns.{spelled_size}

pub behind_last : (least n : ℕ) (docs : List ℕ) → length docs ≡ suc n → behind least docs ≡ get_or docs n 0 + 1
behind_last least n [] is = absurd (omega arith)
behind_last least zero (doc ∷ []) is = refl
behind_last least zero (doc ∷ next ∷ docs) is = absurd (omega arith)
behind_last least (suc n) (doc ∷ docs) is = behind_last (doc + 1) n docs (omega arith)

-- a block of documents, the least document behind it, and the documents behind it
abbrev pub block_docs : ℕ → List ℕ → List ℕ
block_docs block docs = take (128 * block + 128 - 128 * block) (drop (128 * block) docs)

abbrev pub least_behind : ℕ → List ℕ → ℕ
least_behind block docs = get_or docs (128 * block + 128 - 1) 0 + 1

abbrev pub docs_behind : ℕ → List ℕ → List ℕ
docs_behind block docs = drop (128 * (block + 1)) docs

pub record BlockTurn (d least block : ℕ) (docs : List ℕ) : Type 0 where
  pub count : length (block_docs block docs) ≡ 128
  pub are : AreFrom d least (block_docs block docs)
  pub small : get_or docs (128 * block + 128 - 1) 0 < d
  pub rest : AreFrom d (least_behind block docs) (docs_behind block docs)
  pub packed : (k : ℕ) → packed_gaps (suc k) (gaps_from least (drop (128 * block) docs))
      ≡ packed_block (gaps_from least (block_docs block docs)) ++ packed_gaps k (gaps_from (least_behind block docs) (docs_behind block docs))

module _ (d least block : ℕ) (docs : List ℕ) (are : AreFrom d least (drop (128 * block) docs)) (inside : block < length docs / 128) where
  abbrev left : List ℕ
  left = drop (128 * block) docs

  size : 128 * block + 128 - 128 * block ≡ 128
  size = omega arith

  enough : 128 ≤ length left
  enough = omega (arith, length-drop (128 * block) docs, inside)

  place : get_or left 127 0 ≡ get_or docs (128 * block + 128 - 1) 0
  place = get_or-drop (128 * block) docs 127 0 ∙ ap (λ k. get_or docs k 0) (let e : 128 * block + 127 ≡ 128 * block + 128 - 1 = omega arith in e)

  last : behind least (take 128 left) ≡ least_behind block docs
  last = behind_last least 127 (take 128 left) (length-take-le 128 left enough)
      ∙ ap (λ n. n + 1) (get_or-take 128 left 127 0 (omega arith) ∙ place)

  on : drop 128 left ≡ docs_behind block docs
  on = drop-drop 128 (128 * block) docs ∙ ap (λ k. drop k docs) (let e : 128 * block + 128 ≡ 128 * (block + 1) = omega arith in e)

  pub next_block_of : BlockTurn d least block docs
  next_block_of = record {
    count = ap (λ n. length (take n left)) size ∙ length-take-le 128 left enough;
    are = subst (λ n. AreFrom d least (take n left)) (sym size) (take_from 128 d least left are);
    small = subst (λ n. n < d) place (below_from d least left are 127 0 (omega (arith, enough)));
    rest = subst (λ (xs : List ℕ). AreFrom d (least_behind block docs) xs) on (subst (λ n. AreFrom d n (drop 128 left)) last (drop_from 128 d least left are));
    packed = λ k.
        ap (λ (xs : List ℕ). packed_block xs ++ packed_gaps k (drop 128 (gaps_from least left))) (take_gaps 128 least left)
        ∙ ap (λ n. packed_block (gaps_from least (take n left)) ++ packed_gaps k (drop 128 (gaps_from least left))) (sym size)
        ∙ ap (λ (xs : List ℕ). packed_block (gaps_from least (block_docs block docs)) ++ packed_gaps k xs)
        (drop_gaps 128 least left ∙ ap (λ n. gaps_from n (drop 128 left)) last ∙ ap (λ (xs : List ℕ). gaps_from (least_behind block docs) xs) on);
  }

one_less : (blocks block : ℕ) → block < blocks → blocks - block ≡ suc (blocks - (block + 1))
one_less blocks block more = omega arith

-- before the first block
pub all_left : (n : ℕ) (gaps : List ℕ) → packed_gaps (n - 0) gaps ≡ packed_gaps n gaps
all_left n gaps = ap (λ k. packed_gaps k gaps) (let e : n - 0 ≡ n = omega arith in e)

-- what is written so far and the blocks that are left
pub written_more : (d least blocks block : ℕ) (docs out all : List ℕ) → BlockTurn d least block docs → block < blocks
    → out ++ packed_gaps (blocks - block) (gaps_from least (drop (128 * block) docs)) ≡ all
    → (out ++ packed_block (gaps_from least (block_docs block docs))) ++ packed_gaps (blocks - (block + 1)) (gaps_from (least_behind block docs) (docs_behind block docs)) ≡ all
written_more d least blocks block docs out all t more is =
    append_assoc out (packed_block (gaps_from least (block_docs block docs))) (packed_gaps (blocks - (block + 1)) (gaps_from (least_behind block docs) (docs_behind block docs)))
    ∙ ap (λ (xs : List ℕ). out ++ xs) (sym (t.packed (blocks - (block + 1))))
    ∙ ap (λ k. out ++ packed_gaps k (gaps_from least (drop (128 * block) docs))) (sym (one_less blocks block more))
    ∙ is

pub written_all : (least blocks block : ℕ) (docs out all : List ℕ) → block ≡ blocks
    → out ++ packed_gaps (blocks - block) (gaps_from least (drop (128 * block) docs)) ≡ all
    → out ++ spelled_gaps (gaps_from least (take (length docs - 128 * blocks) (drop (128 * blocks) docs))) ≡ all
written_all least blocks block docs out all end is =
    ap (λ (xs : List ℕ). out ++ spelled_gaps (gaps_from least xs)) (take_rest docs (128 * blocks) ∙ ap (λ k. drop (128 * k) docs) (sym end))
    ∙ ap (λ k. out ++ packed_gaps k (gaps_from least (drop (128 * block) docs))) (let e : 0 ≡ blocks - block = omega arith in e)
    ∙ is

pub rest_are : (d least blocks block : ℕ) (docs : List ℕ) → block ≡ blocks → AreFrom d least (drop (128 * block) docs) → AreFrom d least (take (length docs - 128 * blocks) (drop (128 * blocks) docs))
rest_are d least blocks block docs end are = subst (AreFrom d least) (ap (λ k. drop (128 * k) docs) end ∙ sym (take_rest docs (128 * blocks))) are

pub counted_more : (d least blocks block size total : ℕ) (docs : List ℕ) → BlockTurn d least block docs → block < blocks
    → size + length (packed_gaps (blocks - block) (gaps_from least (drop (128 * block) docs))) ≡ total
    → size + length (packed_block (gaps_from least (block_docs block docs))) + length (packed_gaps (blocks - (block + 1)) (gaps_from (least_behind block docs) (docs_behind block docs))) ≡ total
counted_more d least blocks block size total docs t more is =
    omega (
      arith,
      is,
      ap length (t.packed (blocks - (block + 1))),
      ap (λ k. length (packed_gaps k (gaps_from least (drop (128 * block) docs)))) (one_less blocks block more),
      length-append (packed_block (gaps_from least (block_docs block docs))) (packed_gaps (blocks - (block + 1)) (gaps_from (least_behind block docs) (docs_behind block docs))),
    )

pub counted_all : (least blocks block size total : ℕ) (docs : List ℕ) → block ≡ blocks
    → size + length (packed_gaps (blocks - block) (gaps_from least (drop (128 * block) docs))) ≡ total
    → size + length (spelled_gaps (gaps_from least (take (length docs - 128 * blocks) (drop (128 * blocks) docs)))) ≡ total
counted_all least blocks block size total docs end is =
    ap (λ (xs : List ℕ). size + length (spelled_gaps (gaps_from least xs))) (take_rest docs (128 * blocks) ∙ ap (λ k. drop (128 * k) docs) (sym end))
    ∙ ap (λ k. size + length (packed_gaps k (gaps_from least (drop (128 * block) docs)))) (let e : 0 ≡ blocks - block = omega arith in e)
    ∙ is

pub narrow : (gaps : List ℕ) → least_width gaps ≤ 32
narrow [] = omega arith
narrow (gap ∷ gaps) = omega (arith, narrow gaps)

-- a payload is short
pub packed_size : (laws : BlockLaws) (blocks : ℕ) (gaps : List ℕ) → length (packed_gaps blocks gaps) ≤ 513 * blocks + 10 * length gaps
packed_size laws zero gaps = omega (arith, spelled_size gaps)
packed_size laws (suc blocks) gaps =
    let front = take 128 gaps in
    omega (arith, length-append (packed_block front) (packed_gaps blocks (drop 128 gaps)), laws.size front (least_width front), narrow front, packed_size laws blocks (drop 128 gaps), length-drop 128 gaps)
