-- The payloads are what is read, block by block.
use Rattle.shared_lemmas.proofs.Common.{◌≡◌, ℕ, zero, suc, ◌+◌, ◌*◌, ◌/◌, ◌%◌, ◌^◌, ◌<◌, ◌≤◌, Bool, true, false, cond, List, ◌++◌, length, take, drop, sum, All, Result, Ok, Err, refl, sym, ap, ◌∙◌, arith, subst, nat_lt, list_all, length-drop, length-append, length-take-le, take-append-drop}
use Rattle.shared_lemmas.proofs.Common.{take_at, drop_at}
use Rattle.jass_base.proofs.Gaps.{gaps_again, length-gaps_from, length-docs_from}
use Rattle.jass_base.specs.Gaps.{◌>>=◌, AreDocs, gaps_from, docs_from}
use Rattle.jass_base.specs.declared.payload_fault.PayloadFault.{PayloadFault}
use Rattle.jass_base.specs.declared.payload_fault.PayloadFault.TheVariants.{DocRange}
use Rattle.lane_kernels.specs.Width.{least_width}
use Rattle.codec_packed.specs.Giving.{AreFrom}
use Rattle.codec_packed.specs.Packing.{packed_block, packed_gaps, packed_of}
use Rattle.codec_packed.specs.Private.Steps.{BlockLaws, TailLaws}
use Rattle.codec_packed.specs.Reading.{PackedBlock, block_in, read_blocks, read_packed}
use Rattle.codec_packed.proofs.Docs.{behind, from_docs, docs_from_all, docs_of_gaps, behind_gaps, take_gaps, drop_gaps, take_from, drop_from, append_from, append_gaps, small_gaps, tests_from, gaps_tested}
use Rattle.codec_packed.proofs.Blocks.{block_again, StandsBlock, block_stands, all_rest}

abbrev docs_read : List ℕ → Result (List ℕ) PayloadFault
docs_read docs = Ok docs

-- a block's documents in front of the others
abbrev front_of : List ℕ → Result (List ℕ) PayloadFault → Result (List ℕ) PayloadFault
front_of block read = read >>= λ docs. Ok (block ++ docs)

-- reading on behind a block
abbrev behind_block : ℕ → ℕ → ℕ → ℕ → List ℕ → PackedBlock → Result (List ℕ) PayloadFault
behind_block d least blocks rest bytes block =
    cond (list_all (λ doc. nat_lt doc d) (docs_from least block.gaps))
    (front_of (docs_from least block.gaps) (read_blocks d (least + sum block.gaps + 128) blocks rest (drop block.size bytes)))
    (Err DocRange)

module _ (laws : BlockLaws) (tail : TailLaws) where
  pub blocks_again : (blocks d least rest : ℕ) (docs : List ℕ) → d ≤ 2 ^ 26 → AreFrom d least docs → length docs ≡ 128 * blocks + rest
      → read_blocks d least blocks rest (packed_gaps blocks (gaps_from least docs)) ≡ Ok docs
  blocks_again zero d least rest docs limit are count = tail.found d least rest docs limit are (omega (arith, count))
  blocks_again (suc blocks) d least rest docs limit are count =
      let gaps = gaps_from least docs in
      let block = take 128 gaps in
      let front = take 128 docs in
      let more = packed_gaps blocks (drop 128 gaps) in
      let is : block ≡ gaps_from least front = take_gaps 128 least docs in
      let many : length front ≡ 128 = length-take-le 128 docs (omega (arith, count)) in
      let full : length block ≡ 128 = ap length is ∙ length-gaps_from least front ∙ many in
      let from = take_from 128 d least docs are in
      let small : All (λ gap. gap < 2 ^ 32) block = subst (λ (xs : List ℕ). All (λ gap. gap < 2 ^ 32) xs) (sym is) (small_gaps d least front (omega (arith, limit)) from) in
      let same : docs_from least block ≡ front = ap (docs_from least) is ∙ docs_of_gaps d least front from in
      let next : least + sum block + 128 ≡ behind least front = omega (arith, sym (behind_gaps least block) ∙ ap (behind least) same, full) in
      let tested : list_all (λ doc. nat_lt doc d) (docs_from least block) ≡ true = ap (list_all (λ doc. nat_lt doc d)) same ∙ tests_from d least front from in
      let size : 16 * least_width block + 1 ≡ length (packed_block block) = omega (arith, laws.size block (least_width block)) in
      let left : drop (16 * least_width block + 1) (packed_block block ++ more) ≡ more = drop_at (packed_block block) more (16 * least_width block + 1) (sym size) in
      let then : read_blocks d (behind least front) blocks rest more ≡ docs_read (drop 128 docs) =
      ap (λ (xs : List ℕ). read_blocks d (behind least front) blocks rest (packed_gaps blocks xs)) (drop_gaps 128 least docs)
      ∙ blocks_again blocks d (behind least front) rest (drop 128 docs) limit (drop_from 128 d least docs are) (omega (arith, length-drop 128 docs, count)) in
      ap (λ read. read >>= behind_block d least blocks rest (packed_block block ++ more)) (block_again laws block more full small)
      ∙ ap (λ b. cond b (front_of (docs_from least block) (read_blocks d (least + sum block + 128) blocks rest (drop (16 * least_width block + 1) (packed_block block ++ more)))) (Err DocRange)) tested
      ∙ ap (λ (xs : List ℕ). front_of (docs_from least block) (read_blocks d (least + sum block + 128) blocks rest xs)) left
      ∙ ap (λ n. front_of (docs_from least block) (read_blocks d n blocks rest more)) next
      ∙ ap (front_of (docs_from least block)) then
      ∙ ap (λ (xs : List ℕ). docs_read (xs ++ drop 128 docs)) same
      ∙ ap docs_read (take-append-drop 128 docs)

-- what was read behind an answer that isn't a fault
bound : {A : Type 0} (x : Result A PayloadFault) (f : A → Result (List ℕ) PayloadFault) (docs : List ℕ) → (x >>= f) ≡ docs_read docs → (a : A) × (x ≡ Ok a) × (f a ≡ docs_read docs)
bound (Ok a) f docs is = (a, refl, is)
bound (Err fault) f docs is = absurd (let e = is in cc)

where_true : (b : Bool) (read : Result (List ℕ) PayloadFault) (docs : List ℕ) → cond b read (Err DocRange) ≡ docs_read docs → (b ≡ true) × (read ≡ docs_read docs)
where_true true read docs is = (refl, is)
where_true false read docs is = absurd (let e = is in cc)

same_docs : (docs more : List ℕ) → docs_read docs ≡ docs_read more → docs ≡ more
same_docs docs more is = cc

pub record StandsFrom (d least blocks rest : ℕ) (bytes docs : List ℕ) : Type 0 where
  pub are : AreFrom d least docs
  pub count : length docs ≡ 128 * blocks + rest
  pub spelled : bytes ≡ packed_gaps blocks (gaps_from least docs)

-- a block in front of what stands behind it
module _ (d least blocks rest size : ℕ) (bytes gaps more : List ℕ) (stands : StandsBlock bytes gaps size) (are : AreFrom d least (docs_from least gaps))
    (then : StandsFrom d (least + sum gaps + 128) blocks rest (drop size bytes) more) where
  next : behind least (docs_from least gaps) ≡ least + sum gaps + 128
  next = omega (arith, behind_gaps least gaps, stands.count)

  all_gaps : gaps_from least (docs_from least gaps ++ more) ≡ gaps ++ gaps_from (least + sum gaps + 128) more
  all_gaps = append_gaps least (docs_from least gaps) more
      ∙ ap (λ (xs : List ℕ). xs ++ gaps_from (behind least (docs_from least gaps)) more) (gaps_again least gaps)
      ∙ ap (λ n. gaps ++ gaps_from n more) next

  spelled_again : packed_gaps (suc blocks) (gaps ++ gaps_from (least + sum gaps + 128) more) ≡ packed_block gaps ++ packed_gaps blocks (gaps_from (least + sum gaps + 128) more)
  spelled_again =
      let rest_gaps = gaps_from (least + sum gaps + 128) more in
      ap (λ (xs : List ℕ). packed_block xs ++ packed_gaps blocks (drop 128 (gaps ++ rest_gaps))) (take_at gaps rest_gaps 128 stands.count)
      ∙ ap (λ (xs : List ℕ). packed_block gaps ++ packed_gaps blocks xs) (drop_at gaps rest_gaps 128 stands.count)

  pub stands_before : StandsFrom d least (suc blocks) rest bytes (docs_from least gaps ++ more)
  stands_before = record {
    are = append_from d least (docs_from least gaps) more are (subst (λ n. AreFrom d n more) (sym next) then.are);
    count = omega (arith, length-append (docs_from least gaps) more, length-docs_from least gaps, stands.count, then.count);
    spelled = stands.parts ∙ ap (λ (xs : List ℕ). packed_block gaps ++ xs) then.spelled ∙ sym spelled_again ∙ ap (packed_gaps (suc blocks)) (sym all_gaps);
  }

module _ (laws : BlockLaws) (tail : TailLaws) where
  pub blocks_only : (blocks d least rest : ℕ) (docs bytes : List ℕ) → All (λ byte. byte < 256) bytes → read_blocks d least blocks rest bytes ≡ Ok docs → StandsFrom d least blocks rest bytes docs
  blocks_only zero d least rest docs bytes small is =
      let t = tail.only d least rest docs bytes small is in
      record { are = t.0; count = omega (arith, t.1); spelled = t.2 }
  blocks_only (suc blocks) d least rest docs bytes small is =
      let b = bound (block_in bytes) (behind_block d least blocks rest bytes) docs is in
      let gaps = b.0.gaps in
      let size = b.0.size in
      let good = where_true (list_all (λ doc. nat_lt doc d) (docs_from least gaps)) _ docs b.2 in
      let m = bound (read_blocks d (least + sum gaps + 128) blocks rest (drop size bytes)) (λ more. Ok (docs_from least gaps ++ more)) docs good.1 in
      let whole : docs_from least gaps ++ m.0 ≡ docs = same_docs _ docs m.2 in
      let stands = block_stands laws bytes gaps size small b.1 in
      let then = blocks_only blocks d (least + sum gaps + 128) rest m.0 (drop size bytes) (all_rest size bytes small) m.1 in
      subst (StandsFrom d least (suc blocks) rest bytes) whole
      (stands_before d least blocks rest size bytes gaps m.0 stands (gaps_tested d least gaps good.0) then)

  pub payloads_again : (d count : ℕ) (docs bytes : List ℕ) → AreDocs d docs → length docs ≡ count → bytes ≡ packed_of docs → read_packed d count bytes ≡ Ok docs
  payloads_again d count docs bytes are many is =
      let parted : length docs ≡ 128 * (count / 128) + count % 128 = omega (arith, many) in
      ap (read_packed d count) (is ∙ ap (λ n. packed_gaps (n / 128) (gaps_from 0 docs)) many)
      ∙ blocks_again laws tail (count / 128) d 0 (count % 128) docs are.limit (from_docs d docs are) parted

  pub payloads_only : (d count : ℕ) (docs bytes : List ℕ) → 1 ≤ count → d ≤ 2 ^ 26 → All (λ byte. byte < 256) bytes → read_packed d count bytes ≡ Ok docs
      → AreDocs d docs × (length docs ≡ count) × (bytes ≡ packed_of docs)
  payloads_only d count docs bytes some limit small is =
      let st = blocks_only (count / 128) d 0 (count % 128) docs bytes small is in
      let many : length docs ≡ count = omega (arith, st.count) in
      (docs_from_all d docs limit (omega (arith, many, some)) st.are, many, st.spelled ∙ ap (λ n. packed_gaps (n / 128) (gaps_from 0 docs)) (sym many))
