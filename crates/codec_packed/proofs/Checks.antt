-- What a check says, gap by gap and block by block.
use Rattle.shared_lemmas.proofs.Common.{◌≡◌, ℕ, suc, ◌+◌, ◌-◌, ◌<◌, ◌≤◌, Bool, true, false, cond, nat_lt, List, [], ◌∷◌, ◌++◌, length, drop, sum, Result, Ok, Err, inl, inr, refl, sym, subst, ap, ◌∙◌, arith, ◌==◌, ◌↔◌, IsTrue, list_all, cases_lt, lt-ltb, le-ltb, cases_Bool, nat_tests, drop-drop}
use Rattle.jass_base.specs.Gaps.{◌>>=◌, Judges, docs_from, gap_in, read_gaps}
use Rattle.jass_base.specs.declared.payload_fault.PayloadFault.{PayloadFault}
use Rattle.jass_base.specs.declared.payload_fault.PayloadFault.TheVariants.{Longer, DocRange}
use Rattle.codec_packed.specs.Reading.{block_in, read_blocks}
use Rattle.codec_packed.specs.Private.Steps.{ChecksBlock, verdict}
use Rattle.codec_packed.proofs.Blocks.{read_as}
use Rattle.codec_packed.proofs.Docs.{behind_gaps, behind_le, gaps_fit, gaps_tested, tests_from}
use Rattle.jass_base.proofs.GapSpelling.{spelled}

abbrev pub Read : Type 0
Read = Result (List ℕ) PayloadFault

-- what is read in front doesn't count
front_verdict : (front : List ℕ) (read : Read) → verdict (read >>= λ docs. Ok (front ++ docs)) ≡ verdict read
front_verdict front (Ok docs) = refl
front_verdict front (Err fault) = refl

one_verdict : (doc : ℕ) (read : Read) → verdict (read >>= λ docs. Ok (doc ∷ docs)) ≡ verdict read
one_verdict doc (Ok docs) = refl
one_verdict doc (Err fault) = refl

pub judged : (read : Read) (result : Result (Unit {0}) PayloadFault) → result ≡ verdict read → Judges read result
judged (Ok docs) result is = rw is refl
judged (Err fault) result is = is

-- ---- gap by gap

pub gap_fault : (d least n : ℕ) (bytes : List ℕ) (fault : PayloadFault) → gap_in bytes ≡ Err fault → verdict (read_gaps d least (suc n) bytes) ≡ Err fault
gap_fault d least n bytes fault is = rw is refl

pub gap_far : (d least n : ℕ) (bytes : List ℕ) (gap size : ℕ) → gap_in bytes ≡ spelled gap size → d ≤ least + gap → verdict (read_gaps d least (suc n) bytes) ≡ Err DocRange
gap_far d least n bytes gap size is far = rw (is, le-ltb _ _ far) refl

pub gap_read : (d least n : ℕ) (bytes : List ℕ) (gap size : ℕ) → gap_in bytes ≡ spelled gap size → least + gap < d
    → verdict (read_gaps d least (suc n) bytes) ≡ verdict (read_gaps d (least + gap + 1) n (drop size bytes))
gap_read d least n bytes gap size is near = rw (is, lt-ltb _ _ near) (one_verdict (least + gap) (read_gaps d (least + gap + 1) n (drop size bytes)))

pub gaps_end : (d least : ℕ) (bytes : List ℕ) → length bytes ≡ 0 → verdict (read_gaps d least 0 bytes) ≡ Ok tt
gaps_end d least bytes none = rw none refl

pub gaps_longer : (d least : ℕ) (bytes : List ℕ) → 0 < length bytes → verdict (read_gaps d least 0 bytes) ≡ Err Longer
gaps_longer d least [] some = absurd (omega arith)
gaps_longer d least (b ∷ bytes) some = rw (let e : (suc (length bytes) == 0) ≡ false = grind (arith, nat_tests) in e) refl

-- a turn of the loop over gaps: the check so far, with gaps left
module _ (d next n turn place : ℕ) (bytes : List ℕ) (whole : Result (Unit {0}) PayloadFault) (more : turn < n)
    (is : whole ≡ verdict (read_gaps d next (n - turn) (drop place bytes))) where
  left : whole ≡ verdict (read_gaps d next (suc (n - (turn + 1))) (drop place bytes))
  left = is ∙ ap (λ k. verdict (read_gaps d next k (drop place bytes))) (let e : n - turn ≡ suc (n - (turn + 1)) = omega arith in e)

  pub turn_fault : (fault : PayloadFault) → gap_in (drop place bytes) ≡ Err fault → whole ≡ Err fault
  turn_fault fault f = left ∙ gap_fault d next (n - (turn + 1)) (drop place bytes) fault f

  module _ (gap behind : ℕ) (read : gap_in (drop place bytes) ≡ spelled gap (behind - place)) where
    pub turn_far : d - next ≤ gap → whole ≡ Err DocRange
    turn_far far = left ∙ gap_far d next (n - (turn + 1)) (drop place bytes) gap (behind - place) read (omega arith)

    pub turn_read : place < behind → gap < d - next → whole ≡ verdict (read_gaps d (next + (gap + 1)) (n - (turn + 1)) (drop behind bytes))
    turn_read on near =
        let there : place + (behind - place) ≡ behind = omega arith in
        left
        ∙ gap_read d next (n - (turn + 1)) (drop place bytes) gap (behind - place) read (omega arith)
        ∙ ap (λ k. verdict (read_gaps d k (n - (turn + 1)) (drop (behind - place) (drop place bytes)))) (let e : next + gap + 1 ≡ next + (gap + 1) = omega arith in e)
        ∙ ap (λ (xs : List ℕ). verdict (read_gaps d (next + (gap + 1)) (n - (turn + 1)) xs)) (drop-drop (behind - place) place bytes ∙ ap (λ k. drop k bytes) there)

pub turns_end : (d next n turn place : ℕ) (bytes : List ℕ) (whole : Result (Unit {0}) PayloadFault) → n ≤ turn → whole ≡ verdict (read_gaps d next (n - turn) (drop place bytes))
    → whole ≡ verdict (read_gaps d next 0 (drop place bytes))
turns_end d next n turn place bytes whole past is = is ∙ ap (λ k. verdict (read_gaps d next k (drop place bytes))) (let e : n - turn ≡ 0 = omega arith in e)

-- ---- block by block
module _ (d least : ℕ) (gaps : List ℕ) (full : length gaps ≡ 128) where
  pub range_ok : least + sum gaps + 127 < d → list_all (λ doc. nat_lt doc d) (docs_from least gaps) ≡ true
  range_ok fits = tests_from d least (docs_from least gaps) (gaps_fit d least gaps (omega (arith, fits, full)))

  pub range_fault : least ≤ d → d ≤ least + sum gaps + 127 → list_all (λ doc. nat_lt doc d) (docs_from least gaps) ≡ false
  range_fault le far = elim (cases_Bool (list_all (λ doc. nat_lt doc d) (docs_from least gaps))) [
    | inl all ↦ absurd (omega (arith, behind_le d least (docs_from least gaps) le (gaps_tested d least gaps all), behind_gaps least gaps, full, far))
    | inr some ↦ some
  ]

module _ (d least at behind : ℕ) (bytes gaps : List ℕ) (full : length gaps ≡ 128) (read : block_in (drop at bytes) ≡ read_as gaps (behind - at)) where
  pub block_far : least ≤ d → d ≤ least + sum gaps + 127 → (blocks rest : ℕ) → verdict (read_blocks d least (suc blocks) rest (drop at bytes)) ≡ Err DocRange
  block_far le far blocks rest = rw (read, range_fault d least gaps full le far) refl

  pub block_read : at ≤ behind → (next : ℕ) → least + sum gaps + 127 < d → next ≡ least + sum gaps + 128 → (blocks rest : ℕ)
      → verdict (read_blocks d least (suc blocks) rest (drop at bytes)) ≡ verdict (read_blocks d next blocks rest (drop behind bytes))
  block_read on next fits is blocks rest =
      let there : at + (behind - at) ≡ behind = omega arith in
      ap (λ b. verdict (b >>= λ block. cond (list_all (λ doc. nat_lt doc d) (docs_from least block.gaps))
      (read_blocks d (least + sum block.gaps + 128) blocks rest (drop block.size (drop at bytes)) >>= λ docs. Ok (docs_from least block.gaps ++ docs)) (Err DocRange))) read
      ∙ ap (λ b. verdict (cond b (read_blocks d (least + sum gaps + 128) blocks rest (drop (behind - at) (drop at bytes)) >>= λ docs. Ok (docs_from least gaps ++ docs)) (Err DocRange)))
      (range_ok d least gaps full fits)
      ∙ front_verdict (docs_from least gaps) (read_blocks d (least + sum gaps + 128) blocks rest (drop (behind - at) (drop at bytes)))
      ∙ ap (λ n. verdict (read_blocks d n blocks rest (drop (behind - at) (drop at bytes)))) (sym is)
      ∙ ap (λ (xs : List ℕ). verdict (read_blocks d next blocks rest xs)) (drop-drop (behind - at) at bytes ∙ ap (λ k. drop k bytes) there)

pub block_fault : (d least blocks rest : ℕ) (bytes : List ℕ) (fault : PayloadFault) → block_in bytes ≡ Err fault → verdict (read_blocks d least (suc blocks) rest bytes) ≡ Err fault
block_fault d least blocks rest bytes fault is = rw is refl

-- a turn of the loop over blocks
pub block_turn : (d least n turn at rest : ℕ) (bytes : List ℕ) (whole : Result (Unit {0}) PayloadFault) → turn < n
    → whole ≡ verdict (read_blocks d least (n - turn) rest (drop at bytes)) → whole ≡ verdict (read_blocks d least (suc (n - (turn + 1))) rest (drop at bytes))
block_turn d least n turn at rest bytes whole more is = is ∙ ap (λ k. verdict (read_blocks d least k rest (drop at bytes))) (let e : n - turn ≡ suc (n - (turn + 1)) = omega arith in e)

pub blocks_end : (d least n turn at rest : ℕ) (bytes : List ℕ) (whole : Result (Unit {0}) PayloadFault) → n ≤ turn
    → whole ≡ verdict (read_blocks d least (n - turn) rest (drop at bytes)) → whole ≡ verdict (read_gaps d least rest (drop at bytes))
blocks_end d least n turn at rest bytes whole past is = is ∙ ap (λ k. verdict (read_blocks d least k rest (drop at bytes))) (let e : n - turn ≡ 0 = omega arith in e)

pub checks_fault : (d least at : ℕ) (bytes : List ℕ) (fault : PayloadFault) (result : Result (ℕ × ℕ) PayloadFault) → block_in (drop at bytes) ≡ Err fault → result ≡ Err fault
    → ChecksBlock d bytes at least result
checks_fault d least at bytes fault result read is =
    subst (ChecksBlock d bytes at least) (sym is) (λ blocks rest. block_fault d least blocks rest (drop at bytes) fault read)

pub no_room : (x d : ℕ) (fits : Bool) → fits ≡ false → (IsTrue fits ↔ (x < d)) → d ≤ x
no_room x d fits is room = elim (cases_lt x d) [ inl l ↦ absurd (let t = room.1 l in let f = is in cc) | inr g ↦ g ]
