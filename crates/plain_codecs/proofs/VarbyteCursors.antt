-- What a cursor gives, in gaps.
use Rattle.shared_lemmas.proofs.Common.{◌≡◌, ◌↔◌, ℕ, ◌+◌, ◌-◌, ◌^◌, ◌<◌, ◌≤◌, min, List, [], ◌∷◌, length, take, drop, set, sum, sym, ap, ◌∙◌, arith, IsOk, length-drop, nil_from_length, take_all, take_more_set}
use Rattle.jass_base.proofs.Gaps.{length-docs_from}
use Rattle.jass_base.specs.Gaps.{docs_from, gap_in}
use Rattle.plain_codecs.specs.declared.varbyte.cursor.Cursor.{Cursor}
use Rattle.plain_codecs.specs.Private.Runs.{IsRun}
use Rattle.plain_codecs.specs.VarbyteCursor.{Gives}
use Rattle.plain_codecs.proofs.Docs.{Parts, Split, split, small_gaps, sum_parts}
use Rattle.plain_codecs.proofs.Runs.{Stepped, run_read, run_known}
use Rattle.jass_base.proofs.GapSpelling.{spelled, GapFound}

module _ (cursor : Cursor) (bytes docs : List ℕ) (gives : Gives cursor bytes docs) (count : ℕ) (is : count ≡ min cursor.left 128) where
  pub few : count ≤ length gives.gaps
  few = omega (arith, gives.left)

  pub run : IsRun bytes cursor.at count gives.gaps
  run = record { within = gives.within; spelled = gives.spelled; small = small_gaps gives.gaps (omega (arith, gives.room)); enough = few }

  pub end : (count ≡ 0) ↔ (docs ≡ [])
  end =
      let long : length docs ≡ cursor.left = ap length gives.docs_are ∙ length-docs_from cursor.least gives.gaps ∙ sym gives.left in
      ((λ zero. nil_from_length docs (omega (arith, long, is, zero))), (λ none. omega (arith, long, is, ap length none)))

  -- the gaps at the front of a block leave room
  pub room : (out : List ℕ) → take count out ≡ take count gives.gaps → cursor.least + sum (take count out) + count ≤ 2 ^ 26
  room out same = omega (arith, ap sum same, sum_parts count gives.gaps, gives.room, few)

  module _ (parts : Parts) (counts : (least : ℕ) (gaps : List ℕ) → length (docs_from least gaps) ≡ length gaps) where
    parted : Split cursor.least count gives.gaps
    parted = split parts counts cursor.least count gives.gaps few

    pub block : (out new : List ℕ) → take count out ≡ take count gives.gaps → take count new ≡ docs_from cursor.least (take count out) → take count new ≡ take count docs
    block out new same made = made ∙ ap (docs_from cursor.least) same ∙ sym parted.front ∙ ap (take count) (sym gives.docs_are)

    pub rest : (out : List ℕ) (at least left : ℕ) → take count out ≡ take count gives.gaps → IsRun bytes at 0 (drop count gives.gaps) → least ≡ cursor.least + sum (take count out) + count → left ≡ cursor.left - count
        → Gives (record { at = at; left = left; least = least }) bytes (drop count docs)
    rest out at least left same behind least_is left_is =
        let now : least ≡ cursor.least + sum (take count gives.gaps) + count = omega (arith, least_is, ap sum same) in
        record {
          gaps = drop count gives.gaps;
          docs_are = ap (drop count) gives.docs_are ∙ parted.back ∙ ap (λ n. docs_from n (drop count gives.gaps)) (sym now);
          left = omega (arith, left_is, gives.left, length-drop count gives.gaps);
          within = behind.within;
          spelled = behind.spelled;
          room = omega (arith, now, gives.room, sum_parts count gives.gaps, length-drop count gives.gaps, few);
        }

-- the last document
module _ (found : GapFound) (cursor : Cursor) (bytes docs : List ℕ) (gives : Gives cursor bytes docs) (one : cursor.left ≡ 1) where
  last_run : IsRun bytes cursor.at 1 gives.gaps
  last_run = record { within = gives.within; spelled = gives.spelled; small = small_gaps gives.gaps (omega (arith, gives.room)); enough = omega (arith, gives.left) }

  pub last_known : IsOk (gap_in (drop cursor.at bytes))
  last_known = run_known found bytes cursor.at 1 gives.gaps last_run (omega arith)

  pub one_doc : length docs ≡ 1
  one_doc = ap (λ (xs : List ℕ). length xs) gives.docs_are ∙ length-docs_from cursor.least gives.gaps ∙ sym gives.left ∙ one

  module _ (gap next : ℕ) (is : gap_in (drop cursor.at bytes) ≡ spelled gap (next - cursor.at)) (on : cursor.at < next) (within : next ≤ length bytes) where
    stepped : Stepped bytes next 0 gap gives.gaps
    stepped = run_read found bytes cursor.at next gap 1 gives.gaps last_run (omega arith) is on within

    gaps_are : gives.gaps ≡ gap ∷ []
    gaps_are = sym (take_all 1 gives.gaps (omega (arith, gives.left))) ∙ stepped.first

    docs_are : docs ≡ (cursor.least + gap) ∷ []
    docs_are = gives.docs_are ∙ ap (docs_from cursor.least) gaps_are

    pub last_block : (out : List ℕ) → 0 < length out → take 1 (set out 0 (cursor.least + gap)) ≡ take 1 docs
    last_block out some = take_more_set out 0 (cursor.least + gap) some ∙ ap (take 1) (sym docs_are)

    pub last_rest : Gives (record { at = next; left = 0; least = cursor.least + gap + 1 }) bytes (drop 1 docs)
    last_rest =
        record {
          gaps = drop 1 gives.gaps;
          docs_are = ap (drop 1) docs_are ∙ ap (λ (xs : List ℕ). docs_from (cursor.least + gap + 1) (drop 1 xs)) (sym gaps_are);
          left = ap (λ (xs : List ℕ). length (drop 1 xs)) (sym gaps_are);
          within = within;
          spelled = stepped.rest.spelled;
          room = omega (arith, gives.room, gives.left, ap (λ (xs : List ℕ). sum xs) gaps_are, ap (λ (xs : List ℕ). sum (drop 1 xs)) gaps_are, length-drop 1 gives.gaps);
        }
