-- The longest prefix that fits, from the sums.
use Rattle.shared_lemmas.proofs.Common.{◌≡◌, ℕ, ◌+◌, ◌<◌, ◌≤◌, List, length, get_or, take, drop, false, sym, ap, ◌∙◌, arith, nat_le, take-take, drop-take, length-drop, get_or-drop, sum_by-take-le, sum_by-take-drop, le-leb, nat_tests}
use Rattle.ranking_model.proofs.Totals.{greatest_is}
use Rattle.segment_plan.specs.declared.entry.PlanEntry.{PlanEntry}
use Rattle.segment_plan.specs.Entries.{postings_of, entries_within}
use Rattle.segment_plan.specs.Private.Tables.{AreSums}

pub postings_mono : (entries : List PlanEntry) (i j : ℕ) → i ≤ j → postings_of (take i entries) ≤ postings_of (take j entries)
postings_mono entries i j h = let e = take-take i j entries h in let less = sum_by-take-le (λ (entry : PlanEntry). entry.count) (take j entries) i in rw e at less

-- the first from + n, as the first and those behind them
pub postings_parted : (entries : List PlanEntry) (from n : ℕ) → postings_of (take (from + n) entries) ≡ postings_of (take from entries) + postings_of (take n (drop from entries))
postings_parted entries from n =
    let parts = sum_by-take-drop (λ (entry : PlanEntry). entry.count) (take (from + n) entries) from in
    let first = take-take from (from + n) entries (omega arith) in
    let behind = drop-take from n entries in
    sym (rw (first, behind) at parts)

pub within_is : (entries : List PlanEntry) (sums : List ℕ) (from n left : ℕ) → AreSums sums entries → from + n ≤ length entries → get_or sums (from + n) 0 ≤ get_or sums from 0 + left
    → (from + n < length entries → get_or sums from 0 + left < get_or sums (from + n + 1) 0) → n ≡ entries_within left (drop from entries)
within_is entries sums from n left are there fits stops = sym (greatest_is (length (drop from entries)) n (λ j. nat_le (postings_of (take j (drop from entries))) left) there' (λ k. le-leb _ _ paid) (λ j a b. past j a b)) where
  there' : n ≤ length (drop from entries)
  there' = let behind = length-drop from entries in omega arith

  start : get_or sums from 0 ≡ postings_of (take from entries)
  start = are.each from (omega arith)

  paid : postings_of (take n (drop from entries)) ≤ left
  paid = let all = are.each (from + n) there in let parts = postings_parted entries from n in let first = start in omega arith

  past : (j : ℕ) → n < j → j ≤ length (drop from entries) → nat_le (postings_of (take j (drop from entries))) left ≡ false
  past j a b =
      let behind = length-drop from entries in
      let over = stops (omega arith) in
      let next = are.each (from + n + 1) (omega arith) in
      let same : from + n + 1 ≡ from + (n + 1) = omega arith in
      let parts = postings_parted entries from (n + 1) in
      let moved = ap (λ m. postings_of (take m entries)) same in
      let more = postings_mono (drop from entries) (n + 1) j (omega arith) in
      let first = start in
      let far : left < postings_of (take j (drop from entries)) = omega arith in
      grind (arith, nat_tests)

-- the same of the sums from a place on, as a slice of their own
module _ (entries : List PlanEntry) (sums shown : List ℕ) (from : ℕ) (are : AreSums sums entries) (same : shown ≡ drop from sums) (within : from ≤ length entries) where
  pub shown_at : (i : ℕ) → get_or shown i 0 ≡ get_or sums (from + i) 0
  shown_at i = ap (λ l. get_or l i 0) same ∙ get_or-drop from sums i 0

  pub shown_length : length shown + from ≡ length entries + 1
  shown_length = let long = ap length same ∙ length-drop from sums in let all = are.one_more in omega arith

  start_at : get_or shown 0 0 ≡ get_or sums from 0
  start_at = shown_at 0 ∙ ap (λ n. get_or sums n 0) (omega arith)

  pub shown_rise : (i : ℕ) → i < length shown → get_or shown 0 0 ≤ get_or shown i 0
  shown_rise i h =
      let long = shown_length in let first = are.each from within in
      let later = are.each (from + i) (omega arith) in
      let more = postings_mono entries from (from + i) (omega arith) in
      let a = start_at in let b = shown_at i in
      omega arith

  pub shown_within : (n left : ℕ) → n < length shown → get_or shown n 0 ≤ get_or shown 0 0 + left → (n + 1 < length shown → get_or shown 0 0 + left < get_or shown (n + 1) 0) → n ≡ entries_within left (drop from entries)
  shown_within n left h fits stops =
      let long = shown_length in let a = start_at in let b = shown_at n in
      let next : get_or shown (n + 1) 0 ≡ get_or sums (from + n + 1) 0 = shown_at (n + 1) ∙ ap (λ m. get_or sums m 0) (omega arith) in
      within_is entries sums from n left are (omega arith) (omega arith) (λ k. let over = stops (omega arith) in omega arith)
