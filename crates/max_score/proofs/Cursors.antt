-- What a cursor has read.
use Rattle.shared_lemmas.proofs.Common.{◌≡◌, ℕ, zero, suc, ◌⊎◌, inl, inr, ◌==◌, ◌-◌, drop, drop_all, drop-drop, filter, max, min, nat_le, le-leb, nat_tests, cases_lt, if◌then◌else◌, ◌+◌, ◌<◌, ◌≤◌, List, [], ◌∷◌, length, replicate, true, false, Bool, refl, sym, ap, ◌∙◌, arith}
use Rattle.index_model.specs.Index.{IndexData, IsWellFormed}
use Rattle.index_model.specs.Querying.{segments_at}
use Rattle.std.specs.List.{slice_index_or}
use Rattle.max_score.specs.declared.posting.Posting.{Posting}
use Rattle.max_score.specs.Cursors.{CursorView, postings_from, impacts_of, read_over, unread}
use Rattle.max_score.specs.Private.Stamping.{stamped_all}
use Rattle.max_score.proofs.Stamps.{stamped_term}
use Rattle.shared_lemmas.proofs.Common.{length-map-range_with_len}
use Rattle.max_score.specs.Cursors.{impact_in}

pub reads : (index : IndexData) (t term from : ℕ) (items now : List ℕ) (started : Bool) (cursor : CursorView)
    → (let view : CursorView = record { term = term; docs = length items; started = started; impacts = items; from = from } in view) ≡ cursor
    → cursor ≡ unread cursor.term (length index.names) → IsWellFormed index → cursor.term < length index.terms → now ≡ stamped_all (segments_at index.terms cursor.term) items
    → (let view : CursorView = record { term = term; docs = length now; started = true; impacts = now; from = from } in view) ≡ read_over index cursor.term
reads index t term from items now started cursor view blank is inside told =
    λ i. record { term = same_term i; docs = docs i; started = true; impacts = impacts i; from = begins i }
  where
    same_term : term ≡ cursor.term
    same_term = ap (λ (v : CursorView). v.term) view

    begins : from ≡ 0
    begins = ap (λ (v : CursorView). v.from) view ∙ ap (λ (v : CursorView). v.from) blank

    zeros : items ≡ replicate (length index.names) 0
    zeros = ap (λ (v : CursorView). v.impacts) view ∙ ap (λ (v : CursorView). v.impacts) blank

    impacts : now ≡ impacts_of (length index.names) (segments_at index.terms cursor.term)
    impacts = told ∙ ap (stamped_all (segments_at index.terms cursor.term)) zeros
        ∙ stamped_term (length index.names) (slice_index_or index.terms cursor.term (record { term = []; segments = [] })) (is.terms cursor.term (record { term = []; segments = [] }) inside)

    docs : length now ≡ length index.names
    docs = ap (λ (l : List ℕ). length l) impacts ∙ length-map-range_with_len (impact_in (segments_at index.terms cursor.term)) 0 (length index.names)

-- ---- postings that are dropped

abbrev from_on : ℕ → Posting → Bool
from_on to p = nat_le to p.doc

all_pass : (to doc : ℕ) (impacts : List ℕ) → to ≤ doc → filter (from_on to) (postings_from doc impacts) ≡ postings_from doc impacts
all_pass to doc [] passes = refl
all_pass to doc (impact ∷ impacts) passes = step (impact == 0) (all_pass to (doc + 1) impacts (omega arith)) where
  step : (b : Bool) → filter (from_on to) (postings_from (doc + 1) impacts) ≡ postings_from (doc + 1) impacts
      → filter (from_on to) (if b then postings_from (doc + 1) impacts else record { doc = doc; impact = impact } ∷ postings_from (doc + 1) impacts)
      ≡ (if b then postings_from (doc + 1) impacts else record { doc = doc; impact = impact } ∷ postings_from (doc + 1) impacts)
  step true rest = rest
  step false rest = let t : nat_le to doc ≡ true = le-leb to doc passes in rw t (ap (λ l. record { doc = doc; impact = impact } ∷ l) rest)

none_pass : (n doc to : ℕ) (impacts : List ℕ) → doc + n ≤ to → filter (from_on to) (postings_from doc impacts) ≡ filter (from_on to) (postings_from (doc + n) (drop n impacts))
none_pass zero doc to impacts low = let e : doc ≡ doc + 0 = omega arith in ap (λ d. filter (from_on to) (postings_from d impacts)) e
none_pass (suc n) doc to [] low = refl
none_pass (suc n) doc to (impact ∷ impacts) low = step (impact == 0) (none_pass n (doc + 1) to impacts (omega arith)) where
  e : doc + 1 + n ≡ doc + suc n
  e = omega arith

  step : (b : Bool) → filter (from_on to) (postings_from (doc + 1) impacts) ≡ filter (from_on to) (postings_from (doc + 1 + n) (drop n impacts))
      → filter (from_on to) (if b then postings_from (doc + 1) impacts else record { doc = doc; impact = impact } ∷ postings_from (doc + 1) impacts) ≡ filter (from_on to) (postings_from (doc + suc n) (drop n impacts))
  step true rest = rest ∙ ap (λ d. filter (from_on to) (postings_from d (drop n impacts))) e
  step false rest = let f : nat_le to doc ≡ false = grind (arith, nat_tests) in rw f (rest ∙ ap (λ d. filter (from_on to) (postings_from d (drop n impacts))) e)

pub dropped_to : (to from next : ℕ) (impacts : List ℕ) → from ≤ length impacts → next ≡ max from (min to (length impacts))
    → postings_from next (drop next impacts) ≡ filter (from_on to) (postings_from from (drop from impacts))
dropped_to to from next impacts inside is = by (cases_lt from to) where
  by : (from < to) ⊎ (to ≤ from) → postings_from next (drop next impacts) ≡ filter (from_on to) (postings_from from (drop from impacts))
  by (inr past) = let e : next ≡ from = omega (arith, is) in ap (λ d. postings_from d (drop d impacts)) e ∙ sym (all_pass to from (drop from impacts) past)
  by (inl before) = sym (none_pass (next - from) from to (drop from impacts) (omega (arith, is)) ∙ ap (filter (from_on to)) there ∙ ends (cases_lt next to)) where
    sum : from + (next - from) ≡ next
    sum = omega (arith, is)

    other : next - from + from ≡ next
    other = omega (arith, is)

    there : postings_from (from + (next - from)) (drop (next - from) (drop from impacts)) ≡ postings_from next (drop next impacts)
    there = ap (λ d. postings_from d (drop (next - from) (drop from impacts))) sum ∙ ap (postings_from next) (drop-drop (next - from) from impacts ∙ ap (λ n. drop n impacts) sum)

    ends : (next < to) ⊎ (to ≤ next) → filter (from_on to) (postings_from next (drop next impacts)) ≡ postings_from next (drop next impacts)
    ends (inr reached) = all_pass to next (drop next impacts) reached
    ends (inl short) = let none : drop next impacts ≡ [] = drop_all next impacts (omega (arith, is)) in rw none refl
