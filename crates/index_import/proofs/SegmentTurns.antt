-- The segments of a list, one by one.
use Rattle.shared_lemmas.proofs.Common.{◌≡◌, ℕ, suc, ◌+◌, ◌<◌, ◌≤◌, List, [], ◌∷◌, ◌++◌, length, take, Some, ap, subst, ◌∙◌, arith, All, All-head, All-tail, append-nil, flat_map-append, get_or_from_slice_get, map-append, slice_get, sum_by-append, sum_by-cons, take-suc}
use Rattle.std.specs.List.{sum_by}
use Rattle.index_import.proofs.Below.{SegmentData, chosen_head, chosen_heads, chosen_payloads}
use Rattle.jass_base.specs.Gaps.{AreDocs}
use Rattle.index_write.specs.Chosen.{chosen_payload}
use Rattle.index_import.specs.declared.list_entry.ListEntry.{ListEntry}

module _ (segments : List SegmentData) (i : ℕ) (s : SegmentData) (low : i < length segments) (there : slice_get segments i ≡ Some s) where
  next : take (i + 1) segments ≡ take i segments ++ s ∷ []
  next =
      let one : i + 1 ≡ suc i = omega arith in
      ap (λ (n : ℕ). take n segments) one ∙ take-suc segments i s low ∙ ap (λ (x : SegmentData). take i segments ++ x ∷ []) (get_or_from_slice_get segments i s s there)

  pub docs_are : (d : ℕ) → All (λ (s : SegmentData). AreDocs d s.docs) segments → AreDocs d s.docs
  docs_are d are = subst (λ (s : SegmentData). AreDocs d s.docs) (get_or_from_slice_get segments i s s there) (are i s low)

  pub heads_next : (d : ℕ) → chosen_heads d (take (i + 1) segments) ≡ chosen_heads d (take i segments) ++ chosen_head d s ∷ []
  heads_next d = ap (chosen_heads d) next ∙ map-append (chosen_head d) (take i segments) (s ∷ [])

  pub payloads_next : (d : ℕ) → chosen_payloads d (take (i + 1) segments) ≡ chosen_payloads d (take i segments) ++ chosen_payload d s
  payloads_next d =
      ap (chosen_payloads d) next ∙ flat_map-append (chosen_payload d) (take i segments) (s ∷ []) ∙ ap (λ (bytes : List ℕ). chosen_payloads d (take i segments) ++ bytes) (append-nil (chosen_payload d s))

-- segments are at most as many as their postings
pub few_segments : (d : ℕ) (segments : List SegmentData) → All (λ (s : SegmentData). AreDocs d s.docs) segments → length segments ≤ sum_by (λ (s : SegmentData). length s.docs) segments
few_segments d [] are = omega arith
few_segments d (s ∷ segments) are =
    let Docs : SegmentData → Type 0 = λ (s : SegmentData). AreDocs d s.docs in
    let some = (All-head Docs s segments are).some in
    omega (arith, some, sum_by-cons (λ (s : SegmentData). length s.docs) s segments, few_segments d segments (All-tail Docs s segments are))

-- a list has at most as many postings as all
pub one_of_all : (lists front rest : List ListEntry) (e : ListEntry) → lists ≡ front ++ e ∷ rest → e.place.count ≤ sum_by (λ (e : ListEntry). e.place.count) lists
one_of_all lists front rest e is =
    let count : ListEntry → ℕ = λ (e : ListEntry). e.place.count in
    omega (arith, ap (sum_by count) is, sum_by-append count front (e ∷ rest), sum_by-cons count e rest)
