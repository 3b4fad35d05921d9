-- The flat list: an index as one list of its postings. This project's form of an impact-ordered index (Lin and Trotman,
-- "Anytime Ranking for Impact-Ordered Indexes", ICTIR 2015).
use Rattle.std.specs.Prelude.{◌≡◌, ◌≢◌, ℕ, ◌<◌, ◌≤◌, List, [], ◌∷◌, map, filter, not, bytes_eq, All, AllPairs, IsSorted}
use Rattle.std.specs.List.{position_or_len}
use Rattle.std.specs.declared.cmp.Ordering.{Ordering}
use Rattle.std.specs.Ordering.{nat_cmp, ordering_then}
use Rattle.ranking_model.specs.declared.entry.Entry.{Entry}
use Rattle.jass_base.specs.declared.limits.TheConstants.{GREATEST_IMPACT}

-- the order of an index: rising terms, falling impacts, rising documents
abbrev pub entry_cmp : {T : Type 0} → (T → T → Ordering) → Entry T → Entry T → Ordering
entry_cmp cmp a b = ordering_then (ordering_then (cmp a.term b.term) (nat_cmp b.impact a.impact)) (nat_cmp a.doc b.doc)

-- an index of so many documents: in order, a document at most once in a term, each impact at least 1
pub record IsFlat {T : Type 0} (cmp : T → T → Ordering) (docs : ℕ) (flat : List (Entry T)) : Type 0 where
  pub order : IsSorted (entry_cmp cmp) flat
  pub once : AllPairs (λ a b. a.term ≡ b.term → a.doc ≢ b.doc) flat
  pub documents : All (λ e. e.doc < docs) flat
  pub impacts : All (λ e. (1 ≤ e.impact) × (e.impact ≤ GREATEST_IMPACT)) flat

-- the terms of a flat list, each once
abbrev pub terms_of : List (Entry (List ℕ)) → List (List ℕ)
terms_of [] = []
terms_of (e ∷ es) = e.term ∷ filter (λ term. not (bytes_eq term e.term)) (terms_of es)

-- a term's number: its place among them, or how many they are where it is none of them
abbrev pub number_of : List (List ℕ) → List ℕ → ℕ
number_of terms term = position_or_len (λ t. bytes_eq t term) terms

-- a flat list with its terms' numbers in place of their bytes
abbrev pub numbered : List (Entry (List ℕ)) → List (Entry ℕ)
numbered flat = map (λ e. record { term = number_of (terms_of flat) e.term; doc = e.doc; impact = e.impact }) flat
