-- The first documents of some scores in a heap, the last of them in front. Heaps: J. W. J. Williams, Algorithm 232 (CACM 1964).
use Rattle.std.specs.Prelude.{◌≡◌, ◌≢◌, ℕ, ◌+◌, ◌-◌, ◌/◌, ◌<◌, ◌≤◌, true, List, [], ◌++◌, length, reverse, slice_index, IsPermutation, Contains}
use Rattle.std.specs.List.{AllByRecursion}
use Rattle.std.specs.Ordering.{is_gt}
use Rattle.jass_base.specs.declared.answer.Hit.{Hit}
use Rattle.ranking_model.specs.Scores.{rank_cmp, first_ranked}
use Rattle.topk_heap.specs.Hits.{HitsView, hit_docs, hit_at}

-- how many documents are asked for, the heap, and how many raised documents there is room for at a time
pub record TopView : Type 0 where
  pub k : ℕ
  pub hits : List Hit
  pub room : ℕ

-- the heap of hits in order is the hits from the last to the first
abbrev pub top_view : ℕ → HitsView → TopView
top_view k row = record { k = k; hits = reverse row.hits; room = row.room - (k + 1) }

-- ---- standing

-- the hit above another in the heap ranks after it
abbrev pub IsHeap : List Hit → Type 0
IsHeap hits = (i : ℕ) → 1 ≤ i → i < length hits → is_gt (rank_cmp (hit_at hits ((i - 1) / 2)) (hit_at hits i)) ≡ true

-- the heap place of a document is i + 1 where it is the hit at place i, and 0 where it isn't in the heap
pub record ArePlacesOf (hits : List Hit) (places : List ℕ) : Type 0 where
  pub inside : (i : ℕ) → i < length hits → slice_index places (hit_at hits i).doc ≡ i + 1
  pub outside : (doc : ℕ) → AllByRecursion (λ hit. hit.doc ≢ doc) hits → slice_index places doc ≡ 0

-- the hits of the heap are the first k + 1 documents of these scores, in whatever order
abbrev pub HoldsFirst : TopView → List ℕ → Type 0
HoldsFirst top scores = IsPermutation (first_ranked scores (top.k + 1)) top.hits

-- the heap has the first k + 1 documents of these scores, and these are the heap places
pub record TopStands (top : TopView) (scores places : List ℕ) : Type 0 where
  pub hits : HoldsFirst top scores
  pub heap : IsHeap top.hits
  pub placed : ArePlacesOf top.hits places

-- ---- what calls ask for

-- as many documents asked for, and as much room, but no heap
abbrev pub without_heap : TopView → TopView
without_heap top = record { k = top.k; hits = []; room = top.room }

-- the document has a score
abbrev pub IsTouched : List ℕ → ℕ → Type 0
IsTouched scores doc = (doc < length scores) × (1 ≤ slice_index scores doc)

-- the documents of the heap have scores, whatever they were, and these are the heap places
pub record IsPlaced (top : TopView) (scores places : List ℕ) : Type 0 where
  pub touched : AllByRecursion (λ hit. IsTouched scores hit.doc) top.hits
  pub placed : ArePlacesOf top.hits places

-- the documents of the heap, and some others
abbrev pub with_heap : TopView → List ℕ → List ℕ
with_heap top docs = hit_docs top.hits ++ docs

-- the first m documents of some scores are among these
abbrev pub HaveFirst : List ℕ → ℕ → List ℕ → Type 0
HaveFirst scores m docs = AllByRecursion (λ hit. Contains docs hit.doc) (first_ranked scores m)

-- these are the first m documents of some scores, in whatever order
abbrev pub AreFirst : List ℕ → ℕ → List ℕ → Type 0
AreFirst scores m docs = IsPermutation (hit_docs (first_ranked scores m)) docs
