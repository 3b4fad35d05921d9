-- A walk that can be asked for lists again.
use Rattle.shared_lemmas.proofs.Common.{◌≡◌, ℕ, zero, suc, ◌<◌, ◌⊎◌, inl, inr, List, [], ◌∷◌, map, Option, Result, refl, sym, ap, subst, ◌∙◌, arith, ◌≢◌, AllByRecursion, IsStrictlyIncreasing}
use Rattle.index_import.proofs.Below.{ListData, Files, Sets, CiffRefusal, KeptList, Message, list_at, ◌>>=◌, HasKept, IsListAt, LeavesWalk, StandsFor, WalkView}
use Rattle.shared_lemmas.proofs.Pairs.{Pairs, rising_pairs}
use Rattle.index_import.proofs.Beside.{beside, for_same, there_beside}
use Rattle.index_import.specs.Private.Outlining.{list_there, or_nothing}
use Rattle.index_import.specs.Private.Surveying.{IsReady}

-- the list that stands at a place is the one there
pub list_there_is : (content : List ℕ) (docs at : ℕ) (list : ListData) → IsListAt content docs at list → list ≡ list_there content docs at
unfolding list_there
list_there_is content docs at list is =
    sym (ap (λ (r : Result Message CiffRefusal). or_nothing (r >>= list_at docs 0 [] at)) is.there ∙ ap or_nothing is.judged)

-- a place that is kept once has one number of postings
module _ (at : ℕ) where
  abbrev later : KeptList → List KeptList → Type 0
  later k kept = AllByRecursion (λ (n : ℕ). k.at < n) (map (λ (k : KeptList). k.at) kept)

  split : (k : KeptList) (kept : List KeptList) (count : ℕ) → HasKept (k ∷ kept) at count → ((k.at ≡ at) × (k.count ≡ count)) ⊎ HasKept kept at count
  split k kept count (found, (zero, below, is), place, counted) = inl (ap (λ (x : KeptList). x.at) is ∙ place, ap (λ (x : KeptList). x.count) is ∙ counted)
  split k kept count (found, (suc i, below, is), place, counted) = inr (found, (i, omega (arith, below), is), place, counted)

  not_later : (k : KeptList) (kept : List KeptList) (count : ℕ) → later k kept → k.at ≡ at → ¬ HasKept kept at count
  not_later k [] count behind is (found, (i, below, same), place, counted) = absurd (omega (arith, below))
  not_later k (l ∷ kept) count behind is has = by (not_later k kept count behind.1 is) (split l kept count has)
    where
      by : ¬ HasKept kept at count → ((l.at ≡ at) × (l.count ≡ count)) ⊎ HasKept kept at count → ⊥
      by none (inl here) = omega (arith, behind.0, is, here.0)
      by none (inr there) = none there

  one : (kept : List KeptList) (a b : ℕ) → Pairs (λ (m n : ℕ). m < n) (map (λ (k : KeptList). k.at) kept) → HasKept kept at a → HasKept kept at b → a ≡ b
  one [] a b rising (found, (i, below, same), place, counted) other = absurd (omega (arith, below))
  one (k ∷ kept) a b rising first second = by (one kept a b rising.1) (split k kept a first) (split k kept b second)
    where
      by : (HasKept kept at a → HasKept kept at b → a ≡ b) → ((k.at ≡ at) × (k.count ≡ a)) ⊎ HasKept kept at a → ((k.at ≡ at) × (k.count ≡ b)) ⊎ HasKept kept at b → a ≡ b
      by rest (inl x) (inl y) = sym x.1 ∙ y.1
      by rest (inl x) (inr y) = absurd (not_later k kept b rising.0 x.0 y)
      by rest (inr x) (inl y) = absurd (not_later k kept a rising.0 y.0 x)
      by rest (inr x) (inr y) = rest x y

  pub one_count : (kept : List KeptList) (a b : ℕ) → IsStrictlyIncreasing (map (λ (k : KeptList). k.at) kept) → HasKept kept at a → HasKept kept at b → a ≡ b
  one_count kept a b rising first second = one kept a b (rising_pairs (map (λ (k : KeptList). k.at) kept) rising) first second

pub leaves_same : (w : WalkView) → LeavesWalk w w
leaves_same w = record { name = refl; header = refl; lists = refl; docs = refl; at = refl; kept = refl; marks = refl; given = refl; ended = refl }

pub leaves_then : (old mid new : WalkView) → LeavesWalk old mid → LeavesWalk mid new → LeavesWalk old new
leaves_then old mid new first second = record {
  name = second.name ∙ first.name;
  header = second.header ∙ first.header;
  lists = second.lists ∙ first.lists;
  docs = second.docs ∙ first.docs;
  at = second.at ∙ first.at;
  kept = second.kept ∙ first.kept;
  marks = second.marks ∙ first.marks;
  given = second.given ∙ first.given;
  ended = second.ended ∙ first.ended;
}

-- a walk stays ready while another file is written
pub ready_beside : (old new : Option Files) (name index text : List ℕ) (w : WalkView) → name ≢ index → Sets old new index text → IsReady old name w → IsReady new name w
ready_beside old new name index text w apart set is = record {
  there = there_beside old new index text name apart set is.there;
  name_is = is.name_is;
  stands = for_same old new w.name (λ content. StandsFor content w) (beside old new index text w.name (subst (λ (n : List ℕ). n ≢ index) (sym is.name_is) apart) set) is.stands;
  unanswered = is.unanswered;
  ranges = is.ranges;
}
