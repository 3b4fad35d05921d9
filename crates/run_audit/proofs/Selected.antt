-- What a selection leaves in front of its place is the first of the hits.
use Rattle.shared_lemmas.proofs.Common.{◌≡◌, ℕ, suc, ◌<◌, List, [], ◌∷◌, ◌++◌, length, take, get_or, false, arith, IsPermutation, AllByRecursion, IsSplitAround, is_gt, is_lt, nat_tests}
use Rattle.shared_lemmas.proofs.Lists.{all_weaker}
use Rattle.jass_base.specs.declared.answer.Hit.{Hit}
use Rattle.ranking_model.specs.Order.{sorted}
use Rattle.ranking_model.specs.Scores.{rank_cmp}
use Rattle.ranking_model.proofs.Candidates.{first_part}
use Rattle.ranking_model.proofs.Orders.{rank_same, rank_total}

not_after : (x y : Hit) → is_lt (rank_cmp y x) ≡ false → is_gt (rank_cmp x y) ≡ false
not_after x y above = grind (arith, nat_tests)

through : (x y z : Hit) → is_gt (rank_cmp x y) ≡ false → is_gt (rank_cmp y z) ≡ false → is_gt (rank_cmp x z) ≡ false
through x y z one two = grind (arith, nat_tests)

all_by_index : {A : Type 0} (P : A → Type 0) (d : A) (xs : List A) → ((i : ℕ) → i < length xs → P (get_or xs i d)) → AllByRecursion P xs
all_by_index P d [] h = tt
all_by_index P d (x ∷ xs) h = (h 0 (omega arith), all_by_index P d xs (λ i inside. h (suc i) (omega arith)))

pub selected_are_first : (all front : List Hit) (x : Hit) (back : List Hit) (m : ℕ) → IsPermutation all (front ++ x ∷ back) → IsSplitAround rank_cmp front x back
    → length front ≡ m → sorted rank_cmp front ≡ take m (sorted rank_cmp all)
selected_are_first all front x back m moved split size = first_part rank_cmp rank_total rank_same all front (x ∷ back) m moved above (omega arith) (λ short. absurd (omega arith)) where
  behind : AllByRecursion (λ z. is_gt (rank_cmp x z) ≡ false) back
  behind = all_by_index (λ z. is_gt (rank_cmp x z) ≡ false) x back (λ i inside. not_after x _ (split.1 i x inside))

  above : AllByRecursion (λ y. AllByRecursion (λ z. is_gt (rank_cmp y z) ≡ false) (x ∷ back)) front
  above = all_by_index (λ y. AllByRecursion (λ z. is_gt (rank_cmp y z) ≡ false) (x ∷ back)) x front (λ i inside. ahead _ (not_after _ x (split.0 i x inside))) where
    ahead : (y : Hit) → is_gt (rank_cmp y x) ≡ false → AllByRecursion (λ z. is_gt (rank_cmp y z) ≡ false) (x ∷ back)
    ahead y before = (before, all_weaker (λ z. is_gt (rank_cmp x z) ≡ false) (λ z. is_gt (rank_cmp y z) ≡ false) (λ z after. through y x z before after) back behind)
