-- The first k of some hits, in no stated order.
use Rattle.shared_lemmas.proofs.Common.{◌≡◌, ℕ, suc, ◌<◌, ◌≤◌, List, [], ◌∷◌, ◌++◌, length, get_or, Bool, true, false, sym, ap, subst, true≢false, if◌then◌else◌, ◌∙◌, arith, AllByRecursion, IsPermutation, is_lt, is_gt, nat_tests, append_assoc, length-append}
use Rattle.shared_lemmas.proofs.Lists.{all_append, all_weaker}
use Rattle.jass_base.specs.declared.answer.Hit.{Hit}
use Rattle.ranking_model.specs.Scores.{AreAhead, rank_cmp}
use Rattle.max_score.specs.Private.Selecting.{HasFirst}
use Rattle.max_score.specs.Private.Standing.{Stands}
use Rattle.max_score.proofs.Standing.{cut_to}

after_both : (a b c : Hit) → is_gt (rank_cmp a b) ≡ false → is_gt (rank_cmp b c) ≡ false → is_gt (rank_cmp a c) ≡ false
after_both a b c first second = grind (arith, nat_tests)

at_most : (a b : Hit) → is_gt (rank_cmp a b) ≡ false → b.score ≤ a.score
at_most a b ahead = grind (arith, nat_tests)

turned : (a b : Hit) → is_lt (rank_cmp b a) ≡ false → is_gt (rank_cmp a b) ≡ false
turned a b behind = grind (arith, nat_tests)

-- what a selection by rank puts in front and behind
pub in_front : (front : List Hit) (last : Hit) → ((k : ℕ) (d : Hit) → k < length front → is_lt (rank_cmp last (get_or front k d)) ≡ false) → AreAhead front (last ∷ [])
in_front [] last split = tt
in_front (x ∷ xs) last split = ((turned x last (split 0 x (omega arith)), tt), in_front xs last (λ k d inside. split (suc k) d (omega arith)))

pub in_back : (last : Hit) (back : List Hit) → ((k : ℕ) (d : Hit) → k < length back → is_lt (rank_cmp (get_or back k d) last) ≡ false) → AreAhead (last ∷ []) back
in_back last back split = (each back split, tt) where
  each : (ys : List Hit) → ((k : ℕ) (d : Hit) → k < length ys → is_lt (rank_cmp (get_or ys k d) last) ≡ false) → AllByRecursion (λ y. is_gt (rank_cmp last y) ≡ false) ys
  each [] split = tt
  each (y ∷ ys) split = (turned last y (split 0 y (omega arith)), each ys (λ k d inside. split (suc k) d (omega arith)))

-- what stands in place of nothing
pub put_behind : (done : Bool) (was more now : List Hit) → now ≡ (if done then was ++ more else was) → done ≡ true → was ≡ [] → now ≡ more
put_behind true was more now is e none = is ∙ ap (λ (l : List Hit). l ++ more) none
put_behind false was more now is e none = absurd (true≢false (sym e))

module _ {hits kept : List Hit} {k least : ℕ} (first : HasFirst hits kept k least) where
  pub length_kept : length kept ≡ k
  length_kept = ap (λ (l : List Hit). length l) first.are ∙ length-append first.front (first.last ∷ []) ∙ sym first.size

  parted : first.front ++ first.last ∷ first.others ≡ kept ++ first.others
  parted = sym (append_assoc first.front (first.last ∷ []) first.others) ∙ ap (λ (l : List Hit). l ++ first.others) (sym first.are)

  above : AreAhead kept first.others
  above = subst (λ l. AreAhead l first.others) (sym first.are) (all_append (λ a. AllByRecursion (λ b. is_gt (rank_cmp a b) ≡ false) first.others) first.front (first.last ∷ [])
      (all_weaker (λ a. AllByRecursion (λ b. is_gt (rank_cmp a b) ≡ false) (first.last ∷ [])) (λ a. AllByRecursion (λ b. is_gt (rank_cmp a b) ≡ false) first.others)
      (λ a ahead. all_weaker (λ b. is_gt (rank_cmp first.last b) ≡ false) (λ b. is_gt (rank_cmp a b) ≡ false) (λ b behind. after_both a first.last b ahead.0 behind) first.others first.behind.0) first.front first.ahead)
      first.behind)

  high : AllByRecursion (λ (h : Hit). least ≤ h.score) kept
  high = subst (AllByRecursion (λ (h : Hit). least ≤ h.score)) (sym first.are) (all_append (λ (h : Hit). least ≤ h.score) first.front (first.last ∷ [])
      (all_weaker (λ a. AllByRecursion (λ b. is_gt (rank_cmp a b) ≡ false) (first.last ∷ [])) (λ (h : Hit). least ≤ h.score)
      (λ a ahead. let most = at_most a first.last ahead.0 in let is = first.score in omega arith) first.front first.ahead)
      ((let is = first.score in omega arith), tt))

  pub selected : (scores : List ℕ) (doc threshold : ℕ) → Stands scores k doc threshold hits → Stands scores k doc least kept
  selected scores doc threshold stands = cut_to scores k doc threshold hits kept first.others stands (subst (IsPermutation hits) parted first.same) length_kept above least high
