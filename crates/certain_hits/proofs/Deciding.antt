-- The rule tells which of the first k are certain, and counts them.
use Rattle.shared_lemmas.proofs.Common.{◌≡◌, ℕ, zero, suc, ◌+◌, ◌≤◌, List, [], ◌∷◌, length, take, drop, filter, count_by, ◌==◌, replicate, Bool, true, false, true≢false, cond, refl, sym, ap, subst, ◌∙◌, arith, inl, inr, ◌⊎◌, Contains, Option, Some, None, slice_get}
use Rattle.shared_lemmas.proofs.Common.{AllByRecursion, is_lt, cases_Bool, sum_by-cons, sum_by-append, sum_by-take-drop}
use Rattle.shared_lemmas.proofs.Lists.{all_weaker, all_drop}
use Rattle.shared_lemmas.proofs.Members.{In, in_from_contains, all_at, all_in}
use Rattle.jass_base.specs.declared.answer.Hit.{Hit}
use Rattle.ranking_model.specs.Order.{sorted}
use Rattle.ranking_model.specs.Scores.{rank_cmp, hits_from, first_ranked}
use Rattle.ranking_model.specs.Finality.{raised, first_documents}
use Rattle.ranking_model.proofs.Sorting.{sorted_ascends}
use Rattle.ranking_model.proofs.Orders.{rank_total, rank_same}
use Rattle.ranking_model.proofs.Candidates.{count_doc}
use Rattle.final_certificate.proofs.Lists.{sum_by-same}
use Rattle.final_certificate.proofs.Lifting.{is_unscored}
use Rattle.final_certificate.proofs.Edges.{ranked}
use Rattle.final_certificate.proofs.Refuting.{outside}
use Rattle.final_certificate.proofs.Deciding.{of_scores, once, first_is}
use Rattle.sharp_bounds.proofs.Settling.{behind_is}
use Rattle.sharp_bounds.proofs.Changing.{one_there}
use Rattle.certain_hits.specs.Certain.{IsCertainWithin, IsCountOf, IsCertainCount}
use Rattle.certain_hits.specs.Rule.{rival, stands_ahead, certain_count}
use Rattle.certain_hits.proofs.Places.{OnNext, few_by_next, next_by_few}
use Rattle.certain_hits.proofs.Reaching.{raised_zero, zeros_within}
use Rattle.certain_hits.proofs.Counting.{IsHitOf, hits_of, all_of_scores, reaches, reaching, count_ranked, of_docs, certain_by_few, few_by_certain}

-- ---- the rival

next_of_front : (k : ℕ) (xs : List Hit) → slice_get (take (suc k) xs) k ≡ slice_get xs k
next_of_front zero [] = refl
next_of_front zero (x ∷ xs) = refl
next_of_front (suc k) [] = refl
next_of_front (suc k) (x ∷ xs) = next_of_front k xs

ahead_is : (o : Option Hit) (h : Hit) → stands_ahead o h ≡ OnNext (λ y. is_lt (rank_cmp h y)) o
ahead_is None h = refl
ahead_is (Some y) h = refl

module _ (scores limits : List ℕ) (k : ℕ) where
  rival_is : (h : Hit) → stands_ahead (rival k limits scores) h ≡ OnNext (λ y. is_lt (rank_cmp h y)) (slice_get (sorted rank_cmp (hits_from 0 (raised scores limits))) k)
  rival_is h =
      let e : k + 1 ≡ suc k = omega arith in
      ahead_is (rival k limits scores) h
      ∙ ap (λ n. OnNext (λ y. is_lt (rank_cmp h y)) (slice_get (first_ranked (raised scores limits) n) k)) e
      ∙ ap (OnNext (λ y. is_lt (rank_cmp h y))) (next_of_front k (sorted rank_cmp (hits_from 0 (raised scores limits))))

  pub few_by_ahead : (h : Hit) → stands_ahead (rival k limits scores) h ≡ true → reaching scores limits h.doc h.score ≤ k
  few_by_ahead h t =
      let few = few_by_next rank_cmp rank_total rank_same h k (sorted rank_cmp (hits_from 0 (raised scores limits))) (sorted_ascends rank_cmp rank_total (hits_from 0 (raised scores limits))) (sym (rival_is h) ∙ t) in
      let c = count_ranked (reaches h.doc h.score) (raised scores limits) in
      omega arith

  pub ahead_by_few : (h : Hit) → reaching scores limits h.doc h.score ≤ k → stands_ahead (rival k limits scores) h ≡ true
  ahead_by_few h few = rival_is h ∙ next_by_few rank_cmp rank_total rank_same h k (sorted rank_cmp (hits_from 0 (raised scores limits))) (sorted_ascends rank_cmp rank_total (hits_from 0 (raised scores limits)))
      (let c = count_ranked (reaches h.doc h.score) (raised scores limits) in omega arith)

-- ---- the definition

pub certain_first : (scores limits : List ℕ) (k doc : ℕ) → length limits ≡ length scores → IsCertainWithin scores k limits doc → Contains (first_documents scores k) doc
certain_first scores limits k doc same certain = subst (λ l. Contains (first_documents l k) doc) (raised_zero scores) (certain (replicate (length scores) 0) (zeros_within limits scores same))

module _ (scores limits : List ℕ) (k : ℕ) (same : length limits ≡ length scores) where
  pub certain_by_ahead : (h : Hit) → IsHitOf scores h → stands_ahead (rival k limits scores) h ≡ true → IsCertainWithin scores k limits h.doc
  certain_by_ahead h known t =
      certain_by_few scores limits same k h.doc known.0 (let e = known.2 in let s = known.1 in omega arith) (subst (λ n. reaching scores limits h.doc n ≤ k) known.2 (few_by_ahead scores limits k h t))

  pub ahead_by_certain : (h : Hit) → IsHitOf scores h → IsCertainWithin scores k limits h.doc → stands_ahead (rival k limits scores) h ≡ true
  ahead_by_certain h known certain = ahead_by_few scores limits k h (subst (λ n. reaching scores limits h.doc n ≤ k) (sym known.2) (few_by_certain scores limits same k h.doc certain).2)

  pub counts_certain : IsCertainCount scores k limits (certain_count k limits scores)
  counts_certain = record {
    test = stands_ahead (rival k limits scores);
    right = all_weaker (IsHitOf scores) (λ h. stands_ahead (rival k limits scores) h ≡ true → IsCertainWithin scores k limits h.doc) certain_by_ahead (first_ranked scores k) (hits_of scores k);
    complete = all_weaker (IsHitOf scores) (λ h. IsCertainWithin scores k limits h.doc → stands_ahead (rival k limits scores) h ≡ true) ahead_by_certain (first_ranked scores k) (hits_of scores k);
    passed = refl;
  }

pub one_count : {A : Type 0} (IsSuch : A → Type 0) (all : List A) (first second : ℕ) → IsCountOf IsSuch all first → IsCountOf IsSuch all second → first ≡ second
one_count {A} IsSuch all first second a b = sym a.passed ∙ sum_by-same (λ x. cond (a.test x) 1 0) (λ x. cond (b.test x) 1 0) all (agree all a.right a.complete b.right b.complete) ∙ b.passed where
  one : (x : A) → (a.test x ≡ true → IsSuch x) → (IsSuch x → a.test x ≡ true) → (b.test x ≡ true → IsSuch x) → (IsSuch x → b.test x ≡ true) → ◌≡◌ {A = ℕ} (cond (a.test x) 1 0) (cond (b.test x) 1 0)
  one x ar ac br bc = by (cases_Bool (a.test x)) (cases_Bool (b.test x)) where
    by : (a.test x ≡ true) ⊎ (a.test x ≡ false) → (b.test x ≡ true) ⊎ (b.test x ≡ false) → ◌≡◌ {A = ℕ} (cond (a.test x) 1 0) (cond (b.test x) 1 0)
    by (inl s) k = let t = bc (ar s) in rw (s, t) refl
    by (inr s) (inl t) = absurd (true≢false (sym (ac (br t)) ∙ s))
    by (inr s) (inr t) = rw (s, t) refl

  agree : (xs : List A) → AllByRecursion (λ x. a.test x ≡ true → IsSuch x) xs → AllByRecursion (λ x. IsSuch x → a.test x ≡ true) xs → AllByRecursion (λ x. b.test x ≡ true → IsSuch x) xs → AllByRecursion (λ x. IsSuch x → b.test x ≡ true) xs
      → AllByRecursion (λ x. ◌≡◌ {A = ℕ} (cond (a.test x) 1 0) (cond (b.test x) 1 0)) xs
  agree [] p q r s = tt
  agree (x ∷ xs) p q r s = (one x p.0 q.0 r.0 s.0, agree xs p.1 q.1 r.1 s.1)

-- ---- whoever stands ahead is among the first k

none_pass : {A : Type 0} (p : A → Bool) (xs : List A) → AllByRecursion (λ x. p x ≡ false) xs → count_by p xs ≡ 0
none_pass p [] h = refl
none_pass p (x ∷ xs) h = let f = h.0 in let rest = none_pass p xs h.1 in rw (sum_by-cons (λ x. cond (p x) 1 0) x xs, f) (omega arith)

module _ (scores limits : List ℕ) (k : ℕ) (same : length limits ≡ length scores) where
  behind : (h : Hit) → In h (drop k (sorted rank_cmp (hits_from 0 scores))) → IsHitOf scores h → stands_ahead (rival k limits scores) h ≡ false
  behind h there known = by (cases_Bool (stands_ahead (rival k limits scores) h)) where
    by : (stands_ahead (rival k limits scores) h ≡ true) ⊎ (stands_ahead (rival k limits scores) h ≡ false) → stands_ahead (rival k limits scores) h ≡ false
    by (inr f) = f
    by (inl t) =
        let r = of_docs h.doc (first_ranked scores k) (in_from_contains (first_documents scores k) h.doc (certain_first scores limits k h.doc same (certain_by_ahead scores limits k same h known t))) in
        let one = one_there r.0 (first_ranked scores k) r.2 in
        let same_doc = ap (λ d. count_doc d (first_ranked scores k)) r.1 in
        let here = ap (count_doc h.doc) (first_is scores k) in
        let two = one_there h (drop k (ranked (of_scores scores))) (subst (In h) (behind_is scores k) there) in
        let sum = sum_by-append (λ (g : Hit). cond (g.doc == h.doc) 1 0) (drop k (ranked (of_scores scores))) (filter is_unscored (of_scores scores)) in
        let none = outside (of_scores scores) k h.doc (once scores) (omega arith) in
        absurd (omega arith)

  pub all_ahead : certain_count k limits scores ≡ count_by (stands_ahead (rival k limits scores)) (sorted rank_cmp (hits_from 0 scores))
  all_ahead =
      let parts = sum_by-take-drop (λ (h : Hit). cond (stands_ahead (rival k limits scores) h) 1 0) (sorted rank_cmp (hits_from 0 scores)) k in
      let none = none_pass (stands_ahead (rival k limits scores)) (drop k (sorted rank_cmp (hits_from 0 scores))) (all_in (λ h. stands_ahead (rival k limits scores) h ≡ false) (drop k (sorted rank_cmp (hits_from 0 scores))) (λ h there. behind h there (known h there))) in
      omega arith
    where
      known : (h : Hit) → In h (drop k (sorted rank_cmp (hits_from 0 scores))) → IsHitOf scores h
      known h there = all_at (IsHitOf scores) (drop k (sorted rank_cmp (hits_from 0 scores))) h (all_drop (IsHitOf scores) k (sorted rank_cmp (hits_from 0 scores)) (all_of_scores scores)) there
