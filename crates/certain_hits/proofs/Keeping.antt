-- What is certain stays certain, from interval to interval and from prefix to prefix; a kept answer is certain.
use Rattle.shared_lemmas.proofs.Common.{◌≡◌, ℕ, ◌+◌, ◌≤◌, List, [], ◌∷◌, length, take, get_or, sum_by, count_by, replicate, Bool, true, false, not, cond, refl, sym, ap, subst, ◌∙◌, arith, inl, inr, ◌⊎◌, Contains, IsPermutation, is_lt}
use Rattle.shared_lemmas.proofs.Common.{AllByRecursion, cases_Bool, cases_eq, sum_by-cons, IsPermutation-refl, Contains-permutation, length-map-range_with_len, length-replicate, get_or-replicate}
use Rattle.shared_lemmas.proofs.Members.{In, contains_from_in, all_at, all_in}
use Rattle.jass_base.specs.declared.answer.Hit.{Hit}
use Rattle.ranking_model.specs.declared.plan.QueryPlan.{QueryPlan}
use Rattle.ranking_model.specs.Scores.{rank_cmp, first_ranked, gain_of, scores_after, top_k}
use Rattle.ranking_model.specs.Finality.{raised, first_documents, IsSettledWithin, IsKeptWithin}
use Rattle.final_certificate.proofs.Limits.{within_of_bound, bound_of_within, bounds_are_small}
use Rattle.sharp_bounds.specs.Unseen.{unseen_bound, unseen_bounds}
use Rattle.sharp_bounds.specs.Rule.{AreLimits}
use Rattle.sharp_bounds.specs.Sharpness.{IsSharpFinal}
use Rattle.sharp_bounds.proofs.Between.{UpTo, up_trans, up_raised, between_gains}
use Rattle.sharp_bounds.proofs.Reaching.{IsOnce}
use Rattle.sharp_bounds.proofs.Settling.{within_at}
use Rattle.sharp_bounds.proofs.Sharp.{rising, falling, later_within}
use Rattle.certain_hits.specs.Certain.{IsCertainWithin, IsCertainUpTo, IsCertain}
use Rattle.certain_hits.specs.Rule.{rival, stands_ahead, certain_count, certain_after}
use Rattle.certain_hits.proofs.Totals.{passing, passing_small, passing_one, passing_none, passing_zero, total_le}
use Rattle.certain_hits.proofs.Reaching.{still_reached}
use Rattle.certain_hits.proofs.Counting.{IsHitOf, hits_of, in_docs, reaches, reaching, count_ranked}
use Rattle.certain_hits.proofs.Deciding.{few_by_ahead, ahead_by_few, ahead_by_certain, all_ahead}

-- ---- one bound

pub up_to_is : (scores : List ℕ) (k bound doc : ℕ) → IsCertainWithin scores k (replicate (length scores) bound) doc → IsCertainUpTo scores k bound doc
up_to_is scores k bound doc certain gains are = certain gains (within_of_bound bound scores gains are)

pub within_is : (scores : List ℕ) (k bound doc : ℕ) → IsCertainUpTo scores k bound doc → IsCertainWithin scores k (replicate (length scores) bound) doc
within_is scores k bound doc certain gains are = certain gains (bound_of_within bound (replicate (length scores) bound) scores gains (bounds_are_small bound (length scores)) are)

-- ---- narrower intervals

raised_up : (xs gains limits : List ℕ) → UpTo gains limits → length gains ≡ length xs → UpTo (raised xs gains) (raised xs limits)
raised_up [] gains limits a same = tt
raised_up (x ∷ xs) [] limits a same = absurd (omega arith)
raised_up (x ∷ xs) (g ∷ gains) [] a same = absurd a
raised_up (x ∷ xs) (g ∷ gains) (l ∷ limits) a same = ((let h = a.0 in omega arith), raised_up xs gains limits a.1 (omega arith))

-- a list between is the scores with some gains
between : (scores limits high : List ℕ) (k doc : ℕ) → length limits ≡ length scores → UpTo scores high → UpTo high (raised scores limits) → IsCertainWithin scores k limits doc → Contains (first_documents high k) doc
between scores limits high k doc same low most certain =
    let b = between_gains scores limits high same low most in subst (λ l. Contains (first_documents l k) doc) b.reach (certain b.gains b.within)

pub narrower : (scores limits later left : List ℕ) (k doc : ℕ) → length limits ≡ length scores → UpTo scores later → UpTo (raised later left) (raised scores limits) → IsCertainWithin scores k limits doc → IsCertainWithin later k left doc
narrower scores limits later left k doc same low most certain gains are = between scores limits (raised later gains) k doc same
    (up_trans scores later (raised later gains) low (up_raised later gains))
    (up_trans (raised later gains) (raised later left) (raised scores limits) (raised_up later gains left are.within are.each) most) certain

up_length : (xs ys : List ℕ) → UpTo xs ys → length xs ≡ length ys
up_length [] [] a = refl
up_length [] (y ∷ ys) a = absurd a
up_length (x ∷ xs) [] a = absurd a
up_length (x ∷ xs) (y ∷ ys) a = let rest = up_length xs ys a.1 in omega arith

-- whoever stands ahead of the rival does so with a better score among worse reaches
module _ (scores limits later left : List ℕ) (k : ℕ) (low : UpTo scores later) (most : UpTo (raised later left) (raised scores limits)) where
  still_few : (d : ℕ) → reaching scores limits d (get_or scores d 0) ≤ k → reaching later left d (get_or later d 0) ≤ k
  still_few d few =
      let c = total_le (passing (reaches d (get_or later d 0))) (passing (reaches d (get_or scores d 0))) 0 (raised later left) (raised scores limits) (up_length (raised later left) (raised scores limits) most)
      (λ i inside. fewer (0 + i) (get_or (raised later left) i 0) (get_or (raised scores limits) i 0) (within_at (raised later left) (raised scores limits) most i)) in
      omega arith
    where
      fewer : (e a b : ℕ) → a ≤ b → passing (reaches d (get_or later d 0)) e a ≤ passing (reaches d (get_or scores d 0)) e b
      fewer e a b up = by (cases_eq a 0) (cases_Bool (is_lt (rank_cmp (record { doc = d; score = get_or later d 0 }) (record { doc = e; score = a })))) where
        by : (a ≡ 0) ⊎ (a ≡ 0 → ⊥) → (is_lt (rank_cmp (record { doc = d; score = get_or later d 0 }) (record { doc = e; score = a })) ≡ true) ⊎ (is_lt (rank_cmp (record { doc = d; score = get_or later d 0 }) (record { doc = e; score = a })) ≡ false)
            → passing (reaches d (get_or later d 0)) e a ≤ passing (reaches d (get_or scores d 0)) e b
        by (inl z) h = omega (arith, passing_zero (reaches d (get_or later d 0)) e a z)
        by (inr z) (inl t) = omega (arith, passing_none (reaches d (get_or later d 0)) e a (ap not t))
        by (inr z) (inr f) = omega (arith, passing_small (reaches d (get_or later d 0)) e a, passing_one (reaches d (get_or scores d 0)) e b (omega arith) (ap not (still_reached d e a b (get_or scores d 0) (get_or later d 0) up (within_at scores later low d) f)))

  one_more : (d : ℕ) → passing (stands_ahead (rival k limits scores)) d (get_or scores d 0) ≤ passing (stands_ahead (rival k left later)) d (get_or later d 0)
  one_more d = by (cases_eq (get_or scores d 0) 0) (cases_Bool (stands_ahead (rival k limits scores) (record { doc = d; score = get_or scores d 0 }))) where
    by : (get_or scores d 0 ≡ 0) ⊎ (get_or scores d 0 ≡ 0 → ⊥) → (stands_ahead (rival k limits scores) (record { doc = d; score = get_or scores d 0 }) ≡ true) ⊎ (stands_ahead (rival k limits scores) (record { doc = d; score = get_or scores d 0 }) ≡ false)
        → passing (stands_ahead (rival k limits scores)) d (get_or scores d 0) ≤ passing (stands_ahead (rival k left later)) d (get_or later d 0)
    by (inl z) h = omega (arith, passing_zero (stands_ahead (rival k limits scores)) d (get_or scores d 0) z)
    by (inr z) (inr f) = omega (arith, passing_none (stands_ahead (rival k limits scores)) d (get_or scores d 0) f)
    by (inr z) (inl t) =
        let few = still_few d (few_by_ahead scores limits k (record { doc = d; score = get_or scores d 0 }) t) in
        let ahead = ahead_by_few later left k (record { doc = d; score = get_or later d 0 }) few in
        omega (arith, passing_small (stands_ahead (rival k limits scores)) d (get_or scores d 0), passing_one (stands_ahead (rival k left later)) d (get_or later d 0) (let r = within_at scores later low d in omega arith) ahead)

  pub never_fewer : length limits ≡ length scores → length left ≡ length later → certain_count k limits scores ≤ certain_count k left later
  never_fewer same same_later =
      let a = all_ahead scores limits k same in
      let b = all_ahead later left k same_later in
      let c = count_ranked (stands_ahead (rival k limits scores)) scores in
      let d = count_ranked (stands_ahead (rival k left later)) later in
      let e = total_le (passing (stands_ahead (rival k limits scores))) (passing (stands_ahead (rival k left later))) 0 scores later (up_length scores later low)
      (λ i inside. let z : 0 + i ≡ i = omega arith in subst (λ n. passing (stands_ahead (rival k limits scores)) n (get_or scores i 0) ≤ passing (stands_ahead (rival k left later)) n (get_or later i 0)) (sym z) (one_more i)) in
      omega arith

-- ---- kept answers

pub all_pass : {A : Type 0} (p : A → Bool) (xs : List A) → AllByRecursion (λ x. p x ≡ true) xs → count_by p xs ≡ length xs
all_pass p [] h = refl
all_pass p (x ∷ xs) h = let t = h.0 in let rest = all_pass p xs h.1 in rw (sum_by-cons (λ x. cond (p x) 1 0) x xs, t) (omega arith)

pub kept_certain : (scores limits : List ℕ) (k : ℕ) → length limits ≡ length scores → IsKeptWithin scores k limits → certain_count k limits scores ≡ length (first_ranked scores k)
kept_certain scores limits k same kept = all_pass (stands_ahead (rival k limits scores)) (first_ranked scores k) (all_in (λ h. stands_ahead (rival k limits scores) h ≡ true) (first_ranked scores k) (λ h there.
    ahead_by_certain scores limits k same h (known h there) (λ gains are. Contains-permutation (first_documents scores k) (first_documents (raised scores gains) k) h.doc (kept gains are)
    (contains_from_in (first_documents scores k) h.doc (in_docs h (first_ranked scores k) there)))))
  where
    known : (h : Hit) → In h (first_ranked scores k) → IsHitOf scores h
    known h there = all_at (IsHitOf scores) (first_ranked scores k) h (hits_of scores k) there

pub settled_kept : (scores limits : List ℕ) (k : ℕ) → IsSettledWithin scores k limits → IsKeptWithin scores k limits
settled_kept scores limits k settled gains are = subst (λ l. IsPermutation (first_documents scores k) l) (sym (settled gains are)) (IsPermutation-refl (first_documents scores k))

-- ---- prefixes

pub as_many : (n : ℕ) (plan : QueryPlan) → length (unseen_bounds n plan) ≡ length (scores_after n plan)
as_many n plan = length-map-range_with_len (λ doc. unseen_bound n plan doc) 0 plan.docs ∙ sym (length-map-range_with_len (λ doc. sum_by (gain_of doc) (take n plan.segments)) 0 plan.docs)

module _ (plan : QueryPlan) (is : IsOnce plan) (n m k : ℕ) (more : n ≤ m) where
  pub certain_answer : (doc : ℕ) → IsCertain n plan k doc → Contains (first_documents (scores_after m plan) k) doc
  certain_answer doc certain = let b = later_within n m plan is more in subst (λ l. Contains (first_documents l k) doc) b.reach (certain b.gains b.within)

  pub certain_stays : (doc : ℕ) → IsCertain n plan k doc → IsCertain m plan k doc
  certain_stays doc certain = narrower (scores_after n plan) (unseen_bounds n plan) (scores_after m plan) (unseen_bounds m plan) k doc (as_many n plan) (rising n m plan more) (falling n m plan is more) certain

  pub certain_rises : certain_after n plan k ≤ certain_after m plan k
  certain_rises = never_fewer (scores_after n plan) (unseen_bounds n plan) (scores_after m plan) (unseen_bounds m plan) k (rising n m plan more) (falling n m plan is more) (as_many n plan) (as_many m plan)

pub sharp_certain : (n k : ℕ) (plan : QueryPlan) → IsSharpFinal n plan k → certain_after n plan k ≡ length (top_k n plan k)
sharp_certain n k plan sharp = kept_certain (scores_after n plan) (unseen_bounds n plan) k (as_many n plan) (settled_kept (scores_after n plan) (unseen_bounds n plan) k sharp)

-- ---- what a count asks for

pub one_limit : (scores : List ℕ) (bound : ℕ) → AreLimits bound scores (replicate (length scores) bound)
one_limit scores bound = record {
  each = length-replicate (length scores) bound;
  within = bounds_are_small bound (length scores);
  untouched = λ doc inside none. get_or-replicate (length scores) doc bound 0 inside;
}
