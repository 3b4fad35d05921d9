-- Who is among the first by some scores.
use Rattle.shared_lemmas.proofs.Common.{◌≡◌, ◌≢◌, ℕ, ◌+◌, ◌<◌, ◌≤◌, List, [], ◌∷◌, length, get_or, sum_by, Bool, true, false, true≢false, cond, refl, sym, ap, subst, ◌∙◌, arith, inl, inr, ◌⊎◌, Contains, IfSome, None, Option, Some, nat_lt, slice_get, AllByRecursion, is_gt, cases_eq, cases_lt}
use Rattle.shared_lemmas.proofs.Common.{nat_tests, length-take, get_or_from_slice_get, slice_get_cases, slice_get_within, sum_by-cons, sum_by-take-le}
use Rattle.topk_heap.proofs.Below.{PoolView, ChainView, LeavesOthers, view_places, view_scores, Pages, own_chain, pages_places, pages_scores, view_stays, Hit, sorted, rank_cmp, hits_from, first_ranked, runner_up, sum_by-sorted, score_to_pass}
use Rattle.shared_lemmas.proofs.Members.{In, in_from_contains, all_at, all_in}
use Rattle.topk_heap.specs.Noting.{LetsPass, Passes, just_behind}
use Rattle.topk_heap.specs.Standing.{HaveFirst, TopStands, TopView}
use Rattle.topk_heap.proofs.Ahead.{ahead, all_ahead, few_if_first, first_if_few, first_of_few}
use Rattle.topk_heap.proofs.Lists.{all_by_index}
use Rattle.topk_heap.proofs.Ranking.{Own, first_in_order, first_own, order_index}

pub left : (top : TopView) (pages : Pages) (old new : PoolView) (chain : ℕ) → LeavesOthers old new chain → own_chain pages ≢ chain
    → TopStands top (pages_scores pages old) (pages_places pages old) → TopStands top (pages_scores pages new) (pages_places pages new)
left top pages old new chain leaves apart stands =
    subst (λ (v : ChainView). TopStands top (view_scores pages.docs v) (view_places pages.docs v)) (sym (view_stays pages old new chain leaves apart)) stands

-- ---- past a hit

fewer_ahead : (y w : Hit) → is_gt (rank_cmp y w) ≡ false → (xs : List Hit) → sum_by (ahead y) xs ≤ sum_by (ahead w) xs
fewer_ahead y w before [] = omega arith
fewer_ahead y w before (z ∷ xs) =
    let a = sum_by-cons (ahead y) z xs in
    let b = sum_by-cons (ahead w) z xs in
    let c = fewer_ahead y w before xs in
    let d = one (is_gt (rank_cmp y z)) (is_gt (rank_cmp w z)) (λ t. grind (arith, nat_tests)) in
    omega arith
  where
    one : (a b : Bool) → (a ≡ true → b ≡ true) → cond {A = ℕ} a 1 0 ≤ cond {A = ℕ} b 1 0
    one false true follows = omega arith
    one false false follows = omega arith
    one true true follows = omega arith
    one true false follows = absurd (true≢false (sym (follows refl)))

pass_ahead : (w : Hit) (doc score : ℕ) → score < score_to_pass w doc → is_gt (rank_cmp w (record { doc = doc; score = score })) ≡ false
pass_ahead w doc score low = by (cases_lt doc w.doc) where
  by : (doc < w.doc) ⊎ (w.doc ≤ doc) → is_gt (rank_cmp w (record { doc = doc; score = score })) ≡ false
  by (inl under) =
      let t : nat_lt doc w.doc ≡ true = grind (arith, nat_tests) in
      let s : score < w.score = subst (λ (b : Bool). score < cond b w.score (w.score + 1)) t low in
      grind (arith, nat_tests)
  by (inr over) =
      let f : nat_lt doc w.doc ≡ false = grind (arith, nat_tests) in
      let s : score < w.score + 1 = subst (λ (b : Bool). score < cond b w.score (w.score + 1)) f low in
      grind (arith, nat_tests)

passes_behind : (w h : Hit) → is_gt (rank_cmp w h) ≡ true → score_to_pass w h.doc ≤ h.score
passes_behind w h ahead_of = by (cases_lt h.score (score_to_pass w h.doc)) where
  by : (h.score < score_to_pass w h.doc) ⊎ (score_to_pass w h.doc ≤ h.score) → score_to_pass w h.doc ≤ h.score
  by (inr high) = high
  by (inl low) = absurd (true≢false (sym ahead_of ∙ pass_ahead w h.doc h.score low))

pub any_passes : (doc : ℕ) → score_to_pass (just_behind None) doc ≡ 1
any_passes doc = let f : nat_lt doc 0 ≡ false = grind (arith, nat_tests) in ap (λ (b : Bool). cond {A = ℕ} b 0 (0 + 1)) f

pub passed : (scores docs : List ℕ) (m : ℕ) (last : Hit) → ((doc : ℕ) → Passes last scores doc → Contains docs doc) → LetsPass last scores m → HaveFirst scores m docs
passed scores docs m last known enough = all_in (λ (h : Hit). Contains docs h.doc) (first_ranked scores m) there where
  there : (h : Hit) → In h (first_ranked scores m) → Contains docs h.doc
  there h first = by (cases_lt h.score (score_to_pass last h.doc)) enough where
    own : Own scores h
    own = all_at (Own scores) (first_ranked scores m) h (first_own scores m) first

    by : (h.score < score_to_pass last h.doc) ⊎ (score_to_pass last h.doc ≤ h.score) → LetsPass last scores m → Contains docs h.doc
    by (inr high) k = known h.doc (record { inside = own.0; passed = (let b = own.2 in omega arith) })
    by (inl low) (inl none) = absurd (let a = own.1 in let one = ap (λ (w : Hit). score_to_pass w h.doc) none ∙ any_passes h.doc in omega arith)
    by (inl low) (inr many) =
        absurd (let few = few_if_first scores m h first in let less = fewer_ahead last h (pass_ahead last h.doc h.score low) (hits_from 0 scores) in omega (arith, few, less, many))

-- ---- past the hit after the first k

behind_those : (t y : Hit) → is_gt (rank_cmp t y) ≡ true → is_gt (rank_cmp (just_behind (Some t)) y) ≡ true
behind_those t y ahead_of = grind (arith, nat_tests)

behind_it : (t : Hit) → is_gt (rank_cmp (just_behind (Some t)) t) ≡ true
behind_it t = grind (arith, nat_tests)

pass_high : (t : Hit) (doc score : ℕ) → score_to_pass (just_behind (Some t)) doc ≤ score → (is_gt (rank_cmp (record { doc = doc; score = score }) t) ≡ false) × (t.score ≤ score)
pass_high t doc score high = by (cases_lt doc (t.doc + 1)) where
  by : (doc < t.doc + 1) ⊎ (t.doc + 1 ≤ doc) → (is_gt (rank_cmp (record { doc = doc; score = score }) t) ≡ false) × (t.score ≤ score)
  by (inl under) =
      let b : nat_lt doc (t.doc + 1) ≡ true = grind (arith, nat_tests) in
      let s : t.score ≤ score = subst (λ (b : Bool). cond b t.score (t.score + 1) ≤ score) b high in
      (grind (arith, nat_tests), s)
  by (inr over) =
      let b : nat_lt doc (t.doc + 1) ≡ false = grind (arith, nat_tests) in
      let s : t.score + 1 ≤ score = subst (λ (b : Bool). cond b t.score (t.score + 1) ≤ score) b high in
      (grind (arith, nat_tests), omega arith)

module _ (scores : List ℕ) (k : ℕ) (t : Hit) (is : runner_up scores k ≡ Some t) where
  within : k < length (first_ranked scores (k + 1))
  within = slice_get_within (first_ranked scores (k + 1)) k t is

  at : get_or (first_ranked scores (k + 1)) k t ≡ t
  at = get_or_from_slice_get (first_ranked scores (k + 1)) k t t is

  last_there : In t (first_ranked scores (k + 1))
  last_there = in_from_contains (first_ranked scores (k + 1)) t (k, within, at)

  pub last_own : Own scores t
  last_own = all_at (Own scores) (first_ranked scores (k + 1)) t (first_own scores (k + 1)) last_there

  each_passes : AllByRecursion (λ y. is_gt (rank_cmp (just_behind (Some t)) y) ≡ true) (first_ranked scores (k + 1))
  each_passes = all_by_index (λ y. is_gt (rank_cmp (just_behind (Some t)) y) ≡ true) t (first_ranked scores (k + 1)) (λ i inside. by i inside (cases_eq i k)) where
    by : (i : ℕ) → i < length (first_ranked scores (k + 1)) → (i ≡ k) ⊎ (i ≡ k → ⊥) → is_gt (rank_cmp (just_behind (Some t)) (get_or (first_ranked scores (k + 1)) i t)) ≡ true
    by i inside (inl e) = subst (λ (y : Hit). is_gt (rank_cmp (just_behind (Some t)) y) ≡ true) (sym (ap (λ j. get_or (first_ranked scores (k + 1)) j t) e ∙ at)) (behind_it t)
    by i inside (inr apart) =
        let size = length-take (k + 1) (sorted rank_cmp (hits_from 0 scores)) in
        behind_those t (get_or (first_ranked scores (k + 1)) i t) (subst (λ (y : Hit). is_gt (rank_cmp y (get_or (first_ranked scores (k + 1)) i t)) ≡ true) at
        (order_index (first_ranked scores (k + 1)) (first_in_order scores (k + 1)) i k t (omega arith) within))

  pub enough_pass : k + 1 ≤ sum_by (ahead (just_behind (Some t))) (hits_from 0 scores)
  enough_pass =
      let a = all_ahead (just_behind (Some t)) (first_ranked scores (k + 1)) each_passes in
      let b = sum_by-take-le (ahead (just_behind (Some t))) (sorted rank_cmp (hits_from 0 scores)) (k + 1) in
      let c = sum_by-sorted rank_cmp (ahead (just_behind (Some t))) (hits_from 0 scores) in
      omega (arith, a, b, c, within)

  pub first_if_passes : (doc : ℕ) → Passes (just_behind (Some t)) scores doc → In (record { doc = doc; score = get_or scores doc 0 }) (first_ranked scores (k + 1))
  first_if_passes doc passes =
      let ranks = pass_high t doc (get_or scores doc 0) passes.passed in
      first_if_few scores (k + 1) (record { doc = doc; score = get_or scores doc 0 }) (passes.inside, (let a = last_own.1 in let b = ranks.1 in omega arith), refl)
      (let few = few_if_first scores (k + 1) t last_there in
      let less = fewer_ahead (record { doc = doc; score = get_or scores doc 0 }) t ranks.0 (hits_from 0 scores) in omega arith)

few_first : (scores : List ℕ) (k : ℕ) → runner_up scores k ≡ None → length (first_ranked scores (k + 1)) ≤ k
few_first scores k is = by (slice_get_cases (first_ranked scores (k + 1)) k).1 where
  none : (x : Hit) → None ≡ Some x → ⊥
  none x e = cc

  by : ((x : Hit) × (k < length (first_ranked scores (k + 1))) × (slice_get (first_ranked scores (k + 1)) k ≡ Some x) × (get_or (first_ranked scores (k + 1)) k x ≡ x))
      ⊎ ((length (first_ranked scores (k + 1)) ≤ k) × (slice_get (first_ranked scores (k + 1)) k ≡ None)) → length (first_ranked scores (k + 1)) ≤ k
  by (inl there) = absurd (none there.0 (sym is ∙ there.2))
  by (inr there) = there.0

module _ (scores : List ℕ) (k : ℕ) where
  pub pass_first : (doc : ℕ) → Passes (just_behind (runner_up scores k)) scores doc → In (record { doc = doc; score = get_or scores doc 0 }) (first_ranked scores (k + 1))
  pass_first doc = by (runner_up scores k) refl where
    by : (o : Option Hit) → runner_up scores k ≡ o → Passes (just_behind o) scores doc → In (record { doc = doc; score = get_or scores doc 0 }) (first_ranked scores (k + 1))
    by (Some t) is passes = first_if_passes scores k t is doc passes
    by None is passes =
        let one = any_passes doc in let high = passes.passed in
        first_of_few scores (k + 1) (record { doc = doc; score = get_or scores doc 0 }) (passes.inside, omega (arith, one, high), refl) (let few = few_first scores k is in omega arith)

  pub first_passes : (h : Hit) → In h (first_ranked scores (k + 1)) → Passes (just_behind (runner_up scores k)) scores h.doc
  first_passes h there = by (runner_up scores k) refl where
    own : Own scores h
    own = all_at (Own scores) (first_ranked scores (k + 1)) h (first_own scores (k + 1)) there

    by : (o : Option Hit) → runner_up scores k ≡ o → Passes (just_behind o) scores h.doc
    by (Some t) is = record {
      inside = own.0;
      passed = omega (arith, own.2, passes_behind (just_behind (Some t)) h (all_at (λ y. is_gt (rank_cmp (just_behind (Some t)) y) ≡ true) (first_ranked scores (k + 1)) h (each_passes scores k t is) there));
    }
    by None is = record { inside = own.0; passed = omega (arith, own.1, own.2, any_passes h.doc) }

  pub some_to_pass : (doc : ℕ) → 1 ≤ score_to_pass (just_behind (runner_up scores k)) doc
  some_to_pass doc = by (runner_up scores k) refl where
    low : (b : Bool) (n : ℕ) → 1 ≤ n → 1 ≤ cond b n (n + 1)
    low true n some = some
    low false n some = omega arith

    by : (o : Option Hit) → runner_up scores k ≡ o → 1 ≤ score_to_pass (just_behind o) doc
    by (Some t) is = low (nat_lt doc (t.doc + 1)) t.score (last_own scores k t is).1
    by None is = let one = any_passes doc in omega arith

  pub lets_pass : LetsPass (just_behind (runner_up scores k)) scores (k + 1)
  lets_pass = by (runner_up scores k) refl where
    by : (o : Option Hit) → runner_up scores k ≡ o → LetsPass (just_behind o) scores (k + 1)
    by (Some t) is = inr (enough_pass scores k t is)
    by None is = inl refl

  pub next_inside : IfSome (runner_up scores k) (λ (hit : Hit). hit.doc < length scores)
  next_inside = by (runner_up scores k) refl where
    by : (o : Option Hit) → runner_up scores k ≡ o → IfSome o (λ (hit : Hit). hit.doc < length scores)
    by (Some t) is = (last_own scores k t is).0
    by None is = tt
