-- An answer is sharply final exactly where all others are out and no two hits can change places.
use Rattle.shared_lemmas.proofs.Common.{◌≡◌, ◌≢◌, ℕ, zero, suc, ◌+◌, ◌<◌, ◌≤◌, ◌==◌, ◌&&◌, List, [], ◌∷◌, ◌++◌, length, take, drop, filter, get_or, Bool, true, false, not, true≢false, refl, sym, ap, subst, arith, inl, inr, ◌⊎◌, AllPairs, slice_index}
use Rattle.shared_lemmas.proofs.Common.{AllByRecursion, cases_Bool, cases_eq, nat_tests, cond, sum_by-cons}
use Rattle.jass_base.specs.declared.answer.Hit.{Hit}
use Rattle.ranking_model.specs.declared.plan_segment.PlanSegment.{PlanSegment}
use Rattle.ranking_model.specs.declared.plan.QueryPlan.{QueryPlan}
use Rattle.ranking_model.specs.Scores.{rank_cmp, scores_after, bound_after}
use Rattle.shared_lemmas.proofs.Lists.{all_weaker, all_both, all_drop, all_append, all_filter}
use Rattle.shared_lemmas.proofs.Members.{In, all_at, all_in}
use Rattle.shared_lemmas.proofs.Pairs.{Pairs, pairs_by_recursion, pairs_by_places, pairs_weaker, pairs_both}
use Rattle.ranking_model.proofs.Sorting.{Ascends, ascends_pairs, all_sorted}
use Rattle.ranking_model.proofs.Candidates.{ascends_take, take_before_drop, in_sorted, in_part, count_doc}
use Rattle.ranking_model.proofs.Documents.{scores_all}
use Rattle.final_certificate.specs.Rule.{gained, is_safe}
use Rattle.final_certificate.proofs.Lifting.{is_scored, is_unscored, documents_from, documents_below}
use Rattle.final_certificate.proofs.Edges.{Leads, leads_trans, gained_leads, leads_safe, safe_leads, ranked, front, others, parted}
use Rattle.final_certificate.proofs.Refuting.{count_own, same_hit, outside}
use Rattle.final_certificate.proofs.Deciding.{of_scores, score_at, trues, once, first_is, ranked_ascends, front_true, settled_at_zero}
use Rattle.sharp_bounds.specs.Unseen.{unseen_bounds}
use Rattle.sharp_bounds.specs.Sharpness.{IsSharpFinal}
use Rattle.sharp_bounds.specs.Rule.{AreLimits, are_safe_within, is_sharp}
use Rattle.sharp_bounds.specs.Out.{standing, reaching, IsBefore, IsApart, IsOut, AreOthersOut, AreHitsApart}
use Rattle.sharp_bounds.proofs.Settling.{AheadWithin, Parts, parts_of_rule, settled_by_parts, limit_small}
use Rattle.sharp_bounds.proofs.Changing.{none_there, one_there}
use Rattle.sharp_bounds.proofs.Reaching.{are_limits}
use Rattle.sharp_bounds.proofs.Sharp.{final_is_sharp, not_sharp}
use Rattle.sharp_bounds.proofs.Out.{before_leads, unscored_in}

-- ---- the hits

-- each is ahead of all behind it, whatever these gain
chain_pairs : (limit : ℕ → ℕ) (xs : List Hit) → Ascends rank_cmp xs → are_safe_within limit xs ≡ true → Pairs (λ a b. Leads a (gained (limit b.doc) b)) xs
chain_pairs limit [] order safe = tt
chain_pairs limit (a ∷ []) order safe = (tt, tt)
chain_pairs limit (a ∷ b ∷ xs) order safe =
    let two = and_two (is_safe (limit b.doc) a b) (are_safe_within limit (b ∷ xs)) safe in
    let rest = chain_pairs limit (b ∷ xs) order.1 two.1 in
    ((safe_leads (limit b.doc) a b two.0, all_weaker (λ y. Leads b (gained (limit y.doc) y)) (λ y. Leads a (gained (limit y.doc) y)) (λ y l. leads_trans a b (gained (limit y.doc) y) order.0.0 l) xs rest.0), rest)
  where
    and_two : (p q : Bool) → (p && q) ≡ true → (p ≡ true) × (q ≡ true)
    and_two true q h = (refl, h)
    and_two false q h = absurd (true≢false (sym h))

still_pairs : (limit : ℕ → ℕ) → ((d : ℕ) → limit d ≡ 0) → (xs : List Hit) → Ascends rank_cmp xs → Pairs (λ a b. Leads a (gained (limit b.doc) b)) xs
still_pairs limit none xs order = pairs_weaker (λ a b. Leads a b) (λ a b. Leads a (gained (limit b.doc) b)) (λ a b l. subst (λ (h : Hit). Leads a h) (same_hit b (gained (limit b.doc) b) refl (let z = none b.doc in omega arith)) l) xs (ascends_pairs rank_cmp xs order)

apart_docs : (xs : List Hit) → ((z : ℕ) → count_doc z xs ≤ 1) → Pairs (λ (a b : Hit). a.doc ≢ b.doc) xs
apart_docs [] few = tt
apart_docs (x ∷ xs) few = (
  all_weaker (λ (h : Hit). h.doc ≢ x.doc) (λ (h : Hit). x.doc ≢ h.doc) (λ h apart e. apart (sym e)) xs (none_there x.doc xs (let n = count_own x.doc x xs refl in let f = few x.doc in omega arith)),
  apart_docs xs (λ z. let s = sum_by-cons (λ (h : Hit). cond (h.doc == z) 1 0) x xs in let f = few z in omega arith),
)

both_true : (P : Hit → Type 0) (xs : List Hit) → AllByRecursion P xs → Pairs (λ a b. P a × P b) xs
both_true P [] h = tt
both_true P (x ∷ xs) h = (all_weaker P (λ b. P x × P b) (λ b k. (h.0, k)) xs h.1, both_true P xs h.1)

module _ (n k : ℕ) (plan : QueryPlan) (weights : AllByRecursion (λ (c : PlanSegment). 1 ≤ c.weight) plan.segments) where
  abbrev all : List Hit
  all = of_scores (scores_after n plan)

  abbrev limit : ℕ → ℕ
  limit = slice_index (unseen_bounds n plan)

  abbrev True : Hit → Type 0
  True h = h.score ≡ score_at (scores_after n plan) h.doc

  limits : AreLimits (bound_after n plan) (scores_after n plan) (unseen_bounds n plan)
  limits = are_limits n plan weights

  many : length (scores_after n plan) ≡ plan.docs
  many = scores_all n plan

  order : Ascends rank_cmp (front all k)
  order = ascends_take rank_cmp k (ranked all) (ranked_ascends (scores_after n plan))

  few : (z : ℕ) → count_doc z (front all k) ≤ 1
  few z = let s = parted all k (λ (h : Hit). cond (h.doc == z) 1 0) in let o = once (scores_after n plan) z in omega arith

  -- a hit as it stands, and with its limit
  is_standing : (h : Hit) → True h → standing n plan h.doc ≡ h
  is_standing h is = same_hit (standing n plan h.doc) h refl (sym is)

  is_reaching : (h : Hit) → True h → gained (limit h.doc) h ≡ reaching n plan h.doc
  is_reaching h is = same_hit (gained (limit h.doc) h) (reaching n plan h.doc) refl (ap (λ s. s + get_or (unseen_bounds n plan) h.doc 0) is)

  no_limits : bound_after n plan ≡ 0 → (d : ℕ) → limit d ≡ 0
  no_limits none d = let l = limit_small (bound_after n plan) (unseen_bounds n plan) limits.within d in omega arith

  -- ---- from all gains

  tells : IsSharpFinal n plan k → (bound_after n plan ≡ 0) ⊎ Parts (scores_after n plan) (unseen_bounds n plan) k (bound_after n plan)
  tells sharp = by (cases_Bool (is_sharp n plan k)) where
    by : (is_sharp n plan k ≡ true) ⊎ (is_sharp n plan k ≡ false) → (bound_after n plan ≡ 0) ⊎ Parts (scores_after n plan) (unseen_bounds n plan) k (bound_after n plan)
    by (inl t) = parts_of_rule (scores_after n plan) (unseen_bounds n plan) k (bound_after n plan) limits t
    by (inr f) = absurd (not_sharp plan k weights n f sharp)

  pub hits_apart : IsSharpFinal n plan k → AreHitsApart n plan k
  hits_apart sharp = subst (λ (l : List Hit). AllPairs (λ (a b : Hit). IsApart n plan a.doc b.doc ⊎ IsApart n plan b.doc a.doc) l) (sym (first_is (scores_after n plan) k))
      (pairs_by_places (λ (a b : Hit). IsApart n plan a.doc b.doc ⊎ IsApart n plan b.doc a.doc) (front all k)
      (pairs_weaker (λ (a b : Hit). Leads a (gained (limit b.doc) b) × ((a.doc ≢ b.doc) × (True a × True b))) (λ (a b : Hit). IsApart n plan a.doc b.doc ⊎ IsApart n plan b.doc a.doc) (λ a b h. inl (one a b h.0 h.1.0 h.1.1.0 h.1.1.1)) (front all k)
      (pairs_both (λ (a b : Hit). Leads a (gained (limit b.doc) b)) (λ (a b : Hit). (a.doc ≢ b.doc) × (True a × True b)) (front all k) (chained (tells sharp))
      (pairs_both (λ (a b : Hit). a.doc ≢ b.doc) (λ (a b : Hit). True a × True b) (front all k) (apart_docs (front all k) few) (both_true True (front all k) (front_true (scores_after n plan) k))))))
    where
      chained : (bound_after n plan ≡ 0) ⊎ Parts (scores_after n plan) (unseen_bounds n plan) k (bound_after n plan) → Pairs (λ a b. Leads a (gained (limit b.doc) b)) (front all k)
      chained (inl none) = still_pairs limit (no_limits none) (front all k) order
      chained (inr parts) = chain_pairs limit (front all k) order parts.safe

      one : (a b : Hit) → Leads a (gained (limit b.doc) b) → a.doc ≢ b.doc → True a → True b → IsApart n plan a.doc b.doc
      one a b leads apart a_true b_true = subst (λ (h : Hit). IsBefore (standing n plan a.doc) h) (is_reaching b b_true)
          (subst (λ (h : Hit). IsBefore h (gained (limit b.doc) b)) (sym (is_standing a a_true)) (leads_safe (limit b.doc) a b apart leads))

  -- a document that isn't a hit is among the others
  among_others : (doc : ℕ) → doc < plan.docs → AllByRecursion (λ (h : Hit). h.doc ≢ doc) (front all k)
      → In (standing n plan doc) (drop k (ranked all)) ⊎ ((get_or (scores_after n plan) doc 0 ≡ 0) × In (standing n plan doc) (filter is_unscored all))
  among_others doc inside apart = by (cases_eq (get_or (scores_after n plan) doc 0) 0) where
    here : 0 + doc ≡ doc
    here = omega arith

    scored_in : (from i : ℕ) (s : List ℕ) → i < length s → 1 ≤ get_or s i 0 → In (record { doc = from + i; score = get_or s i 0 }) (filter is_scored (documents_from from s))
    scored_in from i [] inside some = absurd (omega arith)
    scored_in from zero (s ∷ ss) inside some =
        let f : (s == 0) ≡ false = grind (arith, nat_tests, some) in
        let d : from + 0 ≡ from = omega arith in
        rw f (inl (λ i. record { doc = d i; score = s }))
    scored_in from (suc i) (s ∷ ss) inside some = step (not (s == 0)) (subst (λ d. In (record { doc = d; score = get_or ss i 0 }) (filter is_scored (documents_from (from + 1) ss))) (omega arith) (scored_in (from + 1) i ss (omega arith) some)) where
      step : (b : Bool) → In (record { doc = from + suc i; score = get_or ss i 0 }) (filter is_scored (documents_from (from + 1) ss))
          → In (record { doc = from + suc i; score = get_or ss i 0 }) (cond b (record { doc = from; score = s } ∷ filter is_scored (documents_from (from + 1) ss)) (filter is_scored (documents_from (from + 1) ss)))
      step true rest = inr rest
      step false rest = rest

    by : (get_or (scores_after n plan) doc 0 ≡ 0) ⊎ (get_or (scores_after n plan) doc 0 ≡ 0 → ⊥) → In (standing n plan doc) (drop k (ranked all)) ⊎ ((get_or (scores_after n plan) doc 0 ≡ 0) × In (standing n plan doc) (filter is_unscored all))
    by (inl none) =
        let there = subst (λ d. In (record { doc = d; score = 0 }) (filter is_unscored all)) here (unscored_in 0 doc (scores_after n plan) (omega (arith, inside, many)) none) in
        inr (none, subst (λ s. In (record { doc = doc; score = s }) (filter is_unscored all)) (sym none) there)
    by (inr some) =
        let there = subst (λ d. In (record { doc = d; score = get_or (scores_after n plan) doc 0 }) (filter is_scored all)) here (scored_in 0 doc (scores_after n plan) (omega (arith, inside, many)) (grind (arith, nat_tests, some))) in
        elim (in_part (standing n plan doc) k (ranked all) (in_sorted rank_cmp (standing n plan doc) (filter is_scored all) there)) [
          | inl hit ↦ absurd (all_at (λ (h : Hit). h.doc ≢ doc) (front all k) (standing n plan doc) apart hit refl)
          | inr behind ↦ inl behind
        ]

  in_append : (x : Hit) (xs ys : List Hit) → In x xs ⊎ In x ys → In x (xs ++ ys)
  in_append x [] ys (inl h) = absurd h
  in_append x [] ys (inr h) = h
  in_append x (y ∷ xs) ys (inl (inl e)) = inl e
  in_append x (y ∷ xs) ys (inl (inr h)) = inr (in_append x xs ys (inl h))
  in_append x (y ∷ xs) ys (inr h) = inr (in_append x xs ys (inr h))

  some_behind : (x : Hit) (m : ℕ) (xs : List Hit) → In x (drop m xs) → length (take m xs) ≡ m
  some_behind x zero xs h = refl
  some_behind x (suc m) [] h = absurd h
  some_behind x (suc m) (y ∷ xs) h = let rest = some_behind x m xs h in omega arith

  pub others_out : IsSharpFinal n plan k → AreOthersOut n plan k
  others_out sharp doc inside no_hit some = by (tells sharp) (among_others doc inside apart) where
    apart : AllByRecursion (λ (h : Hit). h.doc ≢ doc) (front all k)
    apart = subst (λ (l : List Hit). AllByRecursion (λ (h : Hit). h.doc ≢ doc) l) (first_is (scores_after n plan) k) no_hit

    -- k hits that lead the document's reach
    out : length (front all k) ≡ k → AllByRecursion (λ a. Leads a (gained (limit doc) (standing n plan doc))) (front all k) → IsOut n plan k doc
    out full leads = record {
      full = subst (λ (l : List Hit). length l ≡ k) (sym (first_is (scores_after n plan) k)) full;
      behind = subst (λ (l : List Hit). AllByRecursion (λ hit. IsBefore hit (reaching n plan doc)) l) (sym (first_is (scores_after n plan) k))
          (all_weaker (λ (a : Hit). Leads a (gained (limit doc) (standing n plan doc)) × (a.doc ≢ doc)) (λ hit. IsBefore hit (reaching n plan doc)) (λ a h. leads_safe (limit doc) a (standing n plan doc) h.1 h.0) (front all k)
          (all_both (λ a. Leads a (gained (limit doc) (standing n plan doc))) (λ (a : Hit). a.doc ≢ doc) (front all k) leads apart));
    }

    from_ahead : AheadWithin limit (front all k) (others all k) → In (standing n plan doc) (others all k) → AllByRecursion (λ a. Leads a (gained (limit doc) (standing n plan doc))) (front all k)
    from_ahead ahead there = all_weaker (λ a. AllByRecursion (λ b. Leads a (gained (limit b.doc) b)) (others all k)) (λ a. Leads a (gained (limit doc) (standing n plan doc)))
        (λ a h. all_at (λ b. Leads a (gained (limit b.doc) b)) (others all k) (standing n plan doc) h there) (front all k) ahead

    by : (bound_after n plan ≡ 0) ⊎ Parts (scores_after n plan) (unseen_bounds n plan) k (bound_after n plan)
        → In (standing n plan doc) (drop k (ranked all)) ⊎ ((get_or (scores_after n plan) doc 0 ≡ 0) × In (standing n plan doc) (filter is_unscored all)) → IsOut n plan k doc
    by (inl none) (inr un) = absurd (omega (arith, some, un.0, no_limits none doc))
    by (inl none) (inl there) = out (some_behind (standing n plan doc) k (ranked all) there)
        (all_weaker (λ a. AllByRecursion (λ b. Leads a b) (drop k (ranked all))) (λ a. Leads a (gained (limit doc) (standing n plan doc)))
        (λ a h. subst (λ (g : Hit). Leads a g) (same_hit (standing n plan doc) (gained (limit doc) (standing n plan doc)) refl (let z = no_limits none doc in omega arith)) (all_at (λ b. Leads a b) (drop k (ranked all)) (standing n plan doc) h there))
        (front all k) (take_before_drop rank_cmp k (ranked all) (ranked_ascends (scores_after n plan))))
    by (inr parts) where_is = by_full parts.full where
      there : In (standing n plan doc) (others all k)
      there = elim where_is [ inl h ↦ in_append (standing n plan doc) (drop k (ranked all)) (filter is_unscored all) (inl h) | inr h ↦ in_append (standing n plan doc) (drop k (ranked all)) (filter is_unscored all) (inr h.1) ]

      by_full : (length (front all k) ≡ k) ⊎ (others all k ≡ []) → IsOut n plan k doc
      by_full (inl full) = out full (from_ahead parts.ahead there)
      by_full (inr empty) = absurd (subst (λ (l : List Hit). In (standing n plan doc) l) empty there)

  -- ---- to all gains

  -- a hit that ranks before another isn't apart from it the other way round
  not_back : (a b : Hit) (gain : ℕ) → Leads a b → IsBefore b (gained gain a) → ⊥
  not_back a b gain leads before = twice a b leads (before_leads b (gained gain a) a before (gained_leads gain a)) where
    twice : (a b : Hit) → Leads a b → IsBefore b a → ⊥
    twice a b l k = grind (arith, nat_tests)

  safe_pairs : (xs : List Hit) → Ascends rank_cmp xs → AllByRecursion True xs → Pairs (λ (a b : Hit). IsApart n plan a.doc b.doc ⊎ IsApart n plan b.doc a.doc) xs → are_safe_within limit xs ≡ true
  safe_pairs [] order is apart = refl
  safe_pairs (a ∷ []) order is apart = refl
  safe_pairs (a ∷ b ∷ xs) order is apart = let first = safe apart.0.0 in let rest = safe_pairs (b ∷ xs) order.1 is.1 apart.1 in rw (first, rest) refl where
    safe : IsApart n plan a.doc b.doc ⊎ IsApart n plan b.doc a.doc → is_safe (limit b.doc) a b ≡ true
    safe (inl before) = subst (λ (h : Hit). IsBefore h (gained (limit b.doc) b)) (is_standing a is.0) (subst (λ (h : Hit). IsBefore (standing n plan a.doc) h) (sym (is_reaching b is.1.0)) before)
    safe (inr back) = absurd (not_back a b (limit a.doc) order.0.0 (subst (λ (h : Hit). IsBefore h (gained (limit a.doc) a)) (is_standing b is.1.0) (subst (λ (h : Hit). IsBefore (standing n plan b.doc) h) (sym (is_reaching a is.0)) back)))

  abbrev Other : Hit → Type 0
  Other o = True o × (o.doc < length (scores_after n plan))

  others_are : AllByRecursion Other (others all k)
  others_are = all_append Other (drop k (ranked all)) (filter is_unscored all) (all_drop Other k (ranked all) (all_sorted rank_cmp Other (filter is_scored all) (all_filter Other is_scored all own))) (all_filter Other is_unscored all own) where
    own : AllByRecursion Other all
    own = all_both True (λ (o : Hit). o.doc < length (scores_after n plan)) all (trues (scores_after n plan)) (documents_below 0 (length (scores_after n plan)) (scores_after n plan) (omega arith))

  pub sharp_by_hits : AreOthersOut n plan k → AreHitsApart n plan k → IsSharpFinal n plan k
  sharp_by_hits outs aparts = by (cases_eq (bound_after n plan) 0) where
    pairs : Pairs (λ (a b : Hit). IsApart n plan a.doc b.doc ⊎ IsApart n plan b.doc a.doc) (front all k)
    pairs = pairs_by_recursion (λ (a b : Hit). IsApart n plan a.doc b.doc ⊎ IsApart n plan b.doc a.doc) (front all k) (subst (λ (l : List Hit). AllPairs (λ (a b : Hit). IsApart n plan a.doc b.doc ⊎ IsApart n plan b.doc a.doc) l) (first_is (scores_after n plan) k) aparts)

    safe : are_safe_within limit (front all k) ≡ true
    safe = safe_pairs (front all k) order (front_true (scores_after n plan) k) pairs

    out_of : (bound_after n plan ≡ 0 → ⊥) → (o : Hit) → In o (others all k) → IsOut n plan k o.doc
    out_of some o there = outs o.doc (omega (arith, own.1, many)) (subst (λ (l : List Hit). AllByRecursion (λ (h : Hit). h.doc ≢ o.doc) l) (sym (first_is (scores_after n plan) k)) apart) (reach (cases_eq (get_or (scores_after n plan) o.doc 0) 0)) where
      own : Other o
      own = all_at Other (others all k) o others_are there

      apart : AllByRecursion (λ (h : Hit). h.doc ≢ o.doc) (front all k)
      apart = none_there o.doc (front all k) (outside all k o.doc (once (scores_after n plan)) (one_there o (others all k) there))

      reach : (get_or (scores_after n plan) o.doc 0 ≡ 0) ⊎ (get_or (scores_after n plan) o.doc 0 ≡ 0 → ⊥) → 1 ≤ (reaching n plan o.doc).score
      reach (inl none) = let whole = limits.untouched o.doc own.1 none in let b : 1 ≤ bound_after n plan = grind (arith, nat_tests, some) in omega (arith, whole, b)
      reach (inr touched) = let s : 1 ≤ get_or (scores_after n plan) o.doc 0 = grind (arith, nat_tests, touched) in omega (arith, s)

    led : (bound_after n plan ≡ 0 → ⊥) → (o : Hit) → In o (others all k) → AllByRecursion (λ a. Leads a (gained (limit o.doc) o)) (front all k)
    led some o there = all_weaker (λ hit. IsBefore hit (reaching n plan o.doc)) (λ a. Leads a (gained (limit o.doc) o))
        (λ a before. safe_leads (limit o.doc) a o (subst (λ (h : Hit). IsBefore a h) (sym (is_reaching o (all_at Other (others all k) o others_are there).0)) before)) (front all k)
        (subst (λ (l : List Hit). AllByRecursion (λ hit. IsBefore hit (reaching n plan o.doc)) l) (first_is (scores_after n plan) k) (out_of some o there).behind)

    full : (bound_after n plan ≡ 0 → ⊥) → (xs : List Hit) → others all k ≡ xs → (length (front all k) ≡ k) ⊎ (others all k ≡ [])
    full some [] is = inr is
    full some (o ∷ xs) is = inl (subst (λ (l : List Hit). length l ≡ k) (first_is (scores_after n plan) k) (out_of some o (subst (λ (l : List Hit). In o l) (sym is) (inl refl))).full)

    by : (bound_after n plan ≡ 0) ⊎ (bound_after n plan ≡ 0 → ⊥) → IsSharpFinal n plan k
    by (inl none) = final_is_sharp n k plan (settled_at_zero (scores_after n plan) k (bound_after n plan) none)
    by (inr some) = settled_by_parts (scores_after n plan) (unseen_bounds n plan) k (bound_after n plan) limits (full some (others all k) refl)
        (all_in (λ a. AllByRecursion (λ b. Leads a (gained (limit b.doc) b)) (others all k)) (front all k) (λ a in_front. all_in (λ b. Leads a (gained (limit b.doc) b)) (others all k) (λ b there. all_at (λ a. Leads a (gained (limit b.doc) b)) (front all k) a (led some b there) in_front))) safe
