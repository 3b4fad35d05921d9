-- Where the hits are safe within their limits and nobody else can enter, no gains within the limits change an answer.
use Rattle.shared_lemmas.proofs.Common.{◌≡◌, ℕ, zero, suc, ◌≤◌, ◌==◌, ◌&&◌, ◌||◌, List, [], ◌∷◌, ◌++◌, length, map, drop, filter, get_or, Bool, true, false, refl, sym, ap, subst, ◌∙◌, arith, inl, inr, ◌⊎◌, Some, Option, nat_lt}
use Rattle.shared_lemmas.proofs.Common.{AllByRecursion, AllZip, and_parts, cases_Bool, ltb-true, ltb-false, eqb-true, slice_index}
use Rattle.std.specs.Option.{is_none}
use Rattle.jass_base.specs.declared.answer.Hit.{Hit}
use Rattle.ranking_model.specs.Order.{sorted}
use Rattle.ranking_model.specs.Scores.{rank_cmp, first_ranked, least_untouched}
use Rattle.ranking_model.specs.Finality.{raised, first_documents, IsSettledWithin}
use Rattle.shared_lemmas.proofs.Lists.{all_weaker, all_map}
use Rattle.ranking_model.proofs.Sorting.{Ascends}
use Rattle.ranking_model.proofs.Orders.{rank_total, rank_same}
use Rattle.ranking_model.proofs.Candidates.{ascends_take}
use Rattle.final_certificate.specs.Rule.{gained, is_safe, ends_safe, unscored}
use Rattle.final_certificate.proofs.Lists.{sorted_itself}
use Rattle.final_certificate.proofs.Lifting.{is_unscored, hits_documents, lift, gain_of_doc, gain_is, gains_by_doc}
use Rattle.final_certificate.proofs.Edges.{Leads, leads_trans, leads_itself, gained_leads, more_leads, safe_leads, ranked, front, others, StaysBefore, keeps_by, docs, docs_lift}
use Rattle.final_certificate.proofs.Deciding.{of_scores, first_is, first_raised, ranked_ascends, before_unscored, stays_few, reach, few, settled_at_zero}
use Rattle.final_certificate.proofs.Limits.{bound_of_within}
use Rattle.sharp_bounds.specs.Rule.{AreLimits, are_safe_within, do_untouched_stay, do_others_stay, ranked_behind, settles}

-- ---- hits within their limits

-- each of the first stays before each of the others, even where that gains its limit
abbrev pub AheadWithin : (ℕ → ℕ) → List Hit → List Hit → Type 0
AheadWithin limit xs ys = AllByRecursion (λ a. AllByRecursion (λ b. Leads a (gained (limit b.doc) b)) ys) xs

module _ (limit gain : ℕ → ℕ) (small : (d : ℕ) → gain d ≤ limit d) where
  pair_leads : (a b : Hit) → Leads a (gained (limit b.doc) b) → Leads (lift gain a) (lift gain b)
  pair_leads a b l = leads_trans (lift gain a) a (lift gain b) (gained_leads (gain a.doc) a) (leads_trans a (gained (limit b.doc) b) (lift gain b) l (more_leads (gain b.doc) (limit b.doc) b (small b.doc)))

  lifted_ahead : (xs ys : List Hit) → AheadWithin limit xs ys → AllByRecursion (λ a. AllByRecursion (λ b. Leads a b) (map (lift gain) ys)) (map (lift gain) xs)
  lifted_ahead xs ys h = all_map (λ a. AllByRecursion (λ b. Leads a b) (map (lift gain) ys)) (lift gain) xs
      (all_weaker (λ a. AllByRecursion (λ b. Leads a (gained (limit b.doc) b)) ys) (λ a. AllByRecursion (λ b. Leads (lift gain a) b) (map (lift gain) ys))
      (λ a k. all_map (λ b. Leads (lift gain a) b) (lift gain) ys (all_weaker (λ b. Leads a (gained (limit b.doc) b)) (λ b. Leads (lift gain a) (lift gain b)) (λ b l. pair_leads a b l) ys k)) xs h)

  -- where each is safe from the next, the new scores keep their order
  chain : (xs : List Hit) → are_safe_within limit xs ≡ true → Ascends rank_cmp (map (lift gain) xs)
  chain [] h = tt
  chain (a ∷ []) h = (tt, tt)
  chain (a ∷ b ∷ xs) h =
      let two = and_parts (is_safe (limit b.doc) a b) (are_safe_within limit (b ∷ xs)) h in
      let rest = chain (b ∷ xs) two.1 in
      let step : Leads (lift gain a) (lift gain b) = pair_leads a b (safe_leads (limit b.doc) a b two.0) in
      ((step, all_weaker (λ y. Leads (lift gain b) y) (λ y. Leads (lift gain a) y) (λ y l. leads_trans (lift gain a) (lift gain b) y step l) (map (lift gain) xs) rest.0), rest)

  pub keeps_order_within : (all : List Hit) (k : ℕ) → (length (front all k) ≡ k) ⊎ (others all k ≡ []) → AheadWithin limit (front all k) (others all k)
      → are_safe_within limit (front all k) ≡ true → docs (front (map (lift gain) all) k) ≡ docs (front all k)
  keeps_order_within all k full above safe =
      ap docs (keeps_by all k gain full (lifted_ahead (front all k) (others all k) above))
      ∙ ap docs (sorted_itself rank_cmp rank_total rank_same (map (lift gain) (front all k)) (chain (front all k) safe)) ∙ docs_lift gain (front all k)

-- ---- who else may enter

ahead_nothing : (limit : ℕ → ℕ) (xs : List Hit) → AheadWithin limit xs []
ahead_nothing limit [] = tt
ahead_nothing limit (x ∷ xs) = (tt, ahead_nothing limit xs)

ahead_more : (limit : ℕ → ℕ) (xs : List Hit) (b : Hit) (ys : List Hit) → StaysBefore (limit b.doc) xs (b ∷ []) → AheadWithin limit xs ys → AheadWithin limit xs (b ∷ ys)
ahead_more limit [] b ys h k = tt
ahead_more limit (x ∷ xs) b ys h k = ((h.0.0, k.0), ahead_more limit xs b ys h.1 k.1)

ahead_both : (limit : ℕ → ℕ) (xs ys zs : List Hit) → AheadWithin limit xs ys → AheadWithin limit xs zs → AheadWithin limit xs (ys ++ zs)
ahead_both limit xs [] zs a b = b
ahead_both limit xs (y ∷ ys) zs a b = put xs (ahead_both limit xs ys zs (rest xs a) b) a where
  rest : (xs : List Hit) → AheadWithin limit xs (y ∷ ys) → AheadWithin limit xs ys
  rest [] h = tt
  rest (x ∷ xs) h = (h.0.1, rest xs h.1)

  put : (xs : List Hit) → AheadWithin limit xs (ys ++ zs) → AheadWithin limit xs (y ∷ ys) → AheadWithin limit xs (y ∷ (ys ++ zs))
  put [] h k = tt
  put (x ∷ xs) h k = ((k.0.0, h.0), put xs h.1 k.1)

ahead_others : (limit : ℕ → ℕ) (xs ys : List Hit) → Ascends rank_cmp xs → do_others_stay limit xs ys ≡ true → AheadWithin limit xs ys
ahead_others limit xs [] asc h = ahead_nothing limit xs
ahead_others limit xs (b ∷ ys) asc h =
    let two = and_parts (ends_safe (limit b.doc) xs (Some b)) (do_others_stay limit xs ys) h in
    ahead_more limit xs b ys (reach (limit b.doc) xs b (b ∷ []) asc two.0 (leads_itself b, tt)) (ahead_others limit xs ys asc two.1)

ahead_bound : (limit : ℕ → ℕ) (bound : ℕ) → ((d : ℕ) → limit d ≤ bound) → (xs ys : List Hit) → StaysBefore bound xs ys → AheadWithin limit xs ys
ahead_bound limit bound small xs ys h =
    all_weaker (λ a. AllByRecursion (λ b. Leads a (gained bound b)) ys) (λ a. AllByRecursion (λ b. Leads a (gained (limit b.doc) b)) ys)
    (λ a k. all_weaker (λ b. Leads a (gained bound b)) (λ b. Leads a (gained (limit b.doc) b)) (λ b l. leads_trans a (gained bound b) (gained (limit b.doc) b) l (more_leads (limit b.doc) bound b (small b.doc))) ys k) xs h

module _ (scores : List ℕ) (k bound : ℕ) (limit : ℕ → ℕ) (small : (d : ℕ) → limit d ≤ bound) where
  abbrev Stays : Type 0
  Stays = ((length (front (of_scores scores) k) ≡ k) ⊎ (others (of_scores scores) k ≡ [])) × AheadWithin limit (front (of_scores scores) k) (others (of_scores scores) k)

  pub stay_within : (least : Option ℕ) → least_untouched scores ≡ least → do_untouched_stay k bound (front (of_scores scores) k) least ≡ true
      → do_others_stay limit (front (of_scores scores) k) (drop k (ranked (of_scores scores))) ≡ true → Stays
  stay_within least is untouched behind = by (cases_Bool (nat_lt (length (front (of_scores scores) k)) k)) untouched where
    by : (nat_lt (length (front (of_scores scores) k)) k ≡ true) ⊎ (nat_lt (length (front (of_scores scores) k)) k ≡ false) → do_untouched_stay k bound (front (of_scores scores) k) least ≡ true → Stays
    by (inl t) h =
        let none : is_none least ≡ true = rw t at h in
        let s = stays_few scores k bound least is (ltb-true _ _ t) none in
        (s.0, ahead_bound limit bound small (front (of_scores scores) k) (others (of_scores scores) k) s.1)
    by (inr f) h =
        let safe : ends_safe bound (front (of_scores scores) k) (unscored least) ≡ true = rw f at h in
        let m = few scores k in let n = ltb-false _ _ f in
        let size : length (front (of_scores scores) k) ≡ k = omega arith in (
          inl size,
          ahead_both limit (front (of_scores scores) k) (drop k (ranked (of_scores scores))) (filter is_unscored (of_scores scores))
              (ahead_others limit (front (of_scores scores) k) (drop k (ranked (of_scores scores))) (ascends_take rank_cmp k (ranked (of_scores scores)) (ranked_ascends scores)) behind)
              (ahead_bound limit bound small (front (of_scores scores) k) (filter is_unscored (of_scores scores)) (before_unscored scores k bound least is safe)),
        )

-- ---- the rule

-- what the rule reads are the hits and those behind them
pub behind_is : (scores : List ℕ) (k : ℕ) → ranked_behind scores k ≡ drop k (ranked (of_scores scores))
behind_is scores k = ap (λ (l : List Hit). drop k (sorted rank_cmp l)) (hits_documents 0 scores)

pub within_at : (gains limits : List ℕ) → AllZip (λ gain limit. gain ≤ limit) gains limits → (d : ℕ) → get_or gains d 0 ≤ get_or limits d 0
within_at [] [] h d = omega arith
within_at [] (l ∷ limits) h d = absurd h
within_at (g ∷ gains) [] h d = absurd h
within_at (g ∷ gains) (l ∷ limits) h zero = h.0
within_at (g ∷ gains) (l ∷ limits) h (suc d) = within_at gains limits h.1 d

pub limit_small : (bound : ℕ) (limits : List ℕ) → AllByRecursion (λ limit. limit ≤ bound) limits → (d : ℕ) → get_or limits d 0 ≤ bound
limit_small bound [] h d = omega arith
limit_small bound (l ∷ limits) h zero = h.0
limit_small bound (l ∷ limits) h (suc d) = limit_small bound limits h.1 d

-- safe hits ahead of all others settle the scores
pub settled_by_parts : (scores limits : List ℕ) (k bound : ℕ) → AreLimits bound scores limits → (length (front (of_scores scores) k) ≡ k) ⊎ (others (of_scores scores) k ≡ [])
    → AheadWithin (slice_index limits) (front (of_scores scores) k) (others (of_scores scores) k) → are_safe_within (slice_index limits) (front (of_scores scores) k) ≡ true → IsSettledWithin scores k limits
settled_by_parts scores limits k bound are full ahead safe gains within =
    let as_bound = bound_of_within bound limits scores gains are.within within in
    ap (λ g. first_documents (raised scores g) k) (gains_by_doc bound scores gains as_bound) ∙ first_raised scores (gain_of_doc gains) k
    ∙ keeps_order_within (slice_index limits) (gain_of_doc gains) (λ d. subst (λ n. n ≤ get_or limits d 0) (sym (gain_is gains d)) (within_at gains limits within.within d)) (of_scores scores) k full ahead safe ∙ sym (ap docs (first_is scores k))

-- what the rule says beside the bound
pub record Parts (scores limits : List ℕ) (k bound : ℕ) : Type 0 where
  pub safe : are_safe_within (slice_index limits) (front (of_scores scores) k) ≡ true
  pub full : (length (front (of_scores scores) k) ≡ k) ⊎ (others (of_scores scores) k ≡ [])
  pub ahead : AheadWithin (slice_index limits) (front (of_scores scores) k) (others (of_scores scores) k)

pub parts_of_rule : (scores limits : List ℕ) (k bound : ℕ) → AreLimits bound scores limits → settles k bound limits scores ≡ true → (bound ≡ 0) ⊎ Parts scores limits k bound
unfolding settles
parts_of_rule scores limits k bound are rule = by (cases_Bool (bound == 0)) rule where
  rest : Bool
  rest = are_safe_within (slice_index limits) (first_ranked scores k) && (do_untouched_stay k bound (first_ranked scores k) (least_untouched scores) && do_others_stay (slice_index limits) (first_ranked scores k) (ranked_behind scores k))

  by : ((bound == 0) ≡ true) ⊎ ((bound == 0) ≡ false) → ((bound == 0) || rest) ≡ true → (bound ≡ 0) ⊎ Parts scores limits k bound
  by (inl t) h = inl (eqb-true bound 0 t)
  by (inr f) h =
      let parts = and_parts _ _ (rw f at h) in
      let more = and_parts _ _ parts.1 in
      let here = first_is scores k in
      let safe = subst (λ (l : List Hit). are_safe_within (slice_index limits) l ≡ true) here parts.0 in
      let untouched = subst (λ (l : List Hit). do_untouched_stay k bound l (least_untouched scores) ≡ true) here more.0 in
      let behind = subst (λ (l : List Hit). do_others_stay (slice_index limits) (front (of_scores scores) k) l ≡ true) (behind_is scores k) (subst (λ (l : List Hit). do_others_stay (slice_index limits) l (ranked_behind scores k) ≡ true) here more.1) in
      let stay = stay_within scores k bound (slice_index limits) (limit_small bound limits are.within) (least_untouched scores) refl untouched behind in
      inr (record { safe = safe; full = stay.0; ahead = stay.1 })

pub settled_by_rule : (scores limits : List ℕ) (k bound : ℕ) → AreLimits bound scores limits → settles k bound limits scores ≡ true → IsSettledWithin scores k limits
settled_by_rule scores limits k bound are rule = by (parts_of_rule scores limits k bound are rule) where
  by : (bound ≡ 0) ⊎ Parts scores limits k bound → IsSettledWithin scores k limits
  by (inl none) = λ gains within. settled_at_zero scores k bound none gains (bound_of_within bound limits scores gains are.within within)
  by (inr parts) = settled_by_parts scores limits k bound are parts.full parts.ahead parts.safe
