-- Where the rule fails, one document that gains its limit changes the answer.
use Rattle.shared_lemmas.proofs.Common.{◌≡◌, ◌≢◌, ℕ, zero, suc, ◌+◌, ◌<◌, ◌≤◌, ◌==◌, ◌&&◌, ◌||◌, List, [], ◌∷◌, length, map, drop, filter, get_or, Bool, true, false, true≢false, cond, refl, sym, ap, subst, ◌∙◌, arith, inl, inr, ◌⊎◌, Some, None, Option, nat_lt, bytes_eq}
use Rattle.shared_lemmas.proofs.Common.{IsPermutation, AllByRecursion, AllZip, cases_Bool, cases_lt, cases_eq, ltb-true, eqb-true, nat_tests, slice_index, IsPermutation-refl, sum_by-append, sum_by-cons, position-Some, bytes_eq-Decides, get_or_past, Decides}
use Rattle.jass_base.specs.declared.answer.Hit.{Hit}
use Rattle.ranking_model.specs.Scores.{rank_cmp, first_ranked, least_untouched}
use Rattle.shared_lemmas.proofs.Lists.{all_weaker, all_both, all_drop}
use Rattle.shared_lemmas.proofs.Members.{In, all_at, all_in}
use Rattle.ranking_model.proofs.Sorting.{Ascends}
use Rattle.ranking_model.proofs.Candidates.{take_before_drop, count_doc}
use Rattle.final_certificate.specs.Rule.{gained, ends_safe}
use Rattle.final_certificate.proofs.Lifting.{is_unscored, lift, gains_by}
use Rattle.final_certificate.proofs.Edges.{Leads, leads_safe, ranked, front, others, parted, docs}
use Rattle.final_certificate.proofs.Refuting.{count_own, one, one_self, one_other, one_small, same_hit, with_gain, KeepsWith, true_ranked, outside, kept_safe, few_enter, order_read}
use Rattle.final_certificate.proofs.Deciding.{of_scores, score_at, trues, once, first_is, first_raised, ranked_ascends, last_unsafe, unscored_out, front_true, ends_none}
use Rattle.sharp_bounds.specs.Sharpness.{IsChangedWithin}
use Rattle.sharp_bounds.specs.Rule.{AreLimits, are_safe_within, do_untouched_stay, do_others_stay, ranked_behind, settles}
use Rattle.sharp_bounds.proofs.Settling.{behind_is}

-- ---- the order

all_safe_within : (limit : ℕ → ℕ) (xs : List Hit) → ((z : ℕ) → Ascends rank_cmp (map (lift (one (limit z) z)) xs)) → ((z : ℕ) → count_doc z xs ≤ 1) → are_safe_within limit xs ≡ true
all_safe_within limit [] order once = refl
all_safe_within limit (a ∷ []) order once = refl
all_safe_within limit (a ∷ b ∷ xs) order once =
    let leads : Leads (lift (one (limit b.doc) b.doc) a) (lift (one (limit b.doc) b.doc) b) = (order b.doc).0.0 in
    let here : lift (one (limit b.doc) b.doc) a ≡ a = same_hit (lift (one (limit b.doc) b.doc) a) a refl (let z = one_other (limit b.doc) b.doc a.doc apart in omega arith) in
    let there : lift (one (limit b.doc) b.doc) b ≡ gained (limit b.doc) b = same_hit (lift (one (limit b.doc) b.doc) b) (gained (limit b.doc) b) refl (let z = one_self (limit b.doc) b.doc in omega arith) in
    let safe = leads_safe (limit b.doc) a b apart (subst (λ (h : Hit). Leads a h) there (subst (λ (h : Hit). Leads h (lift (one (limit b.doc) b.doc) b)) here leads)) in
    let rest = all_safe_within limit (b ∷ xs) (λ z. (order z).1) fewer in
    rw (safe, rest) refl
  where
    fewer : (z : ℕ) → count_doc z (b ∷ xs) ≤ 1
    fewer z = let s = sum_by-cons (λ (h : Hit). cond (h.doc == z) 1 0) a (b ∷ xs) in let o = once z in omega arith

    apart : a.doc ≢ b.doc
    apart e = let s = count_own b.doc a (b ∷ xs) e in let t = count_own b.doc b xs refl in let o = once b.doc in omega arith

-- ---- the others

pub none_there : (z : ℕ) (xs : List Hit) → count_doc z xs ≡ 0 → AllByRecursion (λ (h : Hit). h.doc ≢ z) xs
none_there z [] h = tt
none_there z (x ∷ xs) h =
    let s = sum_by-cons (λ (h : Hit). cond (h.doc == z) 1 0) x xs in
    ((λ e. let t = count_own z x xs e in absurd (omega arith)), none_there z xs (omega arith))

pub one_there : (h : Hit) (xs : List Hit) → In h xs → 1 ≤ count_doc h.doc xs
one_there h [] there = absurd there
one_there h (x ∷ xs) (inl e) = let s = count_own h.doc x xs (ap (λ (g : Hit). g.doc) (sym e)) in omega arith
one_there h (x ∷ xs) (inr there) = let s = sum_by-cons (λ (g : Hit). cond (g.doc == h.doc) 1 0) x xs in let rest = one_there h xs there in omega arith

-- what comes behind all stays there while it gains nothing
ends_still : (xs : List Hit) (o : Hit) → AllByRecursion (λ (a : Hit). Leads a o × (a.doc ≢ o.doc)) xs → ends_safe 0 xs (Some o) ≡ true
ends_still [] o h = refl
ends_still (a ∷ []) o h = leads_safe 0 a o h.0.1 (subst (λ (g : Hit). Leads a g) (same_hit o (gained 0 o) refl (omega arith)) h.0.0)
ends_still (a ∷ b ∷ xs) o h = ends_still (b ∷ xs) o h.1

module _ (scores : List ℕ) (k bound : ℕ) (limit : ℕ → ℕ) (untouched : (d : ℕ) → d < length scores → score_at scores d ≡ 0 → limit d ≡ bound)
    (some : 1 ≤ bound) (none : (z : ℕ) → docs (front (with_gain (limit z) z (of_scores scores)) k) ≡ docs (front (of_scores scores) k)) where
  kept : (z : ℕ) → KeepsWith (of_scores scores) k (limit z) z
  kept z = subst (λ l. IsPermutation (docs (front (of_scores scores) k)) l) (sym (none z)) (IsPermutation-refl (docs (front (of_scores scores) k)))

  safe_from : (o : Hit) → 1 ≤ limit o.doc → o.score ≡ score_at scores o.doc → 1 ≤ count_doc o.doc (others (of_scores scores) k) → ends_safe (limit o.doc) (front (of_scores scores) k) (Some o) ≡ true
  safe_from o gains is out = by (cases_Bool (ends_safe (limit o.doc) (front (of_scores scores) k) (Some o))) where
    by : (ends_safe (limit o.doc) (front (of_scores scores) k) (Some o) ≡ true) ⊎ (ends_safe (limit o.doc) (front (of_scores scores) k) (Some o) ≡ false) → ends_safe (limit o.doc) (front (of_scores scores) k) (Some o) ≡ true
    by (inl t) = t
    by (inr f) =
        let last = last_unsafe (score_at scores) (limit o.doc) (front (of_scores scores) k) o (front_true scores k) f in
        let safe = kept_safe (of_scores scores) (score_at scores) (trues scores) (once scores) k (limit o.doc) last.0 o gains last.1 is last.2 out (kept o.doc) in
        absurd (true≢false (sym safe ∙ last.3))

  nobody_enters : (least : Option ℕ) → least_untouched scores ≡ least → do_untouched_stay k bound (front (of_scores scores) k) least ≡ true
  nobody_enters None is = by (nat_lt (length (front (of_scores scores) k)) k) where
    by : (b : Bool) → cond b true (ends_safe bound (front (of_scores scores) k) None) ≡ true
    by true = refl
    by false = ends_none bound (front (of_scores scores) k)
  nobody_enters (Some z) is = by (cases_Bool (nat_lt (length (front (of_scores scores) k)) k)) where
    least_is : (z < length scores) × ((get_or scores z 0 == 0) ≡ true) × ((j : ℕ) → j < z → (get_or scores j 0 == 0) ≡ false)
    least_is = position-Some (λ score. score == 0) scores z 0 is

    zero_there : get_or scores z 0 ≡ 0
    zero_there = eqb-true (get_or scores z 0) 0 least_is.1

    whole : limit z ≡ bound
    whole = untouched z least_is.0 zero_there

    by : (nat_lt (length (front (of_scores scores) k)) k ≡ true) ⊎ (nat_lt (length (front (of_scores scores) k)) k ≡ false) → do_untouched_stay k bound (front (of_scores scores) k) (Some z) ≡ true
    by (inl t) = absurd (few_enter (of_scores scores) (once scores) k (limit z) z (let w = whole in omega arith) (ltb-true _ _ t) (unscored_out scores k z is) (kept z))
    by (inr f) =
        let safe : ends_safe (limit z) (front (of_scores scores) k) (Some (record { doc = z; score = 0 })) ≡ true = safe_from (record { doc = z; score = 0 }) (let w = whole in omega arith) (sym zero_there) (unscored_out scores k z is) in
        rw f (subst (λ b. ends_safe b (front (of_scores scores) k) (Some (record { doc = z; score = 0 })) ≡ true) whole safe)

  -- what is told of a document behind the hits
  abbrev Behind : Hit → Type 0
  Behind o = (o.score ≡ score_at scores o.doc) × (1 ≤ count_doc o.doc (others (of_scores scores) k)) × AllByRecursion (λ a. Leads a o) (front (of_scores scores) k)

  behind : AllByRecursion Behind (drop k (ranked (of_scores scores)))
  behind = all_in Behind (drop k (ranked (of_scores scores))) (λ o there. (own o there, out o there, led o there)) where
    own : (o : Hit) → In o (drop k (ranked (of_scores scores))) → o.score ≡ score_at scores o.doc
    own o there = all_at (λ (h : Hit). h.score ≡ score_at scores h.doc) (drop k (ranked (of_scores scores))) o
        (all_drop (λ (h : Hit). h.score ≡ score_at scores h.doc) k (ranked (of_scores scores)) (true_ranked (score_at scores) (of_scores scores) (trues scores))) there

    out : (o : Hit) → In o (drop k (ranked (of_scores scores))) → 1 ≤ count_doc o.doc (others (of_scores scores) k)
    out o there =
        let a = sum_by-append (λ (h : Hit). cond (h.doc == o.doc) 1 0) (drop k (ranked (of_scores scores))) (filter is_unscored (of_scores scores)) in
        let b = one_there o (drop k (ranked (of_scores scores))) there in
        omega arith

    led : (o : Hit) → In o (drop k (ranked (of_scores scores))) → AllByRecursion (λ a. Leads a o) (front (of_scores scores) k)
    led o there = all_weaker (λ a. AllByRecursion (λ b. Leads a b) (drop k (ranked (of_scores scores)))) (λ a. Leads a o) (λ a h. all_at (λ b. Leads a b) (drop k (ranked (of_scores scores))) o h there)
        (front (of_scores scores) k) (take_before_drop rank_cmp k (ranked (of_scores scores)) (ranked_ascends scores))

  others_stay : (xs : List Hit) → AllByRecursion Behind xs → do_others_stay limit (front (of_scores scores) k) xs ≡ true
  others_stay [] h = refl
  others_stay (o ∷ xs) h = let first = stays (cases_eq (limit o.doc) 0) in let rest = others_stay xs h.1 in rw (first, rest) refl where
    apart : AllByRecursion (λ (a : Hit). a.doc ≢ o.doc) (front (of_scores scores) k)
    apart = none_there o.doc (front (of_scores scores) k) (outside (of_scores scores) k o.doc (once scores) h.0.1)

    stays : (limit o.doc ≡ 0) ⊎ (limit o.doc ≡ 0 → ⊥) → ends_safe (limit o.doc) (front (of_scores scores) k) (Some o) ≡ true
    stays (inl e) = subst (λ b. ends_safe b (front (of_scores scores) k) (Some o) ≡ true) (sym e)
        (ends_still (front (of_scores scores) k) o (all_both (λ (a : Hit). Leads a o) (λ (a : Hit). a.doc ≢ o.doc) (front (of_scores scores) k) h.0.2 apart))
    stays (inr e) = safe_from o (grind (arith, nat_tests)) h.0.0 h.0.1

  order_stays : are_safe_within limit (front (of_scores scores) k) ≡ true
  order_stays = all_safe_within limit (front (of_scores scores) k) (λ z. order_read (of_scores scores) (score_at scores) (trues scores) k (limit z) z (none z))
      (λ z. let s = parted (of_scores scores) k (λ (h : Hit). cond (h.doc == z) 1 0) in let o = once scores z in omega arith)

  -- where no document changes the answer alone, the rule says so
  pub rule_holds : (are_safe_within limit (front (of_scores scores) k) ≡ true) × (do_untouched_stay k bound (front (of_scores scores) k) (least_untouched scores) ≡ true)
      × (do_others_stay limit (front (of_scores scores) k) (drop k (ranked (of_scores scores))) ≡ true)
  rule_holds = (order_stays, nobody_enters (least_untouched scores) refl, others_stay (drop k (ranked (of_scores scores))) behind)

-- ---- the rule

pub rule_of_ones : (scores limits : List ℕ) (k bound : ℕ) → AreLimits bound scores limits
    → ((z : ℕ) → docs (front (with_gain (get_or limits z 0) z (of_scores scores)) k) ≡ docs (front (of_scores scores) k)) → settles k bound limits scores ≡ true
unfolding settles
rule_of_ones scores limits k bound are none = by (cases_Bool (bound == 0)) where
  by : ((bound == 0) ≡ true) ⊎ ((bound == 0) ≡ false)
      → ((bound == 0) || (are_safe_within (slice_index limits) (first_ranked scores k) && (do_untouched_stay k bound (first_ranked scores k) (least_untouched scores) && do_others_stay (slice_index limits) (first_ranked scores k) (ranked_behind scores k)))) ≡ true
  by (inl t) = rw t refl
  by (inr f) =
      let h = rule_holds scores k bound (slice_index limits) are.untouched (grind (arith, nat_tests, f)) none in
      let here = sym (first_is scores k) in
      let safe = subst (λ (l : List Hit). are_safe_within (slice_index limits) l ≡ true) here h.0 in
      let enters = subst (λ (l : List Hit). do_untouched_stay k bound l (least_untouched scores) ≡ true) here h.1 in
      let stay = subst (λ (l : List Hit). do_others_stay (slice_index limits) l (ranked_behind scores k) ≡ true) here (subst (λ (l : List Hit). do_others_stay (slice_index limits) (front (of_scores scores) k) l ≡ true) (sym (behind_is scores k)) h.2) in
      rw (f, safe, enters, stay) refl

-- a list is searched for the first number that fails
search_below : (n : ℕ) (p : ℕ → Bool) → ((z : ℕ) → z < n → p z ≡ true) ⊎ ((z : ℕ) × (z < n) × (p z ≡ false))
search_below zero p = inl (λ z inside. absurd (omega arith))
search_below (suc n) p = by (search_below n p) (cases_Bool (p n)) where
  by : ((z : ℕ) → z < n → p z ≡ true) ⊎ ((z : ℕ) × (z < n) × (p z ≡ false)) → (p n ≡ true) ⊎ (p n ≡ false) → ((z : ℕ) → z < suc n → p z ≡ true) ⊎ ((z : ℕ) × (z < suc n) × (p z ≡ false))
  by (inr found) k = inr (found.0, (let h = found.1 in omega arith), found.2)
  by (inl all) (inr f) = inr (n, omega arith, f)
  by (inl all) (inl t) = inl (λ z inside. at z inside (cases_lt z n)) where
    at : (z : ℕ) → z < suc n → (z < n) ⊎ (n ≤ z) → p z ≡ true
    at z inside (inl less) = all z less
    at z inside (inr more) = let e : n ≡ z = omega arith in subst (λ m. p m ≡ true) e t

-- a gain of nothing leaves all documents as they are
no_gain : (z : ℕ) (xs : List Hit) → with_gain 0 z xs ≡ xs
no_gain z [] = refl
no_gain z (x ∷ xs) =
    let n = one_small 0 z x.doc in
    let e : x.score + one 0 z x.doc ≡ x.score = omega arith in
    let rest = no_gain z xs in
    λ i. record { doc = x.doc; score = e i } ∷ rest i

-- the gains of one document, as a list
single_within : (limits : List ℕ) (z doc : ℕ) (scores : List ℕ) → length limits ≡ length scores → (gain : ℕ → ℕ) → ((i : ℕ) → gain (doc + i) ≤ get_or limits i 0) → AllZip (λ gain limit. gain ≤ limit) (gains_by gain doc scores) limits
single_within [] z doc [] same gain small = tt
single_within [] z doc (s ∷ scores) same gain small = absurd (omega arith)
single_within (l ∷ limits) z doc [] same gain small = absurd (omega arith)
single_within (l ∷ limits) z doc (s ∷ scores) same gain small =
    (subst (λ d. gain d ≤ l) (omega arith) (small 0), single_within limits z (doc + 1) scores (omega arith) gain (λ i. subst (λ d. gain d ≤ get_or limits i 0) (omega arith) (small (suc i))))

length_by : (gain : ℕ → ℕ) (doc : ℕ) (scores : List ℕ) → length (gains_by gain doc scores) ≡ length scores
length_by gain doc [] = refl
length_by gain doc (s ∷ scores) = let rest = length_by gain (doc + 1) scores in omega arith

one_within : (limits : List ℕ) (z d : ℕ) → one (get_or limits z 0) z d ≤ get_or limits d 0
one_within limits z d = by (cases_Bool (d == z)) where
  by : ((d == z) ≡ true) ⊎ ((d == z) ≡ false) → cond (d == z) (get_or limits z 0) 0 ≤ get_or limits d 0
  by (inl t) = let e : z ≡ d = sym (eqb-true d z t) in rw t (subst (λ m. get_or limits z 0 ≤ get_or limits m 0) e (omega arith))
  by (inr f) = rw f (omega arith)

pub changed_by_rule : (scores limits : List ℕ) (k bound : ℕ) → AreLimits bound scores limits → settles k bound limits scores ≡ false → IsChangedWithin scores k limits
changed_by_rule scores limits k bound are rule = by (search_below (length scores) still) where
  still : ℕ → Bool
  still z = bytes_eq (docs (front (with_gain (get_or limits z 0) z (of_scores scores)) k)) (docs (front (of_scores scores) k))

  decides : (z : ℕ) → Decides (bytes_eq (docs (front (with_gain (get_or limits z 0) z (of_scores scores)) k)) (docs (front (of_scores scores) k))) (docs (front (with_gain (get_or limits z 0) z (of_scores scores)) k) ≡ docs (front (of_scores scores) k))
  decides z = bytes_eq-Decides (docs (front (with_gain (get_or limits z 0) z (of_scores scores)) k)) (docs (front (of_scores scores) k))

  by : ((z : ℕ) → z < length scores → still z ≡ true) ⊎ ((z : ℕ) × (z < length scores) × (still z ≡ false)) → IsChangedWithin scores k limits
  by (inl all) = absurd (true≢false (sym (rule_of_ones scores limits k bound are (λ z. each z (cases_lt z (length scores)))) ∙ rule)) where
    each : (z : ℕ) → (z < length scores) ⊎ (length scores ≤ z) → docs (front (with_gain (get_or limits z 0) z (of_scores scores)) k) ≡ docs (front (of_scores scores) k)
    each z (inl inside) = (decides z).0 (all z inside)
    each z (inr past) =
        let none : get_or limits z 0 ≡ 0 = get_or_past limits z 0 (let e = are.each in omega arith) in
        ap (λ n. docs (front (with_gain n z (of_scores scores)) k)) none ∙ ap (λ (l : List Hit). docs (front l k)) (no_gain z (of_scores scores))
  by (inr found) = record {
    gains = gains_by (one (get_or limits found.0 0) found.0) 0 scores;
    within = record {
      each = length_by (one (get_or limits found.0 0) found.0) 0 scores;
      within = single_within limits found.0 0 scores are.each (one (get_or limits found.0 0) found.0) (λ i. let e : i ≡ 0 + i = omega arith in subst (λ d. one (get_or limits found.0 0) found.0 d ≤ get_or limits i 0) e (one_within limits found.0 i));
    };
    differ = λ same. absurd (true≢false (sym ((decides found.0).1 (sym (first_raised scores (one (get_or limits found.0 0) found.0) k) ∙ same ∙ ap docs (first_is scores k))) ∙ found.2));
  }
