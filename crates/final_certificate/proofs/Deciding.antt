-- The rule at the edges decides the grade of any scores.
use Rattle.shared_lemmas.proofs.Common.{◌≡◌, ℕ, zero, suc, ◌+◌, ◌<◌, ◌≤◌, ◌==◌, ◌&&◌, List, [], ◌∷◌, ◌++◌, length, map, take, drop, filter, get_or, Bool, true, false, true≢false, cond, refl, sym, ap, subst, ◌∙◌, arith, inl, inr, ◌⊎◌, Some, None, Option, IsPermutation, slice_get, nat_lt}
use Rattle.shared_lemmas.proofs.Common.{AllByRecursion, position_or_len, cases_lt, ltb-true, ltb-false, and_parts, and_cases, cases_Bool, nat_tests, length-take, position-Some, sum_by-append, sum_by-cons, fails_before_first, drop_of_length-le}
use Rattle.std.specs.Option.{is_none}
use borrow.Author.Tests.{eqb-true}
use Rattle.jass_base.specs.declared.answer.Hit.{Hit}
use Rattle.ranking_model.specs.Order.{sorted}
use Rattle.ranking_model.specs.Scores.{rank_cmp, first_ranked, runner_up, least_untouched, standing_of}
use Rattle.ranking_model.specs.declared.standing.Standing.{Standing}
use Rattle.ranking_model.specs.Finality.{raised, first_documents, IsSettled, IsKept, IsGrade}
use Rattle.jass_base.specs.declared.answer.Grade.TheVariants.{Final, Set, Open}
use Rattle.shared_lemmas.proofs.Lists.{all_weaker, all_both, all_take, all_drop, all_append, all_filter, filter_passes}
use Rattle.ranking_model.proofs.Sorting.{Ascends, sorted_ascends}
use Rattle.ranking_model.proofs.Orders.{rank_total}
use Rattle.ranking_model.proofs.Candidates.{ascends_take, count_doc}
use Rattle.final_certificate.specs.Rule.{gained, is_safe, are_safe, ends_safe, unscored, do_documents_stay, grade_by}
use Rattle.final_certificate.proofs.Lists.{sum_by-filter, sum_by-same, ascends_drop}
use Rattle.final_certificate.proofs.Lifting.{is_unscored, is_scored, documents_from, hits_documents, lift, gains_by, raised_documents, are_gains, gain_of_doc, gain_small, gains_by_doc, true_from, documents_below, at_most_once, at_least_once}
use Rattle.final_certificate.proofs.Edges.{Leads, leads_trans, both_gain, leads_itself, safe_leads, ranked, front, others, docs, StaysBefore, keeps_documents, keeps_order}
use Rattle.final_certificate.proofs.Refuting.{count_own, one, one_small, IsTrueTo, true_ranked, kept_safe, few_enter, settled_safe}
use Rattle.ranking_model.proofs.Promises.{settled_is_kept}

-- ---- all the documents of some scores

abbrev pub of_scores : List ℕ → List Hit
of_scores scores = documents_from 0 scores

abbrev pub score_at : List ℕ → ℕ → ℕ
score_at scores doc = get_or scores doc 0

pub trues : (scores : List ℕ) → IsTrueTo (score_at scores) (of_scores scores)
trues scores = true_from (score_at scores) 0 scores (λ i inside. ap (score_at scores) (omega arith))

pub once : (scores : List ℕ) (d : ℕ) → count_doc d (of_scores scores) ≤ 1
once scores d = at_most_once d 0 scores

pub first_is : (scores : List ℕ) (k : ℕ) → first_ranked scores k ≡ front (of_scores scores) k
first_is scores k = ap (λ (l : List Hit). take k (sorted rank_cmp l)) (hits_documents 0 scores)

pub first_raised : (scores : List ℕ) (gain : ℕ → ℕ) (k : ℕ) → first_documents (raised scores (gains_by gain 0 scores)) k ≡ docs (front (map (lift gain) (of_scores scores)) k)
first_raised scores gain k = ap docs (first_is (raised scores (gains_by gain 0 scores)) k) ∙ ap (λ (l : List Hit). docs (front l k)) (raised_documents gain 0 scores)

pub ranked_ascends : (scores : List ℕ) → Ascends rank_cmp (ranked (of_scores scores))
ranked_ascends scores = sorted_ascends rank_cmp rank_total (filter is_scored (of_scores scores))

-- ---- an answer whose edges are safe

pub reach : (bound : ℕ) (xs : List Hit) (other : Hit) (ys : List Hit) → Ascends rank_cmp xs → ends_safe bound xs (Some other) ≡ true → AllByRecursion (λ u. Leads other u) ys → StaysBefore bound xs ys
reach bound [] other ys asc safe after = tt
reach bound (a ∷ []) other ys asc safe after =
    (all_weaker (λ u. Leads other u) (λ u. Leads a (gained bound u)) (λ u l. leads_trans a (gained bound other) (gained bound u) (safe_leads bound a other safe) (both_gain bound other u l)) ys after, tt)
reach bound (a ∷ b ∷ xs) other ys asc safe after =
    let rest = reach bound (b ∷ xs) other ys asc.1 safe after in
    (all_weaker (λ u. Leads b (gained bound u)) (λ u. Leads a (gained bound u)) (λ u l. leads_trans a b (gained bound u) asc.0.0 l) ys rest.0, rest)

pub nothing_behind : (bound : ℕ) (xs : List Hit) → StaysBefore bound xs []
nothing_behind bound [] = tt
nothing_behind bound (x ∷ xs) = (tt, nothing_behind bound xs)

before_rest : (bound : ℕ) (xs ys : List Hit) → Ascends rank_cmp xs → Ascends rank_cmp ys → ends_safe bound xs (slice_get ys 0) ≡ true → StaysBefore bound xs ys
before_rest bound xs [] a b safe = nothing_behind bound xs
before_rest bound xs (y ∷ ys) a b safe = reach bound xs y (y ∷ ys) a safe (leads_itself y, b.0)

before_both : (bound : ℕ) (xs ys zs : List Hit) → StaysBefore bound xs ys → StaysBefore bound xs zs → StaysBefore bound xs (ys ++ zs)
before_both bound [] ys zs a b = tt
before_both bound (x ∷ xs) ys zs a b = (all_append (λ u. Leads x (gained bound u)) ys zs a.0 b.0, before_both bound xs ys zs a.1 b.1)

-- the least document of score 0 leads those of score 0
unscored_after : (scores : List ℕ) (least : ℕ) → least_untouched scores ≡ Some least → AllByRecursion (λ u. Leads (record { doc = least; score = 0 }) u) (filter is_unscored (of_scores scores))
unscored_after scores least is =
    all_weaker (λ (u : Hit). (u.score ≡ score_at scores u.doc) × (is_unscored u ≡ true)) (λ u. Leads (record { doc = least; score = 0 }) u) (λ u h. after u (cases_lt u.doc least) h.0 h.1) (filter is_unscored (of_scores scores))
    (all_both (λ (u : Hit). u.score ≡ score_at scores u.doc) (λ u. is_unscored u ≡ true) (filter is_unscored (of_scores scores)) (all_filter (λ (u : Hit). u.score ≡ score_at scores u.doc) is_unscored (of_scores scores) (trues scores)) (filter_passes is_unscored (of_scores scores)))
  where
    least_is : (least < length scores) × ((get_or scores least 0 == 0) ≡ true) × ((k : ℕ) → k < least → (get_or scores k 0 == 0) ≡ false)
    least_is = position-Some (λ score. score == 0) scores least 0 is

    after : (u : Hit) → (u.doc < least) ⊎ (least ≤ u.doc) → u.score ≡ score_at scores u.doc → is_unscored u ≡ true → Leads (record { doc = least; score = 0 }) u
    after u (inl k) e t = absurd (true≢false (sym (ap (λ n. n == 0) (sym e) ∙ t) ∙ least_is.2 u.doc k))
    after u (inr k) e t = let z = eqb-true u.score 0 t in grind (arith, nat_tests)

no_zero : (scores : List ℕ) → least_untouched scores ≡ None → (k : ℕ) → k < length scores → (get_or scores k 0 == 0) ≡ false
no_zero scores is k inside = by (cases_Bool (nat_lt (position_or_len (λ score. score == 0) scores) (length scores))) where
  by : (nat_lt (position_or_len (λ score. score == 0) scores) (length scores) ≡ true) ⊎ (nat_lt (position_or_len (λ score. score == 0) scores) (length scores) ≡ false) → (get_or scores k 0 == 0) ≡ false
  by (inl t) = let e = rw t at is in absurd (cc)
  by (inr f) = fails_before_first (λ score. score == 0) scores k 0 (let p = ltb-false _ _ f in omega arith)

pub all_scored : (scores : List ℕ) → least_untouched scores ≡ None → filter is_unscored (of_scores scores) ≡ []
all_scored scores is = none (of_scores scores) (all_weaker (λ (u : Hit). (u.score ≡ score_at scores u.doc) × (u.doc < length scores)) (λ u. is_unscored u ≡ false)
    (λ u h. ap (λ n. n == 0) h.0 ∙ no_zero scores is u.doc h.1) (of_scores scores)
    (all_both (λ (u : Hit). u.score ≡ score_at scores u.doc) (λ (u : Hit). u.doc < length scores) (of_scores scores) (trues scores) (documents_below 0 (length scores) scores (omega arith))))
  where
    none : (xs : List Hit) → AllByRecursion (λ u. is_unscored u ≡ false) xs → filter is_unscored xs ≡ []
    none [] h = refl
    none (x ∷ xs) h = let f = h.0 in rw f (none xs h.1)

-- ---- what the code reads of a standing

next_is : (k : ℕ) (xs : List Hit) → slice_get (take (suc k) xs) k ≡ slice_get (drop k xs) 0
next_is zero [] = refl
next_is zero (x ∷ xs) = refl
next_is (suc k) [] = refl
next_is (suc k) (x ∷ xs) = next_is k xs

runner_is : (scores : List ℕ) (k : ℕ) → runner_up scores k ≡ slice_get (drop k (ranked (of_scores scores))) 0
runner_is scores k =
    let e : k + 1 ≡ suc k = omega arith in
    ap (λ n. slice_get (first_ranked scores n) k) e ∙ ap (λ (l : List Hit). slice_get l k) (first_is scores (suc k)) ∙ next_is k (ranked (of_scores scores))

abbrev Rule : List ℕ → ℕ → ℕ → Option ℕ → Bool
Rule scores k bound least = do_documents_stay k bound (front (of_scores scores) k) (slice_get (drop k (ranked (of_scores scores))) 0) least

pub read_rule : (scores : List ℕ) (k bound : ℕ) (hits : List Hit) (runner : Option Hit) (least : Option ℕ) → standing_of scores k ≡ record { hits = hits; runner_up = runner; least_untouched = least }
    → do_documents_stay k bound hits runner least ≡ Rule scores k bound least
read_rule scores k bound hits runner least is =
    let h : hits ≡ front (of_scores scores) k = ap (λ (s : Standing). s.hits) (sym is) ∙ first_is scores k in
    let r : runner ≡ slice_get (drop k (ranked (of_scores scores))) 0 = ap (λ (s : Standing). s.runner_up) (sym is) ∙ runner_is scores k in
    ap (λ (l : List Hit). do_documents_stay k bound l runner least) h ∙ ap (λ (o : Option Hit). do_documents_stay k bound (front (of_scores scores) k) o least) r

-- ---- gains as lists and as functions

to_kept : (scores : List ℕ) (k bound : ℕ) → ((gain : ℕ → ℕ) → ((d : ℕ) → gain d ≤ bound) → IsPermutation (docs (front (of_scores scores) k)) (docs (front (map (lift gain) (of_scores scores)) k))) → IsKept scores k bound
to_kept scores k bound kept gains a =
    subst (λ g. IsPermutation (first_documents scores k) (first_documents (raised scores g) k)) (sym (gains_by_doc bound scores gains a))
    (subst (λ l. IsPermutation l (first_documents (raised scores (gains_by (gain_of_doc gains) 0 scores)) k)) (sym (ap docs (first_is scores k)))
    (subst (λ l. IsPermutation (docs (front (of_scores scores) k)) l) (sym (first_raised scores (gain_of_doc gains) k)) (kept (gain_of_doc gains) (gain_small bound scores gains a))))

from_kept : (scores : List ℕ) (k bound : ℕ) → IsKept scores k bound → (gain : ℕ → ℕ) → ((d : ℕ) → gain d ≤ bound) → IsPermutation (docs (front (of_scores scores) k)) (docs (front (map (lift gain) (of_scores scores)) k))
from_kept scores k bound kept gain small = subst (λ l. IsPermutation l (docs (front (map (lift gain) (of_scores scores)) k))) (ap docs (first_is scores k))
    (subst (λ l. IsPermutation (first_documents scores k) l) (first_raised scores gain k) (kept (gains_by gain 0 scores) (are_gains gain bound small 0 scores)))

to_settled : (scores : List ℕ) (k bound : ℕ) → ((gain : ℕ → ℕ) → ((d : ℕ) → gain d ≤ bound) → docs (front (map (lift gain) (of_scores scores)) k) ≡ docs (front (of_scores scores) k)) → IsSettled scores k bound
to_settled scores k bound settled gains a =
    ap (λ g. first_documents (raised scores g) k) (gains_by_doc bound scores gains a) ∙ first_raised scores (gain_of_doc gains) k
    ∙ settled (gain_of_doc gains) (gain_small bound scores gains a) ∙ sym (ap docs (first_is scores k))

from_settled : (scores : List ℕ) (k bound : ℕ) → IsSettled scores k bound → (gain : ℕ → ℕ) → ((d : ℕ) → gain d ≤ bound) → docs (front (map (lift gain) (of_scores scores)) k) ≡ docs (front (of_scores scores) k)
from_settled scores k bound settled gain small =
    sym (first_raised scores gain k) ∙ settled (gains_by gain 0 scores) (are_gains gain bound small 0 scores) ∙ ap docs (first_is scores k)

-- ---- safe edges keep an answer

rule_few : (k bound : ℕ) (hits : List Hit) (runner : Option Hit) (least : Option ℕ) → nat_lt (length hits) k ≡ true → do_documents_stay k bound hits runner least ≡ is_none least
rule_few k bound hits runner least t = rw t refl

rule_full : (k bound : ℕ) (hits : List Hit) (runner : Option Hit) (least : Option ℕ) → nat_lt (length hits) k ≡ false → do_documents_stay k bound hits runner least ≡ (ends_safe bound hits runner && ends_safe bound hits (unscored least))
rule_full k bound hits runner least f = rw f refl

pub few : (scores : List ℕ) (k : ℕ) → length (front (of_scores scores) k) ≤ k
few scores k = let n = length-take k (ranked (of_scores scores)) in omega arith

pub before_unscored : (scores : List ℕ) (k bound : ℕ) (least : Option ℕ) → least_untouched scores ≡ least → ends_safe bound (front (of_scores scores) k) (unscored least) ≡ true → StaysBefore bound (front (of_scores scores) k) (filter is_unscored (of_scores scores))
before_unscored scores k bound None is safe = subst (λ l. StaysBefore bound (front (of_scores scores) k) l) (sym (all_scored scores is)) (nothing_behind bound (front (of_scores scores) k))
before_unscored scores k bound (Some least) is safe =
    reach bound (front (of_scores scores) k) (record { doc = least; score = 0 }) (filter is_unscored (of_scores scores)) (ascends_take rank_cmp k (ranked (of_scores scores)) (ranked_ascends scores)) safe (unscored_after scores least is)

abbrev Stays : List ℕ → ℕ → ℕ → Type 0
Stays scores k bound = ((length (front (of_scores scores) k) ≡ k) ⊎ (others (of_scores scores) k ≡ [])) × StaysBefore bound (front (of_scores scores) k) (others (of_scores scores) k)

pub stays_few : (scores : List ℕ) (k bound : ℕ) (least : Option ℕ) → least_untouched scores ≡ least → length (front (of_scores scores) k) < k → is_none least ≡ true → Stays scores k bound
stays_few scores k bound (Some least) is less none = absurd (true≢false (sym none))
stays_few scores k bound None is less none =
    let n = length-take k (ranked (of_scores scores)) in
    let past : length (ranked (of_scores scores)) ≤ k = omega arith in
    let e : others (of_scores scores) k ≡ [] = ap (λ (l : List Hit). l ++ filter is_unscored (of_scores scores)) (drop_of_length-le (ranked (of_scores scores)) past) ∙ all_scored scores is in
    (inr e, subst (λ l. StaysBefore bound (front (of_scores scores) k) l) (sym e) (nothing_behind bound (front (of_scores scores) k)))

stays : (scores : List ℕ) (k bound : ℕ) (least : Option ℕ) → least_untouched scores ≡ least → Rule scores k bound least ≡ true → Stays scores k bound
stays scores k bound least is rule = by (cases_Bool (nat_lt (length (front (of_scores scores) k)) k)) where
  by : (nat_lt (length (front (of_scores scores) k)) k ≡ true) ⊎ (nat_lt (length (front (of_scores scores) k)) k ≡ false) → Stays scores k bound
  by (inl t) = stays_few scores k bound least is (ltb-true _ _ t) (sym (rule_few k bound (front (of_scores scores) k) (slice_get (drop k (ranked (of_scores scores))) 0) least t) ∙ rule)
  by (inr f) =
      let safe = and_parts (ends_safe bound (front (of_scores scores) k) (slice_get (drop k (ranked (of_scores scores))) 0)) (ends_safe bound (front (of_scores scores) k) (unscored least))
      (sym (rule_full k bound (front (of_scores scores) k) (slice_get (drop k (ranked (of_scores scores))) 0) least f) ∙ rule) in
      let m = few scores k in let n = ltb-false _ _ f in
      let size : length (front (of_scores scores) k) ≡ k = omega arith in (
        inl size,
        before_both bound (front (of_scores scores) k) (drop k (ranked (of_scores scores))) (filter is_unscored (of_scores scores))
            (before_rest bound (front (of_scores scores) k) (drop k (ranked (of_scores scores))) (ascends_take rank_cmp k (ranked (of_scores scores)) (ranked_ascends scores)) (ascends_drop rank_cmp k (ranked (of_scores scores)) (ranked_ascends scores)) safe.0)
            (before_unscored scores k bound least is safe.1),
      )

least_of : (scores : List ℕ) (k : ℕ) (hits : List Hit) (runner : Option Hit) (least : Option ℕ) → standing_of scores k ≡ record { hits = hits; runner_up = runner; least_untouched = least } → least_untouched scores ≡ least
least_of scores k hits runner least is = ap (λ (s : Standing). s.least_untouched) is

hits_of : (scores : List ℕ) (k : ℕ) (hits : List Hit) (runner : Option Hit) (least : Option ℕ) → standing_of scores k ≡ record { hits = hits; runner_up = runner; least_untouched = least } → hits ≡ front (of_scores scores) k
hits_of scores k hits runner least is = ap (λ (s : Standing). s.hits) (sym is) ∙ first_is scores k

pub kept : (scores : List ℕ) (k bound : ℕ) (hits : List Hit) (runner : Option Hit) (least : Option ℕ) → standing_of scores k ≡ record { hits = hits; runner_up = runner; least_untouched = least }
    → do_documents_stay k bound hits runner least ≡ true → IsKept scores k bound
kept scores k bound hits runner least is rule =
    let s = stays scores k bound least (least_of scores k hits runner least is) (sym (read_rule scores k bound hits runner least is) ∙ rule) in
    to_kept scores k bound (λ gain small. keeps_documents (of_scores scores) k gain bound small s.0 s.1)

pub settled : (scores : List ℕ) (k bound : ℕ) (hits : List Hit) (runner : Option Hit) (least : Option ℕ) → standing_of scores k ≡ record { hits = hits; runner_up = runner; least_untouched = least }
    → do_documents_stay k bound hits runner least ≡ true → are_safe bound hits ≡ true → IsSettled scores k bound
settled scores k bound hits runner least is rule safe =
    let s = stays scores k bound least (least_of scores k hits runner least is) (sym (read_rule scores k bound hits runner least is) ∙ rule) in
    let order : are_safe bound (front (of_scores scores) k) ≡ true = ap (are_safe bound) (sym (hits_of scores k hits runner least is)) ∙ safe in
    to_settled scores k bound (λ gain small. keeps_order (of_scores scores) k gain bound small s.0 s.1 order)

pub settled_at_zero : (scores : List ℕ) (k bound : ℕ) → bound ≡ 0 → IsSettled scores k bound
settled_at_zero scores k bound zero_is = to_settled scores k bound (λ gain small. ap (λ (l : List Hit). docs (front l k)) (same gain small (of_scores scores))) where
  same : (gain : ℕ → ℕ) → ((d : ℕ) → gain d ≤ bound) → (xs : List Hit) → map (lift gain) xs ≡ xs
  same gain small [] = refl
  same gain small (x ∷ xs) =
      let n = small x.doc in
      let e : x.score + gain x.doc ≡ x.score = omega arith in
      let rest = same gain small xs in
      λ i. record { doc = x.doc; score = e i } ∷ rest i

-- ---- unsafe edges lose an answer

pub ends_none : (bound : ℕ) (xs : List Hit) → ends_safe bound xs None ≡ true
ends_none bound [] = refl
ends_none bound (a ∷ []) = refl
ends_none bound (a ∷ b ∷ xs) = ends_none bound (b ∷ xs)

pub last_unsafe : (score_of : ℕ → ℕ) (bound : ℕ) (xs : List Hit) (other : Hit) → IsTrueTo score_of xs → ends_safe bound xs (Some other) ≡ false → (a : Hit) × (a.score ≡ score_of a.doc) × (1 ≤ count_doc a.doc xs) × (is_safe bound a other ≡ false)
last_unsafe score_of bound [] other h e = absurd (true≢false e)
last_unsafe score_of bound (a ∷ []) other h e = (a, h.0, (let n = count_own a.doc a [] refl in omega arith), e)
last_unsafe score_of bound (a ∷ b ∷ xs) other h e =
    let r = last_unsafe score_of bound (b ∷ xs) other h.1 e in
    (r.0, r.1, (let n = sum_by-cons (λ (h : Hit). cond (h.doc == r.0.doc) 1 0) a (b ∷ xs) in let m = r.2 in omega arith), r.3)

pub unscored_out : (scores : List ℕ) (k least : ℕ) → least_untouched scores ≡ Some least → 1 ≤ count_doc least (others (of_scores scores) k)
unscored_out scores k least is =
    let a = sum_by-append (λ (h : Hit). cond (h.doc == least) 1 0) (drop k (ranked (of_scores scores))) (filter is_unscored (of_scores scores)) in
    let b = sum_by-filter is_unscored (λ (h : Hit). cond (h.doc == least) 1 0) (of_scores scores) in
    let c = sum_by-same (λ (h : Hit). cond (is_unscored h) (cond (h.doc == least) 1 0) 0) (λ (h : Hit). cond (h.doc == least) 1 0) (of_scores scores)
    (all_weaker (λ (h : Hit). h.score ≡ score_at scores h.doc) (λ (h : Hit). ◌≡◌ {A = ℕ} (cond (is_unscored h) (cond (h.doc == least) 1 0) 0) (cond (h.doc == least) 1 0)) (λ h e. one_of h e) (of_scores scores) (trues scores))
    in
    let d = at_least_once least 0 scores (omega arith) (let l = least_is.0 in omega arith) in
    omega arith
  where
    least_is : (least < length scores) × ((get_or scores least 0 == 0) ≡ true) × ((k : ℕ) → k < least → (get_or scores k 0 == 0) ≡ false)
    least_is = position-Some (λ score. score == 0) scores least 0 is

    nothing : (b : Bool) → ◌≡◌ {A = ℕ} (cond b 0 0) 0
    nothing true = refl
    nothing false = refl

    one_of : (h : Hit) → h.score ≡ score_at scores h.doc → ◌≡◌ {A = ℕ} (cond (is_unscored h) (cond (h.doc == least) 1 0) 0) (cond (h.doc == least) 1 0)
    one_of h e = by (cases_Bool (h.doc == least)) where
      by : ((h.doc == least) ≡ true) ⊎ ((h.doc == least) ≡ false) → ◌≡◌ {A = ℕ} (cond (is_unscored h) (cond (h.doc == least) 1 0) 0) (cond (h.doc == least) 1 0)
      by (inl t) = let z : (h.score == 0) ≡ true = ap (λ n. n == 0) (e ∙ ap (score_at scores) (eqb-true h.doc least t)) ∙ least_is.1 in rw (t, z) refl
      by (inr f) = rw f (nothing (is_unscored h))

head_out : (all : List Hit) (k : ℕ) (r : Hit) (rest : List Hit) → drop k (ranked all) ≡ r ∷ rest → 1 ≤ count_doc r.doc (others all k)
head_out all k r rest is =
    let a = sum_by-append (λ (h : Hit). cond (h.doc == r.doc) 1 0) (drop k (ranked all)) (filter is_unscored all) in
    let b = ap (count_doc r.doc) is in
    let c = count_own r.doc r rest refl in
    omega arith

pub front_true : (scores : List ℕ) (k : ℕ) → IsTrueTo (score_at scores) (front (of_scores scores) k)
front_true scores k = all_take (λ (h : Hit). h.score ≡ score_at scores h.doc) k (ranked (of_scores scores)) (true_ranked (score_at scores) (of_scores scores) (trues scores))

last_passed : (scores : List ℕ) (k bound : ℕ) (other : Hit) → 1 ≤ bound → other.score ≡ score_at scores other.doc → 1 ≤ count_doc other.doc (others (of_scores scores) k) → ends_safe bound (front (of_scores scores) k) (Some other) ≡ false → IsKept scores k bound → ⊥
last_passed scores k bound other some other_true out unsafe still_kept =
    let last = last_unsafe (score_at scores) bound (front (of_scores scores) k) other (front_true scores k) unsafe in
    let safe = kept_safe (of_scores scores) (score_at scores) (trues scores) (once scores) k bound last.0 other some last.1 other_true last.2 out (from_kept scores k bound still_kept (one bound other.doc) (one_small bound other.doc)) in
    absurd (true≢false (sym safe ∙ last.3))

runner_passes : (scores : List ℕ) (k bound : ℕ) (behind : List Hit) → drop k (ranked (of_scores scores)) ≡ behind → 1 ≤ bound → ends_safe bound (front (of_scores scores) k) (slice_get behind 0) ≡ false → IsKept scores k bound → ⊥
runner_passes scores k bound [] is some unsafe still_kept = absurd (true≢false (sym (ends_none bound (front (of_scores scores) k)) ∙ unsafe))
runner_passes scores k bound (r ∷ rest) is some unsafe still_kept =
    let all_true : IsTrueTo (score_at scores) (r ∷ rest) = subst (IsTrueTo (score_at scores)) is (all_drop (λ (h : Hit). h.score ≡ score_at scores h.doc) k (ranked (of_scores scores)) (true_ranked (score_at scores) (of_scores scores) (trues scores))) in
    last_passed scores k bound r some all_true.0 (head_out (of_scores scores) k r rest is) unsafe still_kept

unscored_passes : (scores : List ℕ) (k bound : ℕ) (least : Option ℕ) → least_untouched scores ≡ least → 1 ≤ bound → ends_safe bound (front (of_scores scores) k) (unscored least) ≡ false → IsKept scores k bound → ⊥
unscored_passes scores k bound None is some unsafe still_kept = absurd (true≢false (sym (ends_none bound (front (of_scores scores) k)) ∙ unsafe))
unscored_passes scores k bound (Some least) is some unsafe still_kept =
    let l = position-Some (λ score. score == 0) scores least 0 is in
    last_passed scores k bound (record { doc = least; score = 0 }) some (sym (eqb-true (get_or scores least 0) 0 l.1)) (unscored_out scores k least is) unsafe still_kept

unscored_enters : (scores : List ℕ) (k bound : ℕ) (least : Option ℕ) → least_untouched scores ≡ least → 1 ≤ bound → length (front (of_scores scores) k) < k → is_none least ≡ false → IsKept scores k bound → ⊥
unscored_enters scores k bound None is some less there still_kept = absurd (true≢false there)
unscored_enters scores k bound (Some least) is some less there still_kept =
    few_enter (of_scores scores) (once scores) k bound least some less (unscored_out scores k least is) (from_kept scores k bound still_kept (one bound least) (one_small bound least))

not_kept : (scores : List ℕ) (k bound : ℕ) (least : Option ℕ) → least_untouched scores ≡ least → 1 ≤ bound → Rule scores k bound least ≡ false → IsKept scores k bound → ⊥
not_kept scores k bound least is some rule still_kept = by (cases_Bool (nat_lt (length (front (of_scores scores) k)) k)) where
  edge : (ends_safe bound (front (of_scores scores) k) (slice_get (drop k (ranked (of_scores scores))) 0) ≡ false) ⊎ (ends_safe bound (front (of_scores scores) k) (unscored least) ≡ false) → ⊥
  edge (inl e) = runner_passes scores k bound (drop k (ranked (of_scores scores))) refl some e still_kept
  edge (inr e) = unscored_passes scores k bound least is some e still_kept

  by : (nat_lt (length (front (of_scores scores) k)) k ≡ true) ⊎ (nat_lt (length (front (of_scores scores) k)) k ≡ false) → ⊥
  by (inl t) = unscored_enters scores k bound least is some (ltb-true _ _ t) (sym (rule_few k bound (front (of_scores scores) k) (slice_get (drop k (ranked (of_scores scores))) 0) least t) ∙ rule) still_kept
  by (inr f) = edge (and_cases (ends_safe bound (front (of_scores scores) k) (slice_get (drop k (ranked (of_scores scores))) 0)) (ends_safe bound (front (of_scores scores) k) (unscored least))
      (sym (rule_full k bound (front (of_scores scores) k) (slice_get (drop k (ranked (of_scores scores))) 0) least f) ∙ rule))

pub opened : (scores : List ℕ) (k bound : ℕ) (hits : List Hit) (runner : Option Hit) (least : Option ℕ) → standing_of scores k ≡ record { hits = hits; runner_up = runner; least_untouched = least }
    → 1 ≤ bound → do_documents_stay k bound hits runner least ≡ false → IsGrade scores k bound Open
opened scores k bound hits runner least is some rule = ((λ still_settled. changes (settled_is_kept scores k bound still_settled)), changes) where
  changes : ¬ IsKept scores k bound
  changes still_kept = not_kept scores k bound least (least_of scores k hits runner least is) some (sym (read_rule scores k bound hits runner least is) ∙ rule) still_kept

pub unsettled : (scores : List ℕ) (k bound : ℕ) (hits : List Hit) (runner : Option Hit) (least : Option ℕ) → standing_of scores k ≡ record { hits = hits; runner_up = runner; least_untouched = least }
    → are_safe bound hits ≡ false → ¬ IsSettled scores k bound
unsettled scores k bound hits runner least is unsafe still_settled =
    let safe = settled_safe (of_scores scores) (score_at scores) (trues scores) (once scores) k bound (λ z. from_settled scores k bound still_settled (one bound z) (one_small bound z)) in
    absurd (true≢false (sym safe ∙ ap (are_safe bound) (sym (hits_of scores k hits runner least is)) ∙ unsafe))

-- so the rule's grade is one
pub graded : (scores : List ℕ) (k bound : ℕ) (hits : List Hit) (runner : Option Hit) (least : Option ℕ) → standing_of scores k ≡ record { hits = hits; runner_up = runner; least_untouched = least }
    → IsGrade scores k bound (grade_by k bound (record { hits = hits; runner_up = runner; least_untouched = least }))
unfolding grade_by
graded scores k bound hits runner least is = at (bound == 0) refl (do_documents_stay k bound hits runner least) refl (are_safe bound hits) refl
  where
    some : (bound == 0) ≡ false → 1 ≤ bound
    some not_zero = grind (arith, nat_tests, not_zero)

    at : (a : Bool) → (bound == 0) ≡ a → (b : Bool) → do_documents_stay k bound hits runner least ≡ b → (c : Bool) → are_safe bound hits ≡ c → IsGrade scores k bound (cond a Final (cond b (cond c Final Set) Open))
    at true none b docs c safe = settled_at_zero scores k bound (grind (arith, nat_tests, none))
    at false some_bound true docs true safe = settled scores k bound hits runner least is docs safe
    at false some_bound true docs false safe = (kept scores k bound hits runner least is docs, unsettled scores k bound hits runner least is safe)
    at false some_bound false docs c safe = opened scores k bound hits runner least is (some some_bound) docs

pub graded_standing : (scores : List ℕ) (k bound : ℕ) → IsGrade scores k bound (grade_by k bound (standing_of scores k))
graded_standing scores k bound = graded scores k bound (standing_of scores k).hits (standing_of scores k).runner_up (standing_of scores k).least_untouched refl
