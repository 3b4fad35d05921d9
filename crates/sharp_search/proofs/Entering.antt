-- Who may still enter, told document by document, and what the code's steps read.
use Rattle.shared_lemmas.proofs.Common.{◌≡◌, ◌≢◌, ℕ, zero, suc, ◌+◌, ◌-◌, ◌<◌, ◌≤◌, ◌==◌, ◌&&◌, ◌||◌, List, [], ◌∷◌, ◌++◌, length, take, drop, filter, map, get_or, sum_by, Bool, true, false, not, true≢false, cond, refl, sym, ap, subst, ◌∙◌, arith, inl, inr, ◌⊎◌, Some, None, Option, slice_get, slice_index}
use Rattle.shared_lemmas.proofs.Common.{AllByRecursion, cases_Bool, cases_eq, eq-eqb, ne_eqb, nat_lt, nat_tests, sum_by-cons, sum_by-append, length-drop, get_or-map, and_parts, list_all}
use Rattle.jass_base.specs.declared.answer.Hit.{Hit}
use Rattle.ranking_model.specs.Order.{sorted}
use Rattle.ranking_model.specs.Scores.{rank_cmp, hits_from, first_ranked, least_untouched}
use Rattle.ranking_model.proofs.Sorting.{Ascends, all_sorted}
use Rattle.ranking_model.proofs.Candidates.{ascends_take, take_before_drop, in_sorted, in_part, in_hits, hits_each, count_doc}
use Rattle.shared_lemmas.proofs.Lists.{all_weaker, all_drop}
use Rattle.shared_lemmas.proofs.Members.{In, all_at, all_in}
use Rattle.final_certificate.specs.Rule.{gained, is_safe, ends_safe, is_safe_from}
use Rattle.final_certificate.proofs.Steps.{ends_last}
use Rattle.final_certificate.proofs.Lifting.{hits_documents, is_unscored}
use Rattle.final_certificate.proofs.Edges.{Leads, ranked, front, others}
use Rattle.final_certificate.proofs.Refuting.{count_own, outside, same_hit}
use Rattle.final_certificate.proofs.Deciding.{of_scores, once, first_is, ranked_ascends, ends_none}
use Rattle.sharp_bounds.proofs.Settling.{behind_is}
use Rattle.sharp_bounds.proofs.Changing.{none_there}
use Rattle.sharp_bounds.specs.Marks.{unseen_sum}
use Rattle.sharp_bounds.specs.Rule.{are_safe_within, do_others_stay, do_untouched_stay, ranked_behind, settles}
use Rattle.sharp_search.specs.Deciding.{limits_of, hit_at, stays_out}

-- ---- the order of the hits, step by step

safe_at : (limit : ℕ → ℕ) (hits : List Hit) (d : Hit) (i : ℕ) → suc i < length hits
    → are_safe_within limit (drop i hits) ≡ (is_safe (limit (get_or hits (suc i) d).doc) (get_or hits i d) (get_or hits (suc i) d) && are_safe_within limit (drop (suc i) hits))
safe_at limit [] d i inside = absurd (omega arith)
safe_at limit (a ∷ []) d i inside = absurd (omega arith)
safe_at limit (a ∷ b ∷ hits) d zero inside = refl
safe_at limit (a ∷ b ∷ hits) d (suc i) inside = safe_at limit (b ∷ hits) d i (omega arith)

safe_next : (limit : ℕ → ℕ) (hits : List Hit) (d : Hit) (next : ℕ) → 1 ≤ next → next < length hits
    → are_safe_within limit (drop (next - 1) hits) ≡ (is_safe (limit (get_or hits next d).doc) (get_or hits (next - 1) d) (get_or hits next d) && are_safe_within limit (drop next hits))
safe_next limit hits d zero low inside = absurd (omega arith)
safe_next limit hits d (suc i) low inside = let e : suc i - 1 ≡ i = omega arith in rw e (safe_at limit hits d i inside)

pub kept_step : (limit : ℕ → ℕ) (hits : List Hit) (d : Hit) (next bound : ℕ) → 1 ≤ next → next < length hits → are_safe_within limit hits ≡ are_safe_within limit (drop (next - 1) hits)
    → bound ≡ limit (get_or hits next d).doc → is_safe bound (get_or hits (next - 1) d) (get_or hits next d) ≡ true → are_safe_within limit hits ≡ are_safe_within limit (drop (next + 1 - 1) hits)
kept_step limit hits d next bound low inside so_far is safe =
    let e : next ≡ next + 1 - 1 = omega arith in
    so_far ∙ safe_next limit hits d next low inside
    ∙ ap (λ b. b && are_safe_within limit (drop next hits)) (ap (λ m. is_safe m (get_or hits (next - 1) d) (get_or hits next d)) (sym is) ∙ safe) ∙ ap (λ n. are_safe_within limit (drop n hits)) e

pub broken_step : (limit : ℕ → ℕ) (hits : List Hit) (d : Hit) (next bound : ℕ) → 1 ≤ next → next < length hits → are_safe_within limit hits ≡ are_safe_within limit (drop (next - 1) hits)
    → bound ≡ limit (get_or hits next d).doc → is_safe bound (get_or hits (next - 1) d) (get_or hits next d) ≡ false → false ≡ are_safe_within limit hits
broken_step limit hits d next bound low inside so_far is unsafe =
    sym (so_far ∙ safe_next limit hits d next low inside ∙ ap (λ b. b && are_safe_within limit (drop next hits)) (ap (λ m. is_safe m (get_or hits (next - 1) d) (get_or hits next d)) (sym is) ∙ unsafe))

few_safe : (limit : ℕ → ℕ) (hits : List Hit) → length hits ≤ 1 → are_safe_within limit hits ≡ true
few_safe limit [] few = refl
few_safe limit (a ∷ []) few = refl
few_safe limit (a ∷ b ∷ hits) few = absurd (omega arith)

pub last_step : (limit : ℕ → ℕ) (hits : List Hit) (next : ℕ) → 1 ≤ next → length hits ≤ next → are_safe_within limit hits ≡ are_safe_within limit (drop (next - 1) hits) → true ≡ are_safe_within limit hits
last_step limit hits next low past so_far = sym (so_far ∙ few_safe limit (drop (next - 1) hits) (let n = length-drop (next - 1) hits in omega arith))

-- ---- limits

pub limit_at : (masks weights : List ℕ) (doc : ℕ) → doc < length masks → unseen_sum (get_or masks doc 0) weights ≡ get_or (limits_of masks weights) doc 0
limit_at masks weights doc inside = read masks doc inside where
  read : (ms : List ℕ) (i : ℕ) → i < length ms → unseen_sum (get_or ms i 0) weights ≡ get_or (map (λ mask. unseen_sum mask weights) ms) i 0
  read [] i inside = absurd (omega arith)
  read (m ∷ ms) zero inside = refl
  read (m ∷ ms) (suc i) inside = read ms i (omega arith)

-- ---- the last hit

in_last : (xs : List Hit) (last : Hit) → slice_get xs (length xs - 1) ≡ Some last → In last xs
in_last [] last is = absurd (cc)
in_last (a ∷ []) last is = inl (sym (let e : a ≡ last = cc in e))
in_last (a ∷ b ∷ xs) last is =
    let n : length (a ∷ b ∷ xs) - 1 ≡ suc (length (b ∷ xs) - 1) = omega arith in
    inr (in_last (b ∷ xs) last (rw n at is))

leads_last : (xs : List Hit) (last : Hit) → Ascends rank_cmp xs → slice_get xs (length xs - 1) ≡ Some last → (a : Hit) → In a xs → (a ≡ last) ⊎ Leads a last
leads_last [] last order is a there = absurd there
leads_last (x ∷ []) last order is a (inl e) = let f : x ≡ last = cc in inl (e ∙ f)
leads_last (x ∷ []) last order is a (inr none) = absurd none
leads_last (x ∷ y ∷ xs) last order is a there = by there (λ k. leads_last (y ∷ xs) last order.1 later a k) where
  later : slice_get (y ∷ xs) (length (y ∷ xs) - 1) ≡ Some last
  later = let n : length (x ∷ y ∷ xs) - 1 ≡ suc (length (y ∷ xs) - 1) = omega arith in rw n at is

  by : (a ≡ x) ⊎ In a (y ∷ xs) → (In a (y ∷ xs) → (a ≡ last) ⊎ Leads a last) → (a ≡ last) ⊎ Leads a last
  by (inl e) rest = inr (subst (λ (h : Hit). Leads h last) (sym e) (all_at (λ z. Leads x z) (y ∷ xs) last order.0 (in_last (y ∷ xs) last later)))
  by (inr k) rest = rest k

not_before : (a last : Hit) → Leads a last → is_safe 0 last a ≡ true → ⊥
not_before a last leads before = grind (arith, nat_tests)

before_not_itself : (last : Hit) → is_safe 0 last last ≡ true → ⊥
before_not_itself last before = grind (arith, nat_tests)

strictly : (a b : Hit) → a.doc ≢ b.doc → Leads a b → is_safe 0 a b ≡ true
strictly a b apart leads = grind (arith, nat_tests)

count_in : (o : Hit) (xs : List Hit) → In o xs → 1 ≤ count_doc o.doc xs
count_in o [] h = absurd h
count_in o (x ∷ xs) (inl e) = let n = count_own o.doc x xs (sym (ap (λ (h : Hit). h.doc) e)) in omega (arith, n)
count_in o (x ∷ xs) (inr h) = let s = sum_by-cons (λ (h : Hit). cond (h.doc == o.doc) 1 0) x xs in let rest = count_in o xs h in omega (arith, s, rest)

all_true : (p : Hit → Bool) (xs : List Hit) → AllByRecursion (λ x. p x ≡ true) xs → list_all p xs ≡ true
all_true p [] h = refl
all_true p (x ∷ xs) h = let t = h.0 in let rest = all_true p xs h.1 in rw (t, rest) refl

true_at : (p : Hit → Bool) (xs : List Hit) → list_all p xs ≡ true → (x : Hit) → In x xs → p x ≡ true
true_at p [] h x there = absurd there
true_at p (y ∷ xs) h x (inl e) = ap p e ∙ (and_parts (p y) (list_all p xs) h).0
true_at p (y ∷ xs) h x (inr there) = true_at p xs (and_parts (p y) (list_all p xs) h).1 x there

-- ---- all others

module _ (scores : List ℕ) (k : ℕ) (limit : ℕ → ℕ) (last : Hit) where
  abbrev all : List Hit
  all = sorted rank_cmp (hits_from 0 scores)

  order : Ascends rank_cmp all
  order = subst (λ (l : List Hit). Ascends rank_cmp (sorted rank_cmp l)) (sym (hits_documents 0 scores)) (ranked_ascends scores)

  -- each of them has its score
  abbrev Scored : Hit → Type 0
  Scored h = (h.doc < length scores) × (1 ≤ h.score) × (h.score ≡ get_or scores h.doc 0)

  scored : AllByRecursion Scored all
  scored = all_sorted rank_cmp Scored (hits_from 0 scores) (hits_each Scored 0 scores (λ i inside some. let e : 0 + i ≡ i = omega arith in rw e (inside, some, refl)))

  module _ (full : length (first_ranked scores k) ≡ k) (is_last : slice_get (first_ranked scores k) (length (first_ranked scores k) - 1) ≡ Some last) where
    here : In last (take k all)
    here = in_last (first_ranked scores k) last is_last

    -- another document than the last hit's
    apart : (o : Hit) → In o (drop k all) → last.doc ≢ o.doc
    apart o there e =
        let behind : In o (drop k (ranked (of_scores scores))) = subst (λ (l : List Hit). In o l) (behind_is scores k) there in
        let counted = count_in o (drop k (ranked (of_scores scores))) behind in
        let both = sum_by-append (λ (h : Hit). cond (h.doc == o.doc) 1 0) (drop k (ranked (of_scores scores))) (filter is_unscored (of_scores scores)) in
        let none = outside (of_scores scores) k o.doc (once scores) (omega (arith, counted, both)) in
        all_at (λ (h : Hit). h.doc ≢ o.doc) (front (of_scores scores) k) last (none_there o.doc (front (of_scores scores) k) none) (subst (λ (l : List Hit). In last l) (first_is scores k) here) e

    pub all_stay : ((doc : ℕ) → doc < length scores → stays_out limit scores last doc ≡ true) → do_others_stay limit (first_ranked scores k) (ranked_behind scores k) ≡ true
    all_stay stay = all_true (λ (o : Hit). ends_safe (limit o.doc) (first_ranked scores k) (Some o)) (drop k all) (all_in (λ (o : Hit). ends_safe (limit o.doc) (first_ranked scores k) (Some o) ≡ true) (drop k all) one) where
      one : (o : Hit) → In o (drop k all) → ends_safe (limit o.doc) (first_ranked scores k) (Some o) ≡ true
      one o there = sym (ends_last (limit o.doc) (first_ranked scores k) last (Some o) is_last) ∙ read (stay o.doc is.0) where
        is : Scored o
        is = all_at Scored (drop k all) o (all_drop Scored k all scored) there

        same : hit_at scores o.doc ≡ o
        same = same_hit (hit_at scores o.doc) o refl (sym is.2)

        leads : Leads last o
        leads = all_at (λ b. Leads last b) (drop k all) o (all_at (λ a. AllByRecursion (λ b. Leads a b) (drop k all)) (take k all) last (take_before_drop rank_cmp k all order) here) there

        before : is_safe 0 last (hit_at scores o.doc) ≡ true
        before = ap (is_safe 0 last) same ∙ strictly last o (apart o there) leads

        some : (get_or scores o.doc 0 == 0) ≡ false
        some = let a = is.1 in let b = is.2 in grind (arith, nat_tests)

        read : stays_out limit scores last o.doc ≡ true → is_safe (limit o.doc) last o ≡ true
        read h = sym (ap (is_safe (limit o.doc) last) same) ∙ (rw (some, before) at h)

    pub each_stays : do_others_stay limit (first_ranked scores k) (ranked_behind scores k) ≡ true → (doc : ℕ) → doc < length scores → stays_out limit scores last doc ≡ true
    each_stays stay doc inside = by (cases_eq (get_or scores doc 0) 0) (cases_Bool (is_safe 0 last (hit_at scores doc))) where
      by : (get_or scores doc 0 ≡ 0) ⊎ (get_or scores doc 0 ≡ 0 → ⊥) → (is_safe 0 last (hit_at scores doc) ≡ true) ⊎ (is_safe 0 last (hit_at scores doc) ≡ false) → stays_out limit scores last doc ≡ true
      by (inl none) other = let t : (get_or scores doc 0 == 0) ≡ true = eq-eqb (get_or scores doc 0) 0 none in rw t refl
      by (inr some) (inr behind) = rw behind (either (get_or scores doc 0 == 0)) where
        either : (b : Bool) → (b || true) ≡ true
        either true = refl
        either false = refl
      by (inr some) (inl before) = found (in_part (hit_at scores doc) k all (in_sorted rank_cmp (hit_at scores doc) (hits_from 0 scores) (in_hits 0 scores (hit_at scores doc) doc (omega arith) inside (grind (arith, nat_tests, some)) refl))) where
        safe : is_safe (limit doc) last (hit_at scores doc) ≡ true → stays_out limit scores last doc ≡ true
        safe t = let f : (get_or scores doc 0 == 0) ≡ false = grind (arith, nat_tests, some) in rw (f, before, t) refl

        found : In (hit_at scores doc) (take k all) ⊎ In (hit_at scores doc) (drop k all) → stays_out limit scores last doc ≡ true
        found (inl hit) = elim (leads_last (first_ranked scores k) last (ascends_take rank_cmp k all order) is_last (hit_at scores doc) hit) [
          | inl e ↦ absurd (before_not_itself last (sym (ap (is_safe 0 last) e) ∙ before))
          | inr leads ↦ absurd (not_before (hit_at scores doc) last leads before)
        ]
        found (inr there) = safe (ends_last (limit doc) (first_ranked scores k) last (Some (hit_at scores doc)) is_last ∙ true_at (λ (o : Hit). ends_safe (limit o.doc) (first_ranked scores k) (Some o)) (drop k all) stay (hit_at scores doc) there)

    -- what the code's answer is
    pub others_decided : (b : Bool) → (b ≡ true → (doc : ℕ) → doc < length scores → stays_out limit scores last doc ≡ true)
        → (b ≡ false → (doc : ℕ) × (doc < length scores) × (stays_out limit scores last doc ≡ false)) → b ≡ do_others_stay limit (first_ranked scores k) (ranked_behind scores k)
    others_decided true stay enters = sym (all_stay (stay refl))
    others_decided false stay enters = by (cases_Bool (do_others_stay limit (first_ranked scores k) (ranked_behind scores k))) where
      by : (do_others_stay limit (first_ranked scores k) (ranked_behind scores k) ≡ true) ⊎ (do_others_stay limit (first_ranked scores k) (ranked_behind scores k) ≡ false) → false ≡ do_others_stay limit (first_ranked scores k) (ranked_behind scores k)
      by (inr f) = sym f
      by (inl t) = let who = enters refl in absurd (true≢false (sym (each_stays t who.0 who.1) ∙ who.2))

-- with fewer hits there are no others
pub none_left : (scores : List ℕ) (k : ℕ) (limit : ℕ → ℕ) → length (first_ranked scores k) < k → true ≡ do_others_stay limit (first_ranked scores k) (ranked_behind scores k)
none_left scores k limit few = sym (ap (λ (l : List Hit). do_others_stay limit (first_ranked scores k) l) (past k (sorted rank_cmp (hits_from 0 scores)) few)) where
  past : (n : ℕ) (xs : List Hit) → length (take n xs) < n → drop n xs ≡ []
  past zero xs h = absurd (omega arith)
  past (suc n) [] h = refl
  past (suc n) (x ∷ xs) h = past n xs (omega arith)

-- ---- documents without a score

pub untouched_some : (k bound doc : ℕ) (hits : List Hit) (least : Option ℕ) → least ≡ Some doc → k ≤ length hits → ends_safe bound hits (Some (record { doc = doc; score = 0 })) ≡ do_untouched_stay k bound hits least
untouched_some k bound doc hits least is full =
    let f : nat_lt (length hits) k ≡ false = grind (arith, nat_tests, full) in
    subst (λ (l : Option ℕ). ends_safe bound hits (Some (record { doc = doc; score = 0 })) ≡ do_untouched_stay k bound hits l) (sym is) (rw f refl)

pub untouched_none : (k bound : ℕ) (hits : List Hit) (least : Option ℕ) → least ≡ None → k ≤ length hits → true ≡ do_untouched_stay k bound hits least
untouched_none k bound hits least is full =
    let f : nat_lt (length hits) k ≡ false = grind (arith, nat_tests, full) in
    subst (λ (l : Option ℕ). true ≡ do_untouched_stay k bound hits l) (sym is) (rw f (sym (ends_none bound hits)))

-- ---- the rule

pub settles_is : (k bound : ℕ) (limits scores : List ℕ) (a b c : Bool) → bound ≢ 0 → a ≡ are_safe_within (slice_index limits) (first_ranked scores k)
    → b ≡ do_untouched_stay k bound (first_ranked scores k) (least_untouched scores) → c ≡ do_others_stay (slice_index limits) (first_ranked scores k) (ranked_behind scores k)
    → (a && (b && c)) ≡ settles k bound limits scores
unfolding settles
settles_is k bound limits scores a b c some is_a is_b is_c =
    let f : (bound == 0) ≡ false = ne_eqb bound 0 some in
    (λ i. is_a i && (is_b i && is_c i)) ∙ ap (λ z. z || (are_safe_within (slice_index limits) (first_ranked scores k)
    && (do_untouched_stay k bound (first_ranked scores k) (least_untouched scores) && do_others_stay (slice_index limits) (first_ranked scores k) (ranked_behind scores k)))) (sym f)
