-- Candidates while documents come: one is passed over or taken in, the first k are kept, and at the end they are the answer.
use Rattle.shared_lemmas.proofs.Common.{◌≡◌, ◌≢◌, ℕ, ◌+◌, ◌<◌, ◌≤◌, ◌==◌, List, [], ◌∷◌, ◌++◌, length, take, get_or, sum_by, Bool, true, false, cond, refl, sym, ap, subst, ◌∙◌, arith, inl, inr, ◌⊎◌, eq-eqb, AllByRecursion, Contains, is_lt, is_gt, cases_eq, cases_lt, nat_tests, ordering_then, nat_cmp}
use Rattle.shared_lemmas.proofs.Common.{sum_by-cons, sum_by-append, sum_by-IsPermutation, IsPermutation, All-permutation, Contains-permutation, All-from_recursion, recursion_from_All}
use Rattle.shared_lemmas.proofs.Members.{In, all_at, all_in, in_from_contains, contains_from_in}
use Rattle.shared_lemmas.proofs.Lists.{all_weaker, all_append, all_front, all_take}
use Rattle.shared_lemmas.proofs.Pairs.{Pairs, pairs_by_places}
use Rattle.jass_base.specs.declared.answer.Hit.{Hit}
use Rattle.ranking_model.specs.Order.{sorted}
use Rattle.ranking_model.specs.Scores.{AreAhead, AreHitsOf, rank_cmp, hits_from, first_ranked}
use Rattle.ranking_model.proofs.Sorting.{all_sorted}
use Rattle.ranking_model.proofs.Candidates.{first_of_candidates, hits_each}
use Rattle.max_score.specs.Private.Standing.{AreScored, IsBeaten, IsPassed, Misses, Stands, hit_of}
use Rattle.max_score.proofs.Ahead.{of_doc, counts, beaten_isnt_first}

-- ---- the start

pub begun : (scores : List ℕ) (k threshold : ℕ) (hits : List Hit) → length hits ≡ 0 → Misses scores k threshold 0 → Stands scores k 0 threshold hits
begun scores k threshold [] none misses = record {
  are = record { scored = tt; once = λ doc. omega arith };
  met = tt;
  kept = λ d below inside some. absurd (omega arith);
  misses = misses;
}
begun scores k threshold (h ∷ hits) none misses = absurd (omega arith)

-- a document that has a score passes 0
pub none_missed : (scores : List ℕ) (k from : ℕ) → Misses scores k 0 from
none_missed scores k from d low inside some small = absurd (omega arith)

-- ---- one document more

-- documents that can't be among the first are passed over
pub passed_over : (scores : List ℕ) (k doc next threshold : ℕ) (hits : List Hit) → Stands scores k doc threshold hits → doc ≤ next
    → ((d : ℕ) → doc ≤ d → d < next → d < length scores → IsPassed scores k d) → Stands scores k next threshold hits
passed_over scores k doc next threshold hits stands on passed = record {
  are = stands.are;
  met = all_weaker (λ (h : Hit). h.doc < doc) (λ h. h.doc < next) (λ h below. omega arith) hits stands.met;
  kept = λ d below inside some. by d below inside some (cases_lt d doc);
  misses = λ d from inside some small. stands.misses d (omega arith) inside some small;
}
  where
    by : (d : ℕ) → d < next → d < length scores → 1 ≤ get_or scores d 0 → (d < doc) ⊎ (doc ≤ d) → Contains hits (hit_of scores d) ⊎ IsBeaten scores k d
    by d below inside some (inl before) = stands.kept d before inside some
    by d below inside some (inr from) = inr (passed d from below inside some)

in_back : (h : Hit) (xs ys : List Hit) → In h ys → In h (xs ++ ys)
in_back h [] ys there = there
in_back h (x ∷ xs) ys there = inr (in_back h xs ys there)

in_front : (h : Hit) (xs ys : List Hit) → In h xs → In h (xs ++ ys)
in_front h [] ys there = absurd there
in_front h (x ∷ xs) ys (inl e) = inl e
in_front h (x ∷ xs) ys (inr k) = inr (in_front h xs ys k)

none_met : (doc : ℕ) (hits : List Hit) → AllByRecursion (λ (h : Hit). h.doc < doc) hits → sum_by (of_doc doc) hits ≡ 0
none_met doc [] below = refl
none_met doc (x ∷ xs) below =
    let s = sum_by-cons (of_doc doc) x xs in
    let less = below.0 in
    let f : (x.doc == doc) ≡ false = grind (arith, nat_tests) in
    let rest = none_met doc xs below.1 in
    rw (s, f) (omega arith)

-- a document is taken in
pub taken_in : (scores : List ℕ) (k threshold : ℕ) (hit : Hit) (hits : List Hit) → Stands scores k hit.doc threshold hits
    → hit.doc < length scores → hit.score ≡ get_or scores hit.doc 0 → 1 ≤ hit.score → Stands scores k (hit.doc + 1) threshold (hits ++ hit ∷ [])
taken_in scores k threshold hit hits stands inside is some = record {
  are = record {
    scored = all_append (λ (h : Hit). (h.doc < length scores) × (1 ≤ h.score) × (h.score ≡ get_or scores h.doc 0)) hits (hit ∷ []) stands.are.scored ((inside, some, is), tt);
    once = λ doc. once doc (cases_eq hit.doc doc);
  };
  met = all_append (λ (h : Hit). h.doc < hit.doc + 1) hits (hit ∷ []) (all_weaker (λ (h : Hit). h.doc < hit.doc) (λ h. h.doc < hit.doc + 1) (λ h below. omega arith) hits stands.met) (omega arith, tt);
  kept = λ d below there more. by d there more (cases_lt d hit.doc) below;
  misses = λ d from there more small. stands.misses d (omega arith) there more small;
}
  where
    once : (doc : ℕ) → (hit.doc ≡ doc) ⊎ (hit.doc ≡ doc → ⊥) → sum_by (of_doc doc) (hits ++ hit ∷ []) ≤ 1
    once doc (inl e) =
        let split = sum_by-append (of_doc doc) hits (hit ∷ []) in
        let last = sum_by-cons (of_doc doc) hit [] in
        let none = subst (λ n. sum_by (of_doc n) hits ≡ 0) e (none_met hit.doc hits stands.met) in
        let t : (hit.doc == doc) ≡ true = eq-eqb hit.doc doc e in
        rw (split, last, t) (omega arith)
    once doc (inr apart) =
        let split = sum_by-append (of_doc doc) hits (hit ∷ []) in
        let last = sum_by-cons (of_doc doc) hit [] in
        let few = stands.are.once doc in
        let f : (hit.doc == doc) ≡ false = grind (arith, nat_tests) in
        rw (split, last, f) (omega arith)

    by : (d : ℕ) → d < length scores → 1 ≤ get_or scores d 0 → (d < hit.doc) ⊎ (hit.doc ≤ d) → d < hit.doc + 1 → Contains (hits ++ hit ∷ []) (hit_of scores d) ⊎ IsBeaten scores k d
    by d there more (inl before) below = elim (stands.kept d before there more) [
      | inl k ↦ inl (contains_from_in (hits ++ hit ∷ []) (hit_of scores d) (in_front (hit_of scores d) hits (hit ∷ []) (in_from_contains hits (hit_of scores d) k)))
      | inr k ↦ inr k
    ]
    by d there more (inr from) below =
        let doc : d ≡ hit.doc = omega arith in
        let score : get_or scores d 0 ≡ hit.score = ap (λ n. get_or scores n 0) doc ∙ sym is in
        inl (contains_from_in (hits ++ hit ∷ []) (hit_of scores d) (in_back (hit_of scores d) hits (hit ∷ []) (inl (λ i. record { doc = doc i; score = score i }))))

-- ---- the first k are kept

once_apart : (d e : ℕ) (first last : List Hit) → sum_by (of_doc d) (first ++ last) ≤ 1 → 1 ≤ sum_by (of_doc d) first → 1 ≤ sum_by (of_doc e) last → d ≡ e → ⊥
once_apart d e first last few here there same =
    let split = sum_by-append (of_doc d) first last in
    let also = subst (λ n. 1 ≤ sum_by (of_doc n) last) (sym same) there in
    absurd (omega arith)

before_it : (a h : Hit) → is_gt (rank_cmp a h) ≡ false → (a.doc ≡ h.doc → ⊥) → is_lt (rank_cmp a h) ≡ true
before_it a h behind apart = let ne : a.doc ≢ h.doc = apart in grind (arith, nat_tests)

in_one : (h : Hit) (xs ys : List Hit) → In h (xs ++ ys) → In h xs ⊎ In h ys
in_one h [] ys there = inr there
in_one h (x ∷ xs) ys (inl e) = inl (inl e)
in_one h (x ∷ xs) ys (inr there) = elim (in_one h xs ys there) [ inl k ↦ inl (inr k) | inr k ↦ inr k ]

-- the candidates in two parts, of which none in front comes after one behind
module _ (scores : List ℕ) (k doc threshold : ℕ) (hits first last : List Hit) (stands : Stands scores k doc threshold hits) (parted : IsPermutation hits (first ++ last)) (size : length first ≡ k) (above : AreAhead first last) where
  few : (d : ℕ) → sum_by (of_doc d) (first ++ last) ≤ 1
  few d = let same = sum_by-IsPermutation (of_doc d) hits (first ++ last) parted in let once = stands.are.once d in omega arith

  of_front : (P : Hit → Type 0) → AllByRecursion P hits → AllByRecursion P first
  of_front P all = all_front P first last (recursion_from_All P (first ++ last) (All-permutation P hits (first ++ last) parted (All-from_recursion P hits all)))

  first_are : AreScored scores first
  first_are = record {
    scored = of_front (λ (h : Hit). (h.doc < length scores) × (1 ≤ h.score) × (h.score ≡ get_or scores h.doc 0)) stands.are.scored;
    once = λ d. let whole = sum_by-append (of_doc d) first last in let once = few d in omega arith;
  }

  first_met : AllByRecursion (λ (h : Hit). h.doc < doc) first
  first_met = of_front (λ (h : Hit). h.doc < doc) stands.met

  -- one behind the first k is beaten by them
  behind : (h : Hit) → In h last → AllByRecursion (λ a. is_lt (rank_cmp a h) ≡ true) first
  behind h there = all_in (λ a. is_lt (rank_cmp a h) ≡ true) first (λ a here. before_it a h
      (all_at (λ b. is_gt (rank_cmp a b) ≡ false) last h (all_at (λ a. AllByRecursion (λ b. is_gt (rank_cmp a b) ≡ false) last) first a above here) there)
      (once_apart a.doc h.doc first last (few a.doc) (counts a first here) (counts h last there)))

  -- so is a later document whose score is no greater than that of the last of them
  later : (least : ℕ) → AllByRecursion (λ (h : Hit). least ≤ h.score) first → (d : ℕ) → doc ≤ d → get_or scores d 0 ≤ least → AllByRecursion (λ a. is_lt (rank_cmp a (hit_of scores d)) ≡ true) first
  later least high d from low = all_in (λ a. is_lt (rank_cmp a (hit_of scores d)) ≡ true) first (λ a here. ahead a
      (all_at (λ (h : Hit). least ≤ h.score) first a high here) (all_at (λ (h : Hit). h.doc < doc) first a first_met here))
    where
      ahead : (a : Hit) → least ≤ a.score → a.doc < doc → is_lt (rank_cmp a (hit_of scores d)) ≡ true
      ahead a high met = beats a.score (get_or scores d 0) a.doc d (omega arith) (omega arith)
        where
          beats : (x y i j : ℕ) → y ≤ x → i < j → is_lt (ordering_then (nat_cmp y x) (nat_cmp i j)) ≡ true
          beats x y i j a b = grind (arith, nat_tests)

  pub cut_to : (least : ℕ) → AllByRecursion (λ (h : Hit). least ≤ h.score) first → Stands scores k doc least first
  cut_to least high = record {
    are = first_are;
    met = first_met;
    kept = λ d below inside more. by d (stands.kept d below inside more);
    misses = λ d from inside more low. record { ahead = first; are = first_are; many = (let n = size in omega arith); before = later least high d from low };
  }
    where
      in_either : (h : Hit) → In h first ⊎ In h last → Contains first h ⊎ AllByRecursion (λ a. is_lt (rank_cmp a h) ≡ true) first
      in_either h (inl there) = inl (contains_from_in first h there)
      in_either h (inr there) = inr (behind h there)

      by : (d : ℕ) → Contains hits (hit_of scores d) ⊎ IsBeaten scores k d → Contains first (hit_of scores d) ⊎ IsBeaten scores k d
      by d (inr beaten) = inr beaten
      by d (inl there) = elim (in_either (hit_of scores d) (in_one (hit_of scores d) first last (in_from_contains (first ++ last) (hit_of scores d) (Contains-permutation hits (first ++ last) (hit_of scores d) parted there)))) [
        | inl k ↦ inl k
        | inr ahead ↦ inr (record { ahead = first; are = first_are; many = (let n = size in omega arith); before = ahead })
      ]

-- ---- the end

apart_from_counts : (hits : List Hit) → ((d : ℕ) → sum_by (of_doc d) hits ≤ 1) → Pairs (λ (a b : Hit). a.doc ≢ b.doc) hits
apart_from_counts [] once = tt
apart_from_counts (x ∷ xs) once = (all_in (λ (y : Hit). x.doc ≢ y.doc) xs (λ y there same. double y there same), apart_from_counts xs (λ d. fewer d)) where
  double : (y : Hit) → In y xs → x.doc ≡ y.doc → ⊥
  double y there is =
      let s = sum_by-cons (of_doc y.doc) x xs in
      let t : ◌≡◌ {A = ℕ} (cond (x.doc == y.doc) 1 0) 1 = ap (λ (b : Bool). cond {A = ℕ} b 1 0) (eq-eqb x.doc y.doc is) in
      let one = counts y xs there in
      let most = once y.doc in
      absurd (omega arith)

  fewer : (d : ℕ) → sum_by (of_doc d) xs ≤ 1
  fewer d = let s = sum_by-cons (of_doc d) x xs in let most = once d in omega arith

-- the hit of a document that has a score
abbrev IsHit : List ℕ → Hit → Type 0
IsHit scores h = (h.doc < length scores) × (1 ≤ get_or scores h.doc 0) × (h ≡ hit_of scores h.doc)

-- all documents have come: the first k candidates are the answer
pub all_met : (scores : List ℕ) (k threshold : ℕ) (hits : List Hit) → Stands scores k (length scores) threshold hits → take k (sorted rank_cmp hits) ≡ first_ranked scores k
all_met scores k threshold hits stands = first_of_candidates scores k hits are there where
  are : AreHitsOf scores hits
  are = record { scored = stands.are.scored; once = pairs_by_places (λ (a b : Hit). a.doc ≢ b.doc) hits (apart_from_counts hits stands.are.once) }

  own : AllByRecursion (IsHit scores) (first_ranked scores k)
  own = all_take (IsHit scores) k (sorted rank_cmp (hits_from 0 scores)) (all_sorted rank_cmp (IsHit scores) (hits_from 0 scores)
      (hits_each (IsHit scores) 0 scores (λ i inside some. let e : i ≡ 0 + i = omega arith in subst (λ d. IsHit scores (record { doc = d; score = get_or scores i 0 })) e (inside, some, refl))))

  there : AllByRecursion (λ h. Contains hits h) (first_ranked scores k)
  there = all_in (λ h. Contains hits h) (first_ranked scores k) (λ h first. has h first (all_at (IsHit scores) (first_ranked scores k) h own first)) where
    has : (h : Hit) → In h (first_ranked scores k) → IsHit scores h → Contains hits h
    has h first mine = elim (stands.kept h.doc mine.0 mine.0 mine.1) [
      | inl k ↦ subst (λ g. Contains hits g) (sym mine.2) k
      | inr beaten ↦ absurd (beaten_isnt_first scores k h.doc beaten (subst (λ g. In g (first_ranked scores k)) mine.2 first))
    ]
