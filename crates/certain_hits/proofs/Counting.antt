-- A document is certain exactly where at most k reaches aren't behind its score: its own is one of them.
use Rattle.shared_lemmas.proofs.Common.{◌≡◌, ℕ, zero, suc, ◌+◌, ◌<◌, ◌≤◌, List, [], ◌∷◌, length, map, get_or, count_by, Bool, true, false, not, cond, refl, sym, ap, subst, ◌∙◌, arith, inl, inr, ◌⊎◌, Contains, slice_set}
use Rattle.shared_lemmas.proofs.Common.{AllByRecursion, AllZip, is_lt, cases_Bool, cases_eq, length-set, get_or-set_same, get_or-set_other}
use Rattle.shared_lemmas.proofs.Lists.{all_take}
use Rattle.shared_lemmas.proofs.Members.{In, in_from_contains, contains_from_in, all_at}
use Rattle.jass_base.specs.declared.answer.Hit.{Hit}
use Rattle.ranking_model.specs.Order.{sorted}
use Rattle.ranking_model.specs.Scores.{rank_cmp, hits_from, first_ranked}
use Rattle.ranking_model.specs.Finality.{raised, first_documents}
use Rattle.ranking_model.proofs.Sorting.{sorted_ascends, sum_by-sorted, all_sorted}
use Rattle.ranking_model.proofs.Orders.{rank_total, rank_same}
use Rattle.ranking_model.proofs.Candidates.{in_sorted, in_hits, hits_each}
use Rattle.final_certificate.proofs.Refuting.{same_hit}
use Rattle.sharp_bounds.proofs.Settling.{within_at}
use Rattle.certain_hits.specs.Certain.{IsCertainWithin}
use Rattle.certain_hits.proofs.Totals.{total, passing, passing_small, passing_one, passing_none, passing_zero, count_is, total_plus, total_le, own, own_is, own_other, total_own}
use Rattle.certain_hits.proofs.Places.{in_front, front_few}
use Rattle.certain_hits.proofs.Reaching.{raised_at, length_raised, still_ahead, not_ahead, other_way}

abbrev hit : ℕ → ℕ → Hit
hit doc score = record { doc = doc; score = score }

-- it ranks before a document with a score
abbrev pub leads : ℕ → ℕ → Hit → Bool
leads d score h = is_lt (rank_cmp h (hit d score))

-- a document with a score doesn't rank before it
abbrev pub reaches : ℕ → ℕ → Hit → Bool
reaches d score h = not (is_lt (rank_cmp (hit d score) h))

-- ---- what one document adds

each_less : (d low high e a b : ℕ) → 1 ≤ low → low ≤ high → a ≤ b → (e ≡ d → a ≡ high) → passing (leads d high) e a + own d e a ≤ passing (reaches d low) e b
each_less d low high e a b some up more mine = by (cases_eq e d) where
  by : (e ≡ d) ⊎ (e ≡ d → ⊥) → passing (leads d high) e a + own d e a ≤ passing (reaches d low) e b
  by (inl is) =
      let full : a ≡ high = mine is in
      let behind : leads d high (hit e a) ≡ false = ap (λ n. leads d high (hit n a)) is ∙ ap (λ n. leads d high (hit d n)) full ∙ not_ahead d high high (omega arith) in
      let reached : reaches d low (hit e b) ≡ true = ap (λ n. reaches d low (hit n b)) is ∙ ap not (not_ahead d low b (omega arith)) in
      omega (arith, passing_none (leads d high) e a behind, own_is d e a is, passing_one (reaches d low) e b (omega arith) reached)
  by (inr apart) = at (cases_eq a 0) (cases_Bool (leads d high (hit e a))) where
    none : own d e a ≡ 0
    none = own_other d e a apart

    at : (a ≡ 0) ⊎ (a ≡ 0 → ⊥) → (leads d high (hit e a) ≡ true) ⊎ (leads d high (hit e a) ≡ false) → passing (leads d high) e a + own d e a ≤ passing (reaches d low) e b
    at (inl z) k = omega (arith, none, passing_zero (leads d high) e a z)
    at (inr z) (inr k) = omega (arith, none, passing_none (leads d high) e a k)
    at (inr z) (inl k) = omega (arith, none, passing_small (leads d high) e a, passing_one (reaches d low) e b (omega arith) (ap not (still_ahead d e a b low high more up k)))

each_more : (d low e a b : ℕ) → ((e ≡ d → ⊥) → a ≡ b) → passing (reaches d low) e b ≤ passing (leads d low) e a + own d e a
each_more d low e a b same = by (cases_eq e d) where
  by : (e ≡ d) ⊎ (e ≡ d → ⊥) → passing (reaches d low) e b ≤ passing (leads d low) e a + own d e a
  by (inl is) = omega (arith, own_is d e a is, passing_small (reaches d low) e b)
  by (inr apart) = at (cases_eq b 0) (cases_Bool (is_lt (rank_cmp (hit d low) (hit e b)))) where
    at : (b ≡ 0) ⊎ (b ≡ 0 → ⊥) → (is_lt (rank_cmp (hit d low) (hit e b)) ≡ true) ⊎ (is_lt (rank_cmp (hit d low) (hit e b)) ≡ false) → passing (reaches d low) e b ≤ passing (leads d low) e a + own d e a
    at (inl z) k = omega (arith, passing_zero (reaches d low) e b z)
    at (inr z) (inl k) = omega (arith, passing_none (reaches d low) e b (ap not k))
    at (inr z) (inr k) =
        let ahead : leads d low (hit e a) ≡ true = ap (λ n. leads d low (hit e n)) (same apart) ∙ other_way d e low b (λ i. apart (sym i)) k in
        omega (arith, passing_small (reaches d low) e b, passing_one (leads d low) e a (let i = same apart in omega arith) ahead)

-- ---- the first k documents

pub count_ranked : (p : Hit → Bool) (scores : List ℕ) → count_by p (sorted rank_cmp (hits_from 0 scores)) ≡ total (passing p) 0 scores
count_ranked p scores = sum_by-sorted rank_cmp (λ (h : Hit). cond (p h) 1 0) (hits_from 0 scores) ∙ count_is p 0 scores

pub in_docs : (h : Hit) (hits : List Hit) → In h hits → In h.doc (map (λ (g : Hit). g.doc) hits)
in_docs h [] there = absurd there
in_docs h (x ∷ xs) (inl e) = inl (ap (λ (g : Hit). g.doc) e)
in_docs h (x ∷ xs) (inr k) = inr (in_docs h xs k)

pub of_docs : (d : ℕ) (hits : List Hit) → In d (map (λ (g : Hit). g.doc) hits) → (h : Hit) × (h.doc ≡ d) × In h hits
of_docs d [] there = absurd there
of_docs d (x ∷ xs) (inl e) = (x, sym e, inl refl)
of_docs d (x ∷ xs) (inr k) = let r = of_docs d xs k in (r.0, r.1, inr r.2)

-- what is known of a hit
abbrev pub IsHitOf : List ℕ → Hit → Type 0
IsHitOf scores h = (h.doc < length scores) × (1 ≤ h.score) × (h.score ≡ get_or scores h.doc 0)

pub all_of_scores : (scores : List ℕ) → AllByRecursion (IsHitOf scores) (sorted rank_cmp (hits_from 0 scores))
all_of_scores scores = all_sorted rank_cmp (IsHitOf scores) (hits_from 0 scores)
    (hits_each (IsHitOf scores) 0 scores (λ i inside some. let e : 0 + i ≡ i = omega arith in ((let j = inside in omega arith), some, ap (λ n. get_or scores n 0) (sym e))))

pub hits_of : (scores : List ℕ) (k : ℕ) → AllByRecursion (IsHitOf scores) (first_ranked scores k)
hits_of scores k = all_take (IsHitOf scores) k (sorted rank_cmp (hits_from 0 scores)) (all_of_scores scores)

-- a document with a score is among the first k exactly where fewer than k rank before it
pub first_by_few : (scores : List ℕ) (k d : ℕ) → d < length scores → 1 ≤ get_or scores d 0 → total (passing (leads d (get_or scores d 0))) 0 scores < k → In (hit d (get_or scores d 0)) (first_ranked scores k)
first_by_few scores k d inside some few = in_front rank_cmp rank_total rank_same (hit d (get_or scores d 0)) k (sorted rank_cmp (hits_from 0 scores)) (sorted_ascends rank_cmp rank_total (hits_from 0 scores))
    (in_sorted rank_cmp (hit d (get_or scores d 0)) (hits_from 0 scores) (in_hits 0 scores (hit d (get_or scores d 0)) d (omega arith) inside some refl))
    (let c = count_ranked (leads d (get_or scores d 0)) scores in omega arith)

pub few_by_first : (scores : List ℕ) (k d : ℕ) → Contains (first_documents scores k) d → (d < length scores) × (1 ≤ get_or scores d 0) × (total (passing (leads d (get_or scores d 0))) 0 scores < k)
few_by_first scores k d there = by (of_docs d (first_ranked scores k) (in_from_contains (first_documents scores k) d there)) where
  by : (h : Hit) × (h.doc ≡ d) × In h (first_ranked scores k) → (d < length scores) × (1 ≤ get_or scores d 0) × (total (passing (leads d (get_or scores d 0))) 0 scores < k)
  by r =
      let known : IsHitOf scores r.0 = all_at (IsHitOf scores) (first_ranked scores k) r.0 (hits_of scores k) r.2 in
      let score : r.0.score ≡ get_or scores d 0 = known.2 ∙ ap (λ n. get_or scores n 0) r.1 in
      let is : r.0 ≡ hit d (get_or scores d 0) = same_hit r.0 (hit d (get_or scores d 0)) r.1 score in
      let few = front_few rank_cmp rank_total rank_same (hit d (get_or scores d 0)) k (sorted rank_cmp (hits_from 0 scores)) (sorted_ascends rank_cmp rank_total (hits_from 0 scores)) (subst (λ h. In h (first_ranked scores k)) is r.2) in
      let c = count_ranked (leads d (get_or scores d 0)) scores in
      ((let i = known.0 in let e = r.1 in omega arith), (let s = known.1 in omega arith), omega arith)

-- ---- certain documents

up_same : (xs : List ℕ) → AllZip (λ x y. x ≤ y) xs xs
up_same [] = tt
up_same (x ∷ xs) = (omega arith, up_same xs)

-- how many reaches a document with a score doesn't rank before
abbrev pub reaching : List ℕ → List ℕ → ℕ → ℕ → ℕ
reaching scores limits d score = total (passing (reaches d score)) 0 (raised scores limits)

module _ (scores limits : List ℕ) (same : length limits ≡ length scores) (k d : ℕ) where
  pub certain_by_few : d < length scores → 1 ≤ get_or scores d 0 → reaching scores limits d (get_or scores d 0) ≤ k → IsCertainWithin scores k limits d
  certain_by_few inside some few gains are = contains_from_in (first_documents (raised scores gains) k) d (in_docs (hit d (get_or (raised scores gains) d 0)) (first_ranked (raised scores gains) k)
      (first_by_few (raised scores gains) k d (let n = length_raised scores gains in omega arith) (let e = raised_at scores gains are.each d in omega arith) fewer))
    where
      high : get_or (raised scores gains) d 0 ≡ get_or scores d 0 + get_or gains d 0
      high = raised_at scores gains are.each d

      sizes : length (raised scores gains) ≡ length (raised scores limits)
      sizes = length_raised scores gains ∙ sym (length_raised scores limits)

      each : (i : ℕ) → i < length (raised scores gains) → passing (leads d (get_or (raised scores gains) d 0)) (0 + i) (get_or (raised scores gains) i 0) + own d (0 + i) (get_or (raised scores gains) i 0) ≤ passing (reaches d (get_or scores d 0)) (0 + i) (get_or (raised scores limits) i 0)
      each i within = each_less d (get_or scores d 0) (get_or (raised scores gains) d 0) (0 + i) (get_or (raised scores gains) i 0) (get_or (raised scores limits) i 0) some (let e = high in omega arith)
          (let a = raised_at scores gains are.each i in let b = raised_at scores limits same i in let c = within_at gains limits are.within i in omega arith)
          (λ e. let f : i ≡ d = omega arith in ap (λ n. get_or (raised scores gains) n 0) f)

      fewer : total (passing (leads d (get_or (raised scores gains) d 0))) 0 (raised scores gains) < k
      fewer =
          let a = total_plus (passing (leads d (get_or (raised scores gains) d 0))) (own d) 0 (raised scores gains) in
          let b = total_own d 0 (raised scores gains) (omega arith) (let n = length_raised scores gains in omega arith) in
          let c = total_le (λ doc n. passing (leads d (get_or (raised scores gains) d 0)) doc n + own d doc n) (passing (reaches d (get_or scores d 0))) 0 (raised scores gains) (raised scores limits) sizes each in
          omega arith

  -- everybody else gains the limit
  pub few_by_certain : IsCertainWithin scores k limits d → (d < length scores) × (1 ≤ get_or scores d 0) × (reaching scores limits d (get_or scores d 0) ≤ k)
  few_by_certain certain = (inside, (let s = first.1 in let e = own_score in omega arith), fewer) where
    each_gain : length (slice_set limits d 0) ≡ length scores
    each_gain = length-set limits d 0 ∙ same

    within : (ls : List ℕ) (i : ℕ) → AllZip (λ gain limit. gain ≤ limit) (slice_set ls i 0) ls
    within [] i = tt
    within (l ∷ ls) zero = (omega arith, up_same ls)
    within (l ∷ ls) (suc i) = (omega arith, within ls i)

    first : (d < length (raised scores (slice_set limits d 0))) × (1 ≤ get_or (raised scores (slice_set limits d 0)) d 0) × (total (passing (leads d (get_or (raised scores (slice_set limits d 0)) d 0))) 0 (raised scores (slice_set limits d 0)) < k)
    first = few_by_first (raised scores (slice_set limits d 0)) k d (certain (slice_set limits d 0) (record { each = each_gain; within = within limits d }))

    inside : d < length scores
    inside = let i = first.0 in let n = length_raised scores (slice_set limits d 0) in omega arith

    own_score : get_or (raised scores (slice_set limits d 0)) d 0 ≡ get_or scores d 0
    own_score = let a = raised_at scores (slice_set limits d 0) each_gain d in let b = get_or-set_same limits d 0 0 (let i = inside in omega arith) in omega arith

    others : (i : ℕ) → (0 + i ≡ d → ⊥) → get_or (raised scores (slice_set limits d 0)) i 0 ≡ get_or (raised scores limits) i 0
    others i apart =
        let a = raised_at scores (slice_set limits d 0) each_gain i in let b = raised_at scores limits same i in
        let c = get_or-set_other limits d i 0 0 (λ e. apart (omega arith)) in
        omega arith

    fewer : reaching scores limits d (get_or scores d 0) ≤ k
    fewer =
        let f = subst (λ n. total (passing (leads d n)) 0 (raised scores (slice_set limits d 0)) < k) own_score first.2 in
        let a = total_plus (passing (leads d (get_or scores d 0))) (own d) 0 (raised scores (slice_set limits d 0)) in
        let b = total_own d 0 (raised scores (slice_set limits d 0)) (omega arith) (let i = first.0 in omega arith) in
        let c = total_le (passing (reaches d (get_or scores d 0))) (λ doc n. passing (leads d (get_or scores d 0)) doc n + own d doc n) 0 (raised scores limits) (raised scores (slice_set limits d 0))
        (length_raised scores limits ∙ sym (length_raised scores (slice_set limits d 0)))
        (λ i inside. each_more d (get_or scores d 0) (0 + i) (get_or (raised scores (slice_set limits d 0)) i 0) (get_or (raised scores limits) i 0) (λ apart. others i apart)) in
        omega arith
