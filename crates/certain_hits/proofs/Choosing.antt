-- The first of hits that come one after the other.
use Rattle.shared_lemmas.proofs.Common.{◌≡◌, ℕ, zero, suc, ◌+◌, ◌<◌, ◌≤◌, ◌==◌, List, [], ◌∷◌, ◌++◌, length, map, take, get_or, sum_by, Bool, true, false, true≢false, if◌then◌else◌, refl, sym, ap, subst, ◌∙◌, arith, inl, inr, ◌⊎◌, Some, None, slice_get, IsPermutation}
use Rattle.shared_lemmas.proofs.Common.{AllByRecursion, is_gt, is_lt, cases_Bool, cases_eq, nat_tests, eq-eqb, length-take, length-append, take-take, take-append_seam, sum_by-append, sum_by-cons, slice_get_past, append_assoc}
use Rattle.std.proofs.lemmas.List.{append-nil}
use Rattle.shared_lemmas.proofs.Lists.{all_append, all_take, all_weaker}
use Rattle.jass_base.specs.declared.answer.Hit.{Hit}
use Rattle.ranking_model.specs.Order.{placed, sorted}
use Rattle.ranking_model.specs.Scores.{rank_cmp, hits_from, first_ranked, AreAhead}
use Rattle.ranking_model.proofs.Sorting.{sorted_ascends, sum_by-sorted, all_placed, all_sorted, length_sorted, ascends_append}
use Rattle.ranking_model.proofs.Orders.{rank_total, rank_same}
use Rattle.ranking_model.proofs.Candidates.{first_part, hits_each}
use Rattle.final_certificate.proofs.Lists.{one_order}
use Rattle.certain_hits.specs.declared.foremost.Reach.{Reach}
use Rattle.certain_hits.specs.Private.Reach.{hit_of}
use Rattle.certain_hits.specs.Private.Foremost.{foremost, AreFull, Holds, HasFirst}

-- ---- one hit more

take_behind : (m : ℕ) (y : Hit) (ys : List Hit) → take m (y ∷ ys) ≡ take m (y ∷ take m ys)
take_behind zero y ys = refl
take_behind (suc m) y ys = ap (λ (l : List Hit). y ∷ l) (sym (take-take m (suc m) ys (omega arith)))

-- whoever comes behind the first m doesn't count
placed_front : (m : ℕ) (h : Hit) (ys : List Hit) → take m (placed rank_cmp h ys) ≡ take m (placed rank_cmp h (take m ys))
placed_front zero h ys = refl
placed_front (suc m) h [] = refl
placed_front (suc m) h (y ∷ ys) = step (is_gt (rank_cmp h y)) (placed_front m h ys) where
  step : (b : Bool) → take m (placed rank_cmp h ys) ≡ take m (placed rank_cmp h (take m ys))
      → take (suc m) (if b then y ∷ placed rank_cmp h ys else h ∷ y ∷ ys) ≡ take (suc m) (if b then y ∷ placed rank_cmp h (take m ys) else h ∷ y ∷ take m ys)
  step true rest = ap (λ (l : List Hit). y ∷ l) rest
  step false rest = ap (λ (l : List Hit). h ∷ l) (take_behind m y ys)

sorted_push : (xs : List Hit) (h : Hit) → sorted rank_cmp (xs ++ h ∷ []) ≡ placed rank_cmp h (sorted rank_cmp xs)
sorted_push xs h = one_order rank_cmp rank_total rank_same (sorted rank_cmp (xs ++ h ∷ [])) (sorted rank_cmp (h ∷ xs)) (sorted_ascends rank_cmp rank_total (xs ++ h ∷ [])) (sorted_ascends rank_cmp rank_total (h ∷ xs)) sums where
  sums : (f : Hit → ℕ) → sum_by f (sorted rank_cmp (xs ++ h ∷ [])) ≡ sum_by f (sorted rank_cmp (h ∷ xs))
  sums f =
      let a = sum_by-sorted rank_cmp f (xs ++ h ∷ []) in
      let b = sum_by-sorted rank_cmp f (h ∷ xs) in
      let c = sum_by-append f xs (h ∷ []) in
      let d = sum_by-cons f h xs in
      let e = sum_by-cons f h [] in
      omega arith

foremost_push : (m : ℕ) (xs : List Hit) (h : Hit) → foremost m (xs ++ h ∷ []) ≡ take m (placed rank_cmp h (foremost m xs))
foremost_push m xs h = ap (take m) (sorted_push xs h) ∙ placed_front m h (sorted rank_cmp xs)

length_placed : (h : Hit) (ys : List Hit) → length (placed rank_cmp h ys) ≡ length ys + 1
length_placed h [] = refl
length_placed h (y ∷ ys) = let rest = length_placed h ys in elim (cases_Bool (is_gt (rank_cmp h y))) [ inl e ↦ rw e (omega arith) | inr e ↦ rw e (omega arith) ]

pub pushed : (m floor : ℕ) (kept all : List Hit) (h : Hit) → floor ≤ h.score → Holds m floor kept all → Holds m floor (kept ++ h ∷ []) (all ++ h ∷ [])
pushed m floor kept all h high holds = record {
  first = foremost_push m kept h ∙ ap (λ l. take m (placed rank_cmp h l)) holds.first ∙ sym (foremost_push m all h);
  full = by holds.full;
}
  where
    by : (floor ≡ 0) ⊎ AreFull m floor (foremost m all) → (floor ≡ 0) ⊎ AreFull m floor (foremost m (all ++ h ∷ []))
    by (inl e) = inl e
    by (inr f) = inr (subst (AreFull m floor) (sym (foremost_push m all h)) (record {
      many = (let a = length-take m (placed rank_cmp h (foremost m all)) in let b = length_placed h (foremost m all) in let c = f.many in omega arith);
      high = all_take (λ (g : Hit). floor ≤ g.score) m (placed rank_cmp h (foremost m all)) (all_placed rank_cmp (λ (g : Hit). floor ≤ g.score) h (foremost m all) high f.high);
    }))

-- ---- one that is passed over

after_it : (h x : Hit) → x.doc < h.doc → h.score ≤ x.score → is_gt (rank_cmp h x) ≡ true
after_it h x before less = grind (arith, nat_tests)

placed_last : (h : Hit) (ys : List Hit) → AllByRecursion (λ (y : Hit). is_gt (rank_cmp h y) ≡ true) ys → placed rank_cmp h ys ≡ ys ++ h ∷ []
placed_last h [] a = refl
placed_last h (y ∷ ys) a = let t = a.0 in let rest = placed_last h ys a.1 in rw t (ap (λ (l : List Hit). y ∷ l) rest)

pub passed_over : (m floor : ℕ) (kept all : List Hit) (h : Hit) → 1 ≤ h.score → h.score ≤ floor → AllByRecursion (λ (x : Hit). x.doc < h.doc) all → Holds m floor kept all → Holds m floor kept (all ++ h ∷ [])
passed_over m floor kept all h some low before holds = by holds.full where
  by : (floor ≡ 0) ⊎ AreFull m floor (foremost m all) → Holds m floor kept (all ++ h ∷ [])
  by (inl e) = absurd (omega arith)
  by (inr f) = record { first = holds.first ∙ sym same; full = inr (subst (AreFull m floor) (sym same) f) } where
    later : (xs : List Hit) → AllByRecursion (λ (x : Hit). x.doc < h.doc) xs → AllByRecursion (λ (x : Hit). floor ≤ x.score) xs → AllByRecursion (λ (y : Hit). is_gt (rank_cmp h y) ≡ true) xs
    later [] a b = tt
    later (x ∷ xs) a b = (after_it h x a.0 (let n = b.0 in omega arith), later xs a.1 b.1)

    earlier : AllByRecursion (λ (x : Hit). x.doc < h.doc) (foremost m all)
    earlier = all_take (λ (x : Hit). x.doc < h.doc) m (sorted rank_cmp all) (all_sorted rank_cmp (λ (x : Hit). x.doc < h.doc) all before)

    same : foremost m (all ++ h ∷ []) ≡ foremost m all
    same = foremost_push m all h ∙ ap (take m) (placed_last h (foremost m all) (later (foremost m all) earlier f.high))
        ∙ ap (λ n. take n (foremost m all ++ h ∷ [])) (sym f.many) ∙ take-append_seam (foremost m all) (h ∷ [])

-- ---- the first are chosen

after_both : (a b c : Hit) → is_gt (rank_cmp a b) ≡ false → is_gt (rank_cmp b c) ≡ false → is_gt (rank_cmp a c) ≡ false
after_both a b c first second = grind (arith, nat_tests)

at_most : (a b : Hit) → is_gt (rank_cmp a b) ≡ false → b.score ≤ a.score
at_most a b ahead = grind (arith, nat_tests)

module _ (kept new : List Hit) (m : ℕ) (last : Hit) (has : HasFirst kept new m last) where
  size : length new ≡ m
  size = ap (λ (l : List Hit). length l) has.are ∙ length-append has.front (last ∷ []) ∙ sym has.size

  moved : IsPermutation kept (new ++ has.others)
  moved = subst (IsPermutation kept) (sym (append_assoc has.front (last ∷ []) has.others) ∙ ap (λ (l : List Hit). l ++ has.others) (sym has.are)) has.same

  above : AreAhead new has.others
  above = subst (λ l. AreAhead l has.others) (sym has.are) (all_append (λ a. AllByRecursion (λ b. is_gt (rank_cmp a b) ≡ false) has.others) has.front (last ∷ [])
      (all_weaker (λ a. AllByRecursion (λ b. is_gt (rank_cmp a b) ≡ false) (last ∷ [])) (λ a. AllByRecursion (λ b. is_gt (rank_cmp a b) ≡ false) has.others)
      (λ a ahead. all_weaker (λ b. is_gt (rank_cmp last b) ≡ false) (λ b. is_gt (rank_cmp a b) ≡ false) (λ b behind. after_both a last b ahead.0 behind) has.others has.behind.0) has.front has.ahead)
      has.behind)

  high : AllByRecursion (λ (h : Hit). last.score ≤ h.score) new
  high = subst (AllByRecursion (λ (h : Hit). last.score ≤ h.score)) (sym has.are) (all_append (λ (h : Hit). last.score ≤ h.score) has.front (last ∷ [])
      (all_weaker (λ a. AllByRecursion (λ b. is_gt (rank_cmp a b) ≡ false) (last ∷ [])) (λ (h : Hit). last.score ≤ h.score) (λ a ahead. at_most a last ahead.0) has.front has.ahead)
      (omega arith, tt))

  ranking : sorted rank_cmp new ≡ foremost m kept
  ranking = first_part rank_cmp rank_total rank_same kept new has.others m moved above (let n = size in omega arith) (λ less. absurd (let n = size in omega arith))

  pub chosen : (floor : ℕ) (all : List Hit) → Holds m floor kept all → Holds m last.score new all
  chosen floor all holds = record {
    first = ap (take m) ranking ∙ take-take m m (sorted rank_cmp kept) (omega arith) ∙ holds.first;
    full = inr (subst (AreFull m last.score) (ranking ∙ holds.first) (record {
      many = length_sorted rank_cmp new ∙ size;
      high = all_sorted rank_cmp (λ (h : Hit). last.score ≤ h.score) new high;
    }));
  }

  last_behind : sorted rank_cmp (has.front ++ last ∷ []) ≡ sorted rank_cmp has.front ++ last ∷ []
  last_behind = one_order rank_cmp rank_total rank_same (sorted rank_cmp (has.front ++ last ∷ [])) (sorted rank_cmp has.front ++ last ∷ []) (sorted_ascends rank_cmp rank_total (has.front ++ last ∷ []))
      (ascends_append rank_cmp (sorted rank_cmp has.front) (last ∷ []) (sorted_ascends rank_cmp rank_total has.front) (tt, tt)
      (all_sorted rank_cmp (λ a. AllByRecursion (λ b. is_gt (rank_cmp a b) ≡ false) (last ∷ [])) has.front has.ahead)) sums
    where
      sums : (f : Hit → ℕ) → sum_by f (sorted rank_cmp (has.front ++ last ∷ [])) ≡ sum_by f (sorted rank_cmp has.front ++ last ∷ [])
      sums f =
          let a = sum_by-sorted rank_cmp f (has.front ++ last ∷ []) in
          let b = sum_by-sorted rank_cmp f has.front in
          let c = sum_by-append f has.front (last ∷ []) in
          let d = sum_by-append f (sorted rank_cmp has.front) (last ∷ []) in
          omega arith

  at_end : (xs : List Hit) → slice_get (xs ++ last ∷ []) (length xs) ≡ Some last
  at_end [] = refl
  at_end (x ∷ xs) = at_end xs

  pub last_is : (floor k : ℕ) (scores : List ℕ) → m ≡ k + 1 → Holds m floor kept (hits_from 0 scores) → Some last ≡ slice_get (first_ranked scores (k + 1)) k
  last_is floor k scores is holds = sym (ap (λ n. slice_get (first_ranked scores n) k) (sym is) ∙ ap (λ (l : List Hit). slice_get l k) (sym holds.first ∙ sym ranking ∙ ap (sorted rank_cmp) has.are ∙ last_behind)
      ∙ ap (slice_get (sorted rank_cmp has.front ++ last ∷ [])) (let a = length_sorted rank_cmp has.front in let b = has.size in omega arith) ∙ at_end (sorted rank_cmp has.front))

pub none_is : (m floor k : ℕ) (kept : List Hit) (scores : List ℕ) → length kept < m → m ≡ k + 1 → Holds m floor kept (hits_from 0 scores) → None ≡ slice_get (first_ranked scores (k + 1)) k
none_is m floor k kept scores few is holds = sym (ap (λ n. slice_get (first_ranked scores n) k) (sym is) ∙ slice_get_past (foremost m (hits_from 0 scores)) k
    (let a = ap (λ (l : List Hit). length l) holds.first in let b = length-take m (sorted rank_cmp kept) in let c = length_sorted rank_cmp kept in omega arith))

-- ---- hits by rising document

abbrev here : ℕ → ℕ → List Hit
here doc score = if score == 0 then [] else record { doc = doc; score = score } ∷ []

next_hit : (from d : ℕ) (scores : List ℕ) → d < length scores → hits_from from (take (suc d) scores) ≡ hits_from from (take d scores) ++ here (from + d) (get_or scores d 0)
next_hit from d [] inside = absurd (omega arith)
next_hit from zero (s ∷ scores) inside = let e : from + 0 ≡ from = omega arith in ap (λ n. here n s) (sym e)
next_hit from (suc d) (s ∷ scores) inside = step (s == 0) (next_hit (from + 1) d scores (omega arith)) where
  step : (b : Bool) → hits_from (from + 1) (take (suc d) scores) ≡ hits_from (from + 1) (take d scores) ++ here (from + 1 + d) (get_or scores d 0)
      → (if b then hits_from (from + 1) (take (suc d) scores) else record { doc = from; score = s } ∷ hits_from (from + 1) (take (suc d) scores))
      ≡ (if b then hits_from (from + 1) (take d scores) else record { doc = from; score = s } ∷ hits_from (from + 1) (take d scores)) ++ here (from + suc d) (get_or scores d 0)
  step true rest = let e : from + 1 + d ≡ from + suc d = omega arith in rest ∙ ap (λ n. hits_from (from + 1) (take d scores) ++ here n (get_or scores d 0)) e
  step false rest = let e : from + 1 + d ≡ from + suc d = omega arith in ap (λ (l : List Hit). record { doc = from; score = s } ∷ l) (rest ∙ ap (λ n. hits_from (from + 1) (take d scores) ++ here n (get_or scores d 0)) e)

below : (d : ℕ) (scores : List ℕ) → AllByRecursion (λ (h : Hit). h.doc < d) (hits_from 0 (take d scores))
below d scores = hits_each (λ (h : Hit). h.doc < d) 0 (take d scores) (λ i inside some. let n = length-take d scores in omega arith)

-- a document comes
module _ (m floor : ℕ) (kept : List Hit) (h : Hit) (scores : List ℕ) (inside : h.doc < length scores) (is : h.score ≡ get_or scores h.doc 0) (holds : Holds m floor kept (hits_from 0 (take h.doc scores))) where
  more : hits_from 0 (take (h.doc + 1) scores) ≡ hits_from 0 (take h.doc scores) ++ here h.doc h.score
  more =
      let e : h.doc + 1 ≡ suc h.doc = omega arith in
      let z : 0 + h.doc ≡ h.doc = omega arith in
      ap (λ n. hits_from 0 (take n scores)) e ∙ next_hit 0 h.doc scores inside ∙ ap (λ n. hits_from 0 (take h.doc scores) ++ here n (get_or scores h.doc 0)) z ∙ ap (λ n. hits_from 0 (take h.doc scores) ++ here h.doc n) (sym is)

  with_score : 1 ≤ h.score → hits_from 0 (take (h.doc + 1) scores) ≡ hits_from 0 (take h.doc scores) ++ h ∷ []
  with_score some = let f : (h.score == 0) ≡ false = grind (arith, nat_tests) in more ∙ ap (λ (b : Bool). hits_from 0 (take h.doc scores) ++ (if b then [] else h ∷ [])) f

  without_score : h.score ≡ 0 → hits_from 0 (take (h.doc + 1) scores) ≡ hits_from 0 (take h.doc scores)
  without_score none = let t : (h.score == 0) ≡ true = eq-eqb h.score 0 none in more ∙ ap (λ (b : Bool). hits_from 0 (take h.doc scores) ++ (if b then [] else h ∷ [])) t ∙ append-nil (hits_from 0 (take h.doc scores))

  pub missed : h.score ≤ floor → Holds m floor kept (hits_from 0 (take (h.doc + 1) scores))
  missed low = by (cases_eq h.score 0) where
    by : (h.score ≡ 0) ⊎ (h.score ≡ 0 → ⊥) → Holds m floor kept (hits_from 0 (take (h.doc + 1) scores))
    by (inl e) = subst (Holds m floor kept) (sym (without_score e)) holds
    by (inr apart) = subst (Holds m floor kept) (sym (with_score (omega arith))) (passed_over m floor kept (hits_from 0 (take h.doc scores)) h (omega arith) low (below h.doc scores) holds)

  pub taken_in : floor < h.score → Holds m floor (kept ++ h ∷ []) (hits_from 0 (take (h.doc + 1) scores))
  taken_in high = subst (Holds m floor (kept ++ h ∷ [])) (sym (with_score (omega arith))) (pushed m floor kept (hits_from 0 (take h.doc scores)) h (omega arith) holds)

-- ---- what a selection by rank puts in front and behind

turned : (a b : Hit) → is_lt (rank_cmp b a) ≡ false → is_gt (rank_cmp a b) ≡ false
turned a b behind = grind (arith, nat_tests)

pub in_front : (front : List Reach) (last : Reach) → ((k : ℕ) (d : Reach) → k < length front → is_lt (rank_cmp (hit_of last) (hit_of (get_or front k d))) ≡ false) → AreAhead (map hit_of front) (hit_of last ∷ [])
in_front [] last split = tt
in_front (x ∷ xs) last split = ((turned (hit_of x) (hit_of last) (split 0 x (omega arith)), tt), in_front xs last (λ k d inside. split (suc k) d (omega arith)))

pub in_back : (last : Reach) (back : List Reach) → ((k : ℕ) (d : Reach) → k < length back → is_lt (rank_cmp (hit_of (get_or back k d)) (hit_of last)) ≡ false) → AreAhead (hit_of last ∷ []) (map hit_of back)
in_back last back split = (each back split, tt) where
  each : (ys : List Reach) → ((k : ℕ) (d : Reach) → k < length ys → is_lt (rank_cmp (hit_of (get_or ys k d)) (hit_of last)) ≡ false) → AllByRecursion (λ y. is_gt (rank_cmp (hit_of last) y) ≡ false) (map hit_of ys)
  each [] split = tt
  each (y ∷ ys) split = (turned (hit_of last) (hit_of y) (split 0 y (omega arith)), each ys (λ k d inside. split (suc k) d (omega arith)))

-- what stands in place of nothing
pub put_behind : (done : Bool) (was more now : List Reach) → now ≡ (if done then was ++ more else was) → done ≡ true → was ≡ [] → now ≡ more
put_behind true was more now is e none = is ∙ ap (λ (l : List Reach). l ++ more) none
put_behind false was more now is e none = absurd (true≢false (sym e))
