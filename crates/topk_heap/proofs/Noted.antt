-- Documents that are noted while scores rise over a heap.
use Rattle.shared_lemmas.proofs.Common.{◌≡◌, ◌≢◌, ℕ, ◌+◌, ◌<◌, ◌≤◌, ◌==◌, false, List, [], ◌++◌, length, map, get_or, refl, sym, subst, ◌∙◌, arith, inl, inr, ◌⊎◌, eq-eqb, All, AllPairs, Contains, AllByRecursion, cases_eq, cases_lt, nat_tests}
use Rattle.shared_lemmas.proofs.Common.{All-nil, All-permutation, Contains-append_right, Contains-permutation, IsDistinct-IsPermutation, recursion_from_All, All-from_recursion}
use Rattle.std.proofs.lemmas.Bool.Decides.{Decides-eqb}
use Rattle.std.proofs.lemmas.Map.Made.{AllPairs-from_IsDistinct, IsDistinct-from_AllPairs}
use Rattle.topk_heap.proofs.Below.{Hit, added, raised, score_to_pass, added-above, length-added, raised-all, raised-only, raised-once, first_ranked, runner_up}
use Rattle.shared_lemmas.proofs.Pairs.{pairs_by_places, pairs_by_recursion, pairs_append, pairs_map}
use Rattle.shared_lemmas.proofs.Members.{In, in_from_contains, contains_from_in, all_in}
use Rattle.shared_lemmas.proofs.Lists.{all_weaker, all_append, all_map}
use Rattle.topk_heap.specs.Hits.{hit_docs}
use Rattle.topk_heap.specs.Noting.{AreNoted, LetsPass, Passes, just_behind}
use Rattle.topk_heap.specs.Standing.{AreFirst, HaveFirst, IsTouched, TopStands, TopView, with_heap}
use Rattle.topk_heap.proofs.Ahead.{more_ahead}
use Rattle.topk_heap.proofs.Known.{first_passes, lets_pass, pass_first, passed, some_to_pass}
use Rattle.topk_heap.proofs.Lists.{in_append, in_left, in_map, in_right, pairs_index}
use Rattle.topk_heap.proofs.Raised.{heap_has, placed_after}
use Rattle.topk_heap.proofs.Ranking.{first_in_order, order_apart}

-- ---- nobody is noted, and those noted are cut

pub none_noted : (top : TopView) (scores places : List ℕ) → TopStands top scores places → AreNoted top (just_behind (runner_up scores top.k)) scores places []
none_noted top scores places stands = record {
  placed = placed_after top scores scores places refl (λ d. omega arith) stands;
  all = λ doc passes. contains_from_in (with_heap top []) doc
      (heap_has top scores places [] (record { doc = doc; score = get_or scores doc 0 }) stands (pass_first scores top.k doc passes));
  only = All-nil (Passes (just_behind (runner_up scores top.k)) scores);
  once = λ i j d before inside. absurd (omega (arith, inside));
  some = some_to_pass scores top.k;
  enough = lets_pass scores top.k;
}

pub noted_first : (top : TopView) (last : Hit) (scores places noted : List ℕ) → AreNoted top last scores places noted → HaveFirst scores (top.k + 1) (with_heap top noted)
noted_first top last scores places noted are = passed scores (with_heap top noted) (top.k + 1) last are.all are.enough

pub noted_touched : (top : TopView) (last : Hit) (scores places noted : List ℕ) → AreNoted top last scores places noted → All (IsTouched scores) noted
noted_touched top last scores places noted are i d here =
    let passes = are.only i d here in
    (passes.inside, (let a = are.some (get_or noted i d) in let b = passes.passed in omega arith))

flips : (a b : ℕ) → (a == b) ≡ (b == a)
flips a b = by (cases_eq a b) where
  by : (a ≡ b) ⊎ (a ≡ b → ⊥) → (a == b) ≡ (b == a)
  by (inl e) = eq-eqb a b e ∙ sym (eq-eqb b a (sym e))
  by (inr apart) = let f : (a == b) ≡ false = grind (arith, nat_tests) in let g : (b == a) ≡ false = grind (arith, nat_tests) in f ∙ sym g

module _ (top : TopView) (last : Hit) (scores places noted first : List ℕ) (are : AreNoted top last scores places noted) (moved : AreFirst scores (top.k + 1) first) where
  abbrev next : Hit
  next = just_behind (runner_up scores top.k)

  abbrev docs : List ℕ
  docs = hit_docs (first_ranked scores (top.k + 1))

  first_known : (doc : ℕ) → Passes next scores doc → Contains first doc
  first_known doc is = Contains-permutation docs first doc moved
      (contains_from_in docs doc (in_map (λ (h : Hit). h.doc) (record { doc = doc; score = get_or scores doc 0 }) (first_ranked scores (top.k + 1)) (pass_first scores top.k doc is)))

  first_pass : All (Passes next scores) docs
  first_pass = All-from_recursion (Passes next scores) docs (all_map (Passes next scores) (λ (h : Hit). h.doc) (first_ranked scores (top.k + 1))
      (all_in (λ (h : Hit). Passes next scores h.doc) (first_ranked scores (top.k + 1)) (first_passes scores top.k)))

  first_once : AllPairs (λ a b. a ≢ b) docs
  first_once = pairs_by_places (λ a b. a ≢ b) docs
      (pairs_map (λ (a b : ℕ). a ≢ b) (λ (h : Hit). h.doc) (first_ranked scores (top.k + 1)) (order_apart (first_ranked scores (top.k + 1)) (first_in_order scores (top.k + 1))))

  pub cut_noted : AreNoted top next scores places first
  cut_noted = record {
    placed = are.placed;
    all = λ doc is. Contains-append_right (map (λ (h : Hit). h.doc) top.hits) first doc (first_known doc is);
    only = All-permutation (Passes next scores) docs first moved first_pass;
    once = AllPairs-from_IsDistinct Decides-eqb first (IsDistinct-IsPermutation (λ a b. a == b) flips docs first moved (IsDistinct-from_AllPairs Decides-eqb docs first_once));
    some = some_to_pass scores top.k;
    enough = lets_pass scores top.k;
  }

-- ---- scores rise

module _ (top : TopView) (last : Hit) (w : ℕ) (docs s places noted : List ℕ) (are : AreNoted top last s places noted) (inside : All (λ doc. doc < length s) docs) where
  size : length (added w docs s) ≡ length s
  size = length-added w docs s

  later : (doc : ℕ) → Passes last s doc → Passes last (added w docs s) doc
  later doc is = record {
    inside = (let a = is.inside in let b = size in omega arith);
    passed = (let a = is.passed in let b = added-above w docs s doc in omega arith);
  }

  now : (doc : ℕ) → Contains (raised w last docs s) doc → Passes last (added w docs s) doc
  now doc has = let is = raised-only w doc last docs s inside has in record { inside = (let a = is.0 in let b = size in omega arith); passed = is.2 }

  only_all : AllByRecursion (Passes last (added w docs s)) (noted ++ raised w last docs s)
  only_all = all_append (Passes last (added w docs s)) noted (raised w last docs s)
      (all_weaker (Passes last s) (Passes last (added w docs s)) later noted (recursion_from_All (Passes last s) noted are.only))
      (all_in (Passes last (added w docs s)) (raised w last docs s) (λ doc there. now doc (contains_from_in (raised w last docs s) doc there)))

  across : AllByRecursion (λ a. AllByRecursion (λ b. a ≢ b) (raised w last docs s)) noted
  across = all_weaker (Passes last s) (λ a. AllByRecursion (λ b. a ≢ b) (raised w last docs s)) (λ a is. all_in (λ b. a ≢ b) (raised w last docs s)
      (λ b there same. let r = raised-only w b last docs s inside (contains_from_in (raised w last docs s) b there) in
      let low : get_or s a 0 < score_to_pass last a = subst (λ d. get_or s d 0 < score_to_pass last d) (sym same) r.1 in
      let high = is.passed in absurd (omega arith))) noted (recursion_from_All (Passes last s) noted are.only)

  with_more : (doc : ℕ) → Contains (with_heap top noted) doc → Contains (with_heap top (noted ++ raised w last docs s)) doc
  with_more doc has = contains_from_in (with_heap top (noted ++ raised w last docs s)) doc (by (in_append doc (map (λ (h : Hit). h.doc) top.hits) noted (in_from_contains (with_heap top noted) doc has))) where
    by : In doc (map (λ (h : Hit). h.doc) top.hits) ⊎ In doc noted → In doc (with_heap top (noted ++ raised w last docs s))
    by (inl k) = in_left doc (map (λ (h : Hit). h.doc) top.hits) (noted ++ raised w last docs s) k
    by (inr k) = in_right doc (map (λ (h : Hit). h.doc) top.hits) (noted ++ raised w last docs s) (in_left doc noted (raised w last docs s) k)

  all_noted : (doc : ℕ) → Passes last (added w docs s) doc → (get_or s doc 0 < score_to_pass last doc) ⊎ (score_to_pass last doc ≤ get_or s doc 0) → Contains (with_heap top (noted ++ raised w last docs s)) doc
  all_noted doc is (inl low) = Contains-append_right (map (λ (h : Hit). h.doc) top.hits) (noted ++ raised w last docs s) doc
      (Contains-append_right noted (raised w last docs s) doc (raised-all w doc last docs s (let a = is.inside in let b = size in omega arith) low is.passed))
  all_noted doc is (inr high) = with_more doc (are.all doc (record { inside = (let a = is.inside in let b = size in omega arith); passed = high }))

  still_lets : LetsPass last s (top.k + 1) → LetsPass last (added w docs s) (top.k + 1)
  still_lets (inl none) = inl none
  still_lets (inr many) = inr (let more = more_ahead last 0 s (added w docs s) (sym size) (added-above w docs s) in omega (arith, more, many))

  pub more_noted : AreNoted top last (added w docs s) places (noted ++ raised w last docs s)
  more_noted = record {
    placed = record {
      touched = all_weaker (λ (h : Hit). IsTouched s h.doc) (λ (h : Hit). IsTouched (added w docs s) h.doc)
          (λ h is. ((let a = is.0 in let b = size in omega arith), (let a = is.1 in let b = added-above w docs s h.doc in omega arith))) top.hits are.placed.touched;
      placed = are.placed.placed;
    };
    all = λ doc is. all_noted doc is (cases_lt (get_or s doc 0) (score_to_pass last doc));
    only = λ i d here. All-from_recursion (Passes last (added w docs s)) (noted ++ raised w last docs s) only_all i d here;
    once = pairs_index (λ a b. a ≢ b) (noted ++ raised w last docs s) (pairs_append (λ a b. a ≢ b) noted (raised w last docs s)
        (pairs_by_recursion (λ a b. a ≢ b) noted are.once) (pairs_by_recursion (λ a b. a ≢ b) (raised w last docs s) (raised-once w last docs s inside)) across);
    some = are.some;
    enough = still_lets are.enough;
  }

-- the same of what calls leave
pub noted_now : (top : TopView) (last : Hit) (w : ℕ) (docs s new places places' noted noted' : List ℕ) → AreNoted top last s places noted → All (λ doc. doc < length s) docs
    → new ≡ added w docs s → places' ≡ places → noted' ≡ noted ++ raised w last docs s → AreNoted top last new places' noted'
noted_now top last w docs s new places places' noted noted' are inside is same notes = subst (λ (n : List ℕ). AreNoted top last n places' noted') (sym is)
    (subst (λ (p : List ℕ). AreNoted top last (added w docs s) p noted') (sym same)
    (subst (λ (m : List ℕ). AreNoted top last (added w docs s) places m) (sym notes) (more_noted top last w docs s places noted are inside)))

-- the same where the heap stood
pub batch_noted : (top : TopView) (last : Hit) (w n : ℕ) (docs s new places places' noted noted' seen : List ℕ) → TopStands top s places → length s ≡ n → All (λ doc. doc < n) docs
    → last ≡ just_behind (runner_up s top.k) → new ≡ added w docs s → places' ≡ places → noted ≡ [] → noted' ≡ noted ++ raised w last docs s → seen ≡ noted' → AreNoted top last new places' seen
batch_noted top last w n docs s new places places' noted noted' seen stands size inside told is same cleared notes seen_is =
    subst (λ (m : List ℕ). AreNoted top last new places' m) (sym seen_is) (noted_now top last w docs s new places places' noted noted'
    (subst (λ (m : List ℕ). AreNoted top last s places m) (sym cleared) (subst (λ (h : Hit). AreNoted top h s places []) (sym told) (none_noted top s places stands)))
    (subst (λ (m : ℕ). All (λ doc. doc < m) docs) (sym size) inside) is same notes)
