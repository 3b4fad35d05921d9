-- Documents with their scores, each once: they are some of all hits, so that no more of them are ahead of one than of all.
use Rattle.shared_lemmas.proofs.Common.{◌≡◌, ℕ, zero, suc, ◌<◌, ◌≤◌, ◌==◌, List, [], ◌∷◌, length, take, get_or, sum_by, Bool, true, false, cond, refl, sym, ap, subst, ◌∙◌, arith, inl, inr, ◌⊎◌, eq-eqb, IsPermutation, AllByRecursion, is_lt, is_gt, nat_tests}
use Rattle.shared_lemmas.proofs.Common.{sum_by-IsPermutation, IsPermutation-refl, IsPermutation-cons, IsPermutation-trans, IsPermutation-middle, sum_by-cons}
use Rattle.shared_lemmas.proofs.Members.{In, all_at, all_in}
use Rattle.shared_lemmas.proofs.Lists.{all_weaker}
use Rattle.jass_base.specs.declared.answer.Hit.{Hit}
use Rattle.ranking_model.specs.Order.{sorted}
use Rattle.ranking_model.specs.Scores.{rank_cmp, hits_from, first_ranked}
use Rattle.ranking_model.proofs.Sorting.{Ascends, sum_by-sorted, sorted_ascends}
use Rattle.ranking_model.proofs.Orders.{rank_total}
use Rattle.ranking_model.proofs.Candidates.{Pulled, in_hits}
use Rattle.max_score.specs.Private.Standing.{AreScored, IsBeaten, hit_of}

abbrev pub of_doc : ℕ → Hit → ℕ
of_doc doc hit = cond (hit.doc == doc) 1 0

-- a hit of a document counts for it
pub counts : (hit : Hit) (hits : List Hit) → In hit hits → 1 ≤ sum_by (of_doc hit.doc) hits
counts hit [] there = absurd there
counts hit (x ∷ xs) (inl e) =
    let s = sum_by-cons (of_doc hit.doc) x xs in
    let t : (x.doc == hit.doc) ≡ true = eq-eqb x.doc hit.doc (ap (λ (h : Hit). h.doc) (sym e)) in
    rw (s, t) (omega arith)
counts hit (x ∷ xs) (inr k) = let s = sum_by-cons (of_doc hit.doc) x xs in let rest = counts hit xs k in omega arith

-- an item of a list, put in front of the others
pulled : (x : Hit) (xs : List Hit) → In x xs → Pulled x xs
pulled x [] h = absurd h
pulled x (y ∷ ys) (inl e) = record {
  rest = ys;
  moved = subst (λ z. IsPermutation (y ∷ ys) (z ∷ ys)) (sym e) (IsPermutation-refl (y ∷ ys));
  back = λ z there. inr there;
  left = λ z there. turn z there;
}
  where
    turn : (z : Hit) → (z ≡ y) ⊎ In z ys → (z ≡ x) ⊎ In z ys
    turn z (inl f) = inl (f ∙ sym e)
    turn z (inr k) = inr k
pulled x (y ∷ ys) (inr h) = behind y ys (pulled x ys h) where
  behind : (y : Hit) (ys : List Hit) → Pulled x ys → Pulled x (y ∷ ys)
  behind y ys p = record {
    rest = y ∷ p.rest;
    moved = IsPermutation-trans (y ∷ ys) (y ∷ x ∷ p.rest) (x ∷ y ∷ p.rest) (IsPermutation-cons y ys (x ∷ p.rest) p.moved) (IsPermutation-middle (y ∷ []) x p.rest);
    back = λ z there. back z there;
    left = λ z there. turn z there;
  }
    where
      back : (z : Hit) → (z ≡ y) ⊎ In z p.rest → (z ≡ y) ⊎ In z ys
      back z (inl e) = inl e
      back z (inr k) = inr (p.back z k)

      turn : (z : Hit) → (z ≡ y) ⊎ In z ys → (z ≡ x) ⊎ ((z ≡ y) ⊎ In z p.rest)
      turn z (inl e) = inr (inl e)
      turn z (inr k) = elim (p.left z k) [ inl e ↦ inl e | inr l ↦ inr (inr l) ]

-- some of the items of a list, each document once, add up to no more than all
some_of_all : (f : Hit → ℕ) (hits all : List Hit) → ((doc : ℕ) → sum_by (of_doc doc) hits ≤ 1) → AllByRecursion (λ h. In h all) hits → sum_by f hits ≤ sum_by f all
some_of_all f [] all once inside = omega arith
some_of_all f (x ∷ xs) all once inside = by (pulled x all inside.0) (λ rest k. some_of_all f xs rest (λ d. fewer d) k) where
  fewer : (d : ℕ) → sum_by (of_doc d) xs ≤ 1
  fewer d = let s = sum_by-cons (of_doc d) x xs in let few = once d in omega arith

  apart : (y : Hit) → In y xs → y ≡ x → ⊥
  apart y there e =
      let s = sum_by-cons (of_doc x.doc) x xs in
      let t : ◌≡◌ {A = ℕ} (cond (x.doc == x.doc) 1 0) 1 = ap (λ (b : Bool). cond {A = ℕ} b 1 0) (eq-eqb x.doc x.doc refl) in
      let one = subst (λ (z : Hit). 1 ≤ sum_by (of_doc z.doc) xs) e (counts y xs there) in
      let few = once x.doc in
      absurd (omega arith)

  by : Pulled x all → ((rest : List Hit) → AllByRecursion (λ h. In h rest) xs → sum_by f xs ≤ sum_by f rest) → sum_by f (x ∷ xs) ≤ sum_by f all
  by p later =
      let still : AllByRecursion (λ h. In h p.rest) xs = all_in (λ h. In h p.rest) xs (λ y there. stay y (p.left y (all_at (λ h. In h all) xs y inside.1 there)) (apart y there)) in
      let more = later p.rest still in
      let s = sum_by-cons f x xs in
      let t = sum_by-cons f x p.rest in
      let moved = sum_by-IsPermutation f all (x ∷ p.rest) p.moved in
      omega arith
    where
      stay : (y : Hit) → (y ≡ x) ⊎ In y p.rest → (y ≡ x → ⊥) → In y p.rest
      stay y (inl e) no_one = absurd (no_one e)
      stay y (inr k) no_one = k

-- documents with their scores are among all hits
pub among_hits : (scores : List ℕ) (hits : List Hit) → AreScored scores hits → AllByRecursion (λ h. In h (hits_from 0 scores)) hits
among_hits scores hits are = all_weaker (λ (h : Hit). (h.doc < length scores) × (1 ≤ h.score) × (h.score ≡ get_or scores h.doc 0)) (λ h. In h (hits_from 0 scores))
    (λ h own. in_hits 0 scores h h.doc (omega arith) own.0 own.1 own.2) hits are.scored

abbrev pub ahead_of : Hit → Hit → ℕ
ahead_of hit h = cond (is_lt (rank_cmp h hit)) 1 0

all_count : (hit : Hit) (hits : List Hit) → AllByRecursion (λ h. is_lt (rank_cmp h hit) ≡ true) hits → sum_by (ahead_of hit) hits ≡ length hits
all_count hit [] all = refl
all_count hit (x ∷ xs) all = let s = sum_by-cons (ahead_of hit) x xs in let t = all.0 in let rest = all_count hit xs all.1 in rw (s, t) (omega arith)

none_behind : (hit x : Hit) (xs : List Hit) → hit ≡ x → AllByRecursion (λ y. is_gt (rank_cmp x y) ≡ false) xs → sum_by (ahead_of hit) xs ≡ 0
none_behind hit x [] e after = refl
none_behind hit x (y ∷ ys) e after =
    let s = sum_by-cons (ahead_of hit) y ys in
    let rest = none_behind hit x ys e after.1 in
    let score : hit.score ≡ x.score = ap (λ (h : Hit). h.score) e in
    let doc : hit.doc ≡ x.doc = ap (λ (h : Hit). h.doc) e in
    let behind = after.0 in
    let f : is_lt (rank_cmp y hit) ≡ false = grind (arith, nat_tests) in
    rw (s, f) (omega arith)

itself : (hit x : Hit) → hit ≡ x → is_lt (rank_cmp x hit) ≡ false
itself hit x e =
    let score : hit.score ≡ x.score = ap (λ (h : Hit). h.score) e in
    let doc : hit.doc ≡ x.doc = ap (λ (h : Hit). h.doc) e in
    grind (arith, nat_tests)

-- fewer than m hits are ahead of one of the first m
few_ahead : (hit : Hit) (m : ℕ) (xs : List Hit) → Ascends rank_cmp xs → In hit (take m xs) → sum_by (ahead_of hit) xs < m
few_ahead hit zero xs order there = absurd there
few_ahead hit (suc m) [] order there = absurd there
few_ahead hit (suc m) (x ∷ xs) order (inl e) =
    let s = sum_by-cons (ahead_of hit) x xs in
    let f = itself hit x e in
    let rest = none_behind hit x xs e order.0 in
    rw (s, f) (omega arith)
few_ahead hit (suc m) (x ∷ xs) order (inr there) =
    omega (arith, sum_by-cons (ahead_of hit) x xs, few_ahead hit m xs order.1 there, at_most_one (is_lt (rank_cmp x hit)))
  where
    at_most_one : (b : Bool) → cond {A = ℕ} b 1 0 ≤ 1
    at_most_one true = omega arith
    at_most_one false = omega arith

-- a document that is beaten is none of the first
pub beaten_isnt_first : (scores : List ℕ) (k doc : ℕ) → IsBeaten scores k doc → In (hit_of scores doc) (first_ranked scores k) → ⊥
beaten_isnt_first scores k doc beaten there =
    let hit : Hit = hit_of scores doc in
    let all : List Hit = hits_from 0 scores in
    let few = few_ahead hit k (sorted rank_cmp all) (sorted_ascends rank_cmp rank_total all) there in
    let same = sum_by-sorted rank_cmp (ahead_of hit) all in
    let most = some_of_all (ahead_of hit) beaten.ahead all beaten.are.once (among_hits scores beaten.ahead beaten.are) in
    let count = all_count hit beaten.ahead beaten.before in
    let many = beaten.many in
    absurd (omega arith)
