-- Where k documents are certain, they are the first k under all gains within the limits.
use Rattle.shared_lemmas.proofs.Common.{◌≡◌, ◌≢◌, ℕ, ◌+◌, ◌≤◌, ◌==◌, List, [], ◌∷◌, length, map, count_by, Bool, true, false, cond, refl, sym, ap, subst, ◌∙◌, arith, inl, inr, ◌⊎◌, IsPermutation}
use Rattle.shared_lemmas.proofs.Common.{AllByRecursion, cases_Bool, sum_by-cons, count_by-le-length, length-map, length-take, length_permutation, IsPermutation-refl, IsPermutation-sym, IsPermutation-trans, IsPermutation-cons, IsPermutation-middle}
use Rattle.shared_lemmas.proofs.Lists.{all_map}
use Rattle.shared_lemmas.proofs.Members.{In, in_from_contains, all_at, all_in}
use Rattle.shared_lemmas.proofs.Pairs.{Pairs}
use Rattle.jass_base.specs.declared.answer.Hit.{Hit}
use Rattle.ranking_model.specs.Order.{sorted}
use Rattle.ranking_model.specs.Scores.{rank_cmp, hits_from, first_ranked}
use Rattle.ranking_model.specs.Finality.{raised, first_documents, IsKeptWithin}
use Rattle.ranking_model.proofs.Candidates.{count_doc}
use Rattle.final_certificate.proofs.Edges.{parted}
use Rattle.final_certificate.proofs.Refuting.{count_own}
use Rattle.final_certificate.proofs.Deciding.{of_scores, once, first_is}
use Rattle.sharp_bounds.proofs.Changing.{one_there}
use Rattle.certain_hits.specs.Rule.{rival, stands_ahead, certain_count}
use Rattle.certain_hits.proofs.Counting.{IsHitOf, hits_of, of_docs}
use Rattle.certain_hits.proofs.Deciding.{certain_by_ahead}

-- one of a list, put in front
record PulledOut (x : ℕ) (xs : List ℕ) : Type 0 where
  rest : List ℕ
  moved : IsPermutation xs (x ∷ rest)
  left : (y : ℕ) → In y xs → (y ≡ x) ⊎ In y rest

pulled : (x : ℕ) (xs : List ℕ) → In x xs → PulledOut x xs
pulled x [] h = absurd h
pulled x (y ∷ ys) (inl e) = record {
  rest = ys;
  moved = subst (λ z. IsPermutation (y ∷ ys) (z ∷ ys)) (sym e) (IsPermutation-refl (y ∷ ys));
  left = λ z there. turn z there;
}
  where
    turn : (z : ℕ) → (z ≡ y) ⊎ In z ys → (z ≡ x) ⊎ In z ys
    turn z (inl f) = inl (f ∙ sym e)
    turn z (inr k) = inr k
pulled x (y ∷ ys) (inr h) = behind (pulled x ys h) where
  behind : PulledOut x ys → PulledOut x (y ∷ ys)
  behind out = record {
    rest = y ∷ out.rest;
    moved = IsPermutation-trans (y ∷ ys) (y ∷ x ∷ out.rest) (x ∷ y ∷ out.rest) (IsPermutation-cons y ys (x ∷ out.rest) out.moved) (IsPermutation-middle (y ∷ []) x out.rest);
    left = λ z there. turn z there;
  }
    where
      turn : (z : ℕ) → (z ≡ y) ⊎ In z ys → (z ≡ x) ⊎ ((z ≡ y) ⊎ In z out.rest)
      turn z (inl e) = inr (inl e)
      turn z (inr k) = elim (out.left z k) [ inl e ↦ inl e | inr l ↦ inr (inr l) ]

-- different documents that are all among at most as many are these
covered : (xs ys : List ℕ) → Pairs (λ a b. a ≢ b) xs → AllByRecursion (λ x. In x ys) xs → length ys ≤ length xs → IsPermutation xs ys
covered [] [] apart there few = IsPermutation-refl []
covered [] (y ∷ ys) apart there few = absurd (omega arith)
covered (x ∷ xs) ys apart there few = with_first (pulled x ys there.0) (λ rest k l. covered xs rest apart.1 k l) where
  with_first : PulledOut x ys → ((rest : List ℕ) → AllByRecursion (λ z. In z rest) xs → length rest ≤ length xs → IsPermutation xs rest) → IsPermutation (x ∷ xs) ys
  with_first out later =
      let n = length_permutation (x ∷ out.rest) ys (IsPermutation-sym ys (x ∷ out.rest) out.moved) in
      IsPermutation-trans (x ∷ xs) (x ∷ out.rest) ys (IsPermutation-cons x xs out.rest (later out.rest (still xs apart.0 there.1) (omega arith))) (IsPermutation-sym ys (x ∷ out.rest) out.moved)
    where
      still : (zs : List ℕ) → AllByRecursion (λ z. x ≢ z) zs → AllByRecursion (λ z. In z ys) zs → AllByRecursion (λ z. In z out.rest) zs
      still [] a b = tt
      still (z ∷ zs) a b = (by (out.left z b.0), still zs a.1 b.1) where
        by : (z ≡ x) ⊎ In z out.rest → In z out.rest
        by (inl e) = absurd (a.0 (sym e))
        by (inr k) = k

all_counted : {A : Type 0} (p : A → Bool) (xs : List A) → count_by p xs ≡ length xs → AllByRecursion (λ x. p x ≡ true) xs
all_counted p [] h = tt
all_counted {A} p (x ∷ xs) h = by (cases_Bool (p x)) (λ same. all_counted p xs same) where
  split : count_by p (x ∷ xs) ≡ cond (p x) 1 0 + count_by p xs
  split = sum_by-cons (λ x. cond (p x) 1 0) x xs

  most : count_by p xs ≤ length xs
  most = count_by-le-length p xs

  by : (p x ≡ true) ⊎ (p x ≡ false) → (count_by p xs ≡ length xs → AllByRecursion (λ x. p x ≡ true) xs) → AllByRecursion (λ x. p x ≡ true) (x ∷ xs)
  by (inl t) rest = (t, rest (let one : cond {A = ℕ} (p x) 1 0 ≡ 1 = rw t refl in omega (arith, split, one, h)))
  by (inr f) rest = absurd (let none : cond {A = ℕ} (p x) 1 0 ≡ 0 = rw f refl in omega (arith, split, none, h, most))

docs_apart : (hits : List Hit) → ((d : ℕ) → count_doc d hits ≤ 1) → Pairs (λ a b. a ≢ b) (map (λ (h : Hit). h.doc) hits)
docs_apart [] once = tt
docs_apart (x ∷ xs) once = (all_in (λ d. x.doc ≢ d) (map (λ (h : Hit). h.doc) xs) (λ d there same. double d there same), docs_apart xs (λ d. fewer d)) where
  double : (d : ℕ) → In d (map (λ (h : Hit). h.doc) xs) → x.doc ≡ d → ⊥
  double d there same =
      let r = of_docs d xs there in
      let one = one_there r.0 xs r.2 in
      let here = ap (λ n. count_doc n xs) r.1 in
      let own = count_own d x xs same in
      let few = once d in
      absurd (omega arith)

  fewer : (d : ℕ) → count_doc d xs ≤ 1
  fewer d = let s = sum_by-cons (λ (h : Hit). cond (h.doc == d) 1 0) x xs in let few = once d in omega arith

pub certain_kept : (scores limits : List ℕ) (k : ℕ) → length limits ≡ length scores → certain_count k limits scores ≡ k → IsKeptWithin scores k limits
certain_kept scores limits k same all gains are = covered (first_documents scores k) (first_documents (raised scores gains) k)
    (docs_apart (first_ranked scores k) once_each)
    (all_map (λ d. In d (first_documents (raised scores gains) k)) (λ (h : Hit). h.doc) (first_ranked scores k) (all_in (λ (h : Hit). In h.doc (first_documents (raised scores gains) k)) (first_ranked scores k) (λ h there.
    in_from_contains (first_documents (raised scores gains) k) h.doc (certain_by_ahead scores limits k same h (all_at (IsHitOf scores) (first_ranked scores k) h (hits_of scores k) there)
    (all_at (λ h. stands_ahead (rival k limits scores) h ≡ true) (first_ranked scores k) h each there) gains are))))
    (let a = length-map (first_ranked scores k) (λ (h : Hit). h.doc) in let b = length-map (first_ranked (raised scores gains) k) (λ (h : Hit). h.doc) in let c = length-take k (sorted rank_cmp (hits_from 0 (raised scores gains))) in let d = many in omega arith)
  where
    size : length (first_ranked scores k) ≤ k
    size = let n = length-take k (sorted rank_cmp (hits_from 0 scores)) in omega arith

    most : certain_count k limits scores ≤ length (first_ranked scores k)
    most = count_by-le-length (stands_ahead (rival k limits scores)) (first_ranked scores k)

    many : length (first_ranked scores k) ≡ k
    many = omega (arith, size, most, all)

    each : AllByRecursion (λ h. stands_ahead (rival k limits scores) h ≡ true) (first_ranked scores k)
    each = all_counted (stands_ahead (rival k limits scores)) (first_ranked scores k) (omega (arith, many, all))

    once_each : (d : ℕ) → count_doc d (first_ranked scores k) ≤ 1
    once_each d =
        let here = ap (count_doc d) (first_is scores k) in
        let sum = parted (of_scores scores) k (λ (h : Hit). cond (h.doc == d) 1 0) in
        let few = once scores d in
        omega arith
