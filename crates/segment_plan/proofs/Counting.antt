-- A query has few segments, since those of one term differ in impact.
use Rattle.shared_lemmas.proofs.Common.{◌≡◌, ℕ, suc, ◌+◌, ◌*◌, ◌^◌, ◌<◌, ◌≤◌, ◌≢◌, List, [], ◌∷◌, length, map, get_or, true, false, eqb, eq-eqb, sym, ◌∙◌, arith, inl, inr, ◌⊎◌, AllPairs, list_any, IsDistinct, cases_Bool, get_or-map, length-map, length-le_from_distinct_below}
use Rattle.shared_lemmas.proofs.Common.{IsDistinct-from_AllPairs}
use borrow.Author.Tests.{eqb-true}
use Rattle.jass_base.specs.declared.query_term.QueryTerm.{QueryTerm}
use Rattle.segment_plan.specs.declared.entry.PlanHead.{PlanHead}
use Rattle.segment_plan.specs.Entries.{AreHeads, Fall}

abbrev key : PlanHead → ℕ
key head = head.term_place * 65536 + head.impact

abbrev pub none : PlanHead
none = record { term_place = 0; segment = 0; impact = 0; count = 0 }

any_below : (n q : ℕ) (xs : List ℕ) → ((i : ℕ) → i < length xs → get_or xs i 0 < n) → list_any (eqb q) xs ≡ true → q < n
any_below n q [] h e = cc
any_below n q (x ∷ xs) h e = by (cases_Bool (eqb q x)) (any_below n q xs (λ i k. h (suc i) (omega arith))) where
  by : (eqb q x ≡ true) ⊎ (eqb q x ≡ false) → (list_any (eqb q) xs ≡ true → q < n) → q < n
  by (inl t) rest = let same : q ≡ x = eqb-true _ _ t in let first = h 0 (omega arith) in omega arith
  by (inr f) rest = rest (rw f at e)

pub heads_are_few : (terms : List QueryTerm) (heads : List PlanHead) → AreHeads terms heads → length terms ≤ 256 → ((i : ℕ) → i < length heads → (get_or heads i none).impact < 65536) → length heads ≤ 2 ^ 24
heads_are_few terms heads are few small =
    let many = length-le_from_distinct_below (map key heads) (2 ^ 24) distinct (λ q. any_below (2 ^ 24) q (map key heads) below) in
    let same = length-map heads key in
    omega arith
  where
    at_key : (i : ℕ) (d : ℕ) → i < length heads → get_or (map key heads) i d ≡ key (get_or heads i none)
    at_key i d h = get_or-map key heads i none d h

    apart : (a b : PlanHead) → Fall a b → a.impact ≡ b.impact → ⊥
    apart a b (inl h) same = omega (arith, h.1)
    apart a b (inr h) same = omega (arith, h.1)

    below : (i : ℕ) → i < length (map key heads) → get_or (map key heads) i 0 < 2 ^ 24
    below i h =
        let within : i < length heads = let same = length-map heads key in omega arith in
        let term_place = are.inside i none within in let impact = small i within in let is = at_key i 0 within in
        omega arith

    differ : AllPairs (λ x y. x ≢ y) (map key heads)
    differ i j d a b e =
        let long = length-map heads key in
        let here : key (get_or heads i none) ≡ key (get_or heads j none) = sym (at_key i d (omega arith)) ∙ e ∙ at_key j d (omega arith) in
        let first = small i (omega arith) in
        let second = small j (omega arith) in
        let term_place : (get_or heads i none).term_place ≡ (get_or heads j none).term_place = omega arith in
        apart (get_or heads i none) (get_or heads j none) (are.fall i j none a (omega arith) term_place) (omega arith)

    distinct : IsDistinct eqb (map key heads)
    distinct = IsDistinct-from_AllPairs (λ a b. (eqb-true a b, eq-eqb a b)) (map key heads) differ
