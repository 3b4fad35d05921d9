-- Segments that differ in place or weight are the segments of their postings.
use Rattle.shared_lemmas.proofs.Common.{◌≡◌, ◌≢◌, ℕ, List, [], ◌∷◌, ◌++◌, map, true, false, refl, sym, ap, ◌∙◌, arith, fold, append_assoc, append-nil, ◌&&◌, ◌==◌, AllByRecursion, nat_tests, fold-append}
use Rattle.std.proofs.Common.{flat_map}
use Rattle.shared_lemmas.proofs.Pairs.{Pairs}
use Rattle.ranking_model.specs.declared.posting.WeightedPosting.{WeightedPosting}
use Rattle.ranking_model.specs.declared.plan_segment.PlanSegment.{PlanSegment}
use Rattle.ranking_model.specs.Plan.{is_of, begun, joined, postings_of, plan_cmp, plan_segments}
use Rattle.ranking_model.specs.Order.{sorted}
use Rattle.ranking_model.proofs.Grouping.{more}

abbrev pub Differ : PlanSegment → PlanSegment → Type 0
Differ a b = a.term_place ≡ b.term_place → a.weight ≢ b.weight

-- a posting of none of the segments begins one behind them
begins_behind : (cs : List PlanSegment) (p : WeightedPosting) → AllByRecursion (λ c. is_of c p ≡ false) cs → joined cs p ≡ cs ++ begun p ∷ []
begins_behind [] p h = refl
begins_behind (c ∷ cs) p h = let other : is_of c p ≡ false = h.0 in rw other (ap (λ l. c ∷ l) (begins_behind cs p h.1))

-- a posting of the last segment joins it
joins_last : (cs : List PlanSegment) (c : PlanSegment) (p : WeightedPosting) → AllByRecursion (λ d. is_of d p ≡ false) cs → is_of c p ≡ true → joined (cs ++ c ∷ []) p ≡ cs ++ more c p.doc ∷ []
joins_last [] c p h e = rw e refl
joins_last (d ∷ cs) c p h e = let other : is_of d p ≡ false = h.0 in rw other (ap (λ l. d ∷ l) (joins_last cs c p h.1 e))

other_posting : (d c : PlanSegment) (doc : ℕ) → Differ d c → is_of d (record { term_place = c.term_place; doc = doc; weight = c.weight }) ≡ false
other_posting d c doc h = by d.term_place c.term_place d.weight c.weight h where
  by : (p q v w : ℕ) → (p ≡ q → v ≢ w) → ((p == q) && (v == w)) ≡ false
  by p q v w h = grind (arith, nat_tests)

others : (cs : List PlanSegment) (c : PlanSegment) (doc : ℕ) → AllByRecursion (λ d. Differ d c) cs → AllByRecursion (λ d. is_of d (record { term_place = c.term_place; doc = doc; weight = c.weight }) ≡ false) cs
others [] c doc h = tt
others (d ∷ cs) c doc h = (other_posting d c doc h.0, others cs c doc h.1)

own : (c : PlanSegment) (docs : List ℕ) (doc : ℕ) → is_of (record c { docs = docs }) (record { term_place = c.term_place; doc = doc; weight = c.weight }) ≡ true
own c docs doc = grind (arith, nat_tests)

abbrev posting : PlanSegment → ℕ → WeightedPosting
posting c doc = record { term_place = c.term_place; doc = doc; weight = c.weight }

-- the rest of a segment's postings join it
fold_rest : (cs : List PlanSegment) (c : PlanSegment) (before docs : List ℕ) → AllByRecursion (λ d. Differ d c) cs → fold joined (cs ++ record c { docs = before } ∷ []) (map (λ doc. record { term_place = c.term_place; doc = doc; weight = c.weight }) docs) ≡ cs ++ record c { docs = before ++ docs } ∷ []
fold_rest cs c before [] h = ap (λ l. cs ++ record c { docs = l } ∷ []) (sym (append-nil before))
fold_rest cs c before (doc ∷ docs) h =
    let one = joins_last cs (record c { docs = before }) (record { term_place = c.term_place; doc = doc; weight = c.weight }) (others cs c doc h) (own c before doc) in
    ap (λ l. fold joined l (map (posting c) docs)) one ∙ fold_rest cs c (before ++ doc ∷ []) docs h ∙ ap (λ l. cs ++ record c { docs = l } ∷ []) (append_assoc before (doc ∷ []) docs)

fold_segment : (cs : List PlanSegment) (c : PlanSegment) → AllByRecursion (λ d. Differ d c) cs → c.docs ≢ [] → fold joined cs (postings_of c) ≡ cs ++ c ∷ []
fold_segment cs c h some = by c.docs refl where
  by : (docs : List ℕ) → c.docs ≡ docs → fold joined cs (postings_of c) ≡ cs ++ c ∷ []
  by [] e = absurd (some e)
  by (doc ∷ docs) e =
      let first = begins_behind cs (record { term_place = c.term_place; doc = doc; weight = c.weight }) (others cs c doc h) in
      let rest = fold_rest cs c (doc ∷ []) docs h in
      let whole : record c { docs = doc ∷ docs } ≡ c = ap (λ l. record c { docs = l }) (sym e) in
      ap (λ l. fold joined cs (map (posting c) l)) e ∙ ap (λ l. fold joined l (map (posting c) docs)) first ∙ rest ∙ ap (λ k. cs ++ k ∷ []) whole

fold_segments : (done cs : List PlanSegment) → AllByRecursion (λ c. c.docs ≢ []) cs → AllByRecursion (λ c. AllByRecursion (λ d. Differ d c) done) cs → Pairs Differ cs → fold joined done (flat_map postings_of cs) ≡ done ++ cs
fold_segments done [] some apart p = sym (append-nil done)
fold_segments done (c ∷ cs) some apart p =
    let first = fold_segment done c apart.0 some.0 in
    fold-append joined done (postings_of c) (flat_map postings_of cs) ∙ rw first (fold_segments (done ++ c ∷ []) cs some.1 (with_one done c cs apart.1 p.0) p.1 ∙ append_assoc done (c ∷ []) cs)
  where
    push : (done : List PlanSegment) (c x : PlanSegment) → AllByRecursion (λ d. Differ d x) done → Differ c x → AllByRecursion (λ d. Differ d x) (done ++ c ∷ [])
    push [] c x h k = (k, tt)
    push (d ∷ ds) c x h k = (h.0, push ds c x h.1 k)

    with_one : (done : List PlanSegment) (c : PlanSegment) (cs : List PlanSegment) → AllByRecursion (λ x. AllByRecursion (λ d. Differ d x) done) cs → AllByRecursion (λ x. Differ c x) cs → AllByRecursion (λ x. AllByRecursion (λ d. Differ d x) (done ++ c ∷ [])) cs
    with_one done c [] h k = tt
    with_one done c (x ∷ xs) h k = (push done c x h.0 k.0, with_one done c xs h.1 k.1)

nothing_before : (cs : List PlanSegment) → AllByRecursion (λ c. AllByRecursion (λ d. Differ d c) []) cs
nothing_before [] = tt
nothing_before (c ∷ cs) = (tt, nothing_before cs)

pub segments_are : (cs : List PlanSegment) → AllByRecursion (λ c. c.docs ≢ []) cs → Pairs Differ cs → plan_segments (flat_map postings_of cs) ≡ sorted plan_cmp cs
segments_are cs some apart = ap (sorted plan_cmp) (fold_segments [] cs some (nothing_before cs) apart)
