-- Postings in order by place and weight join the last segment or begin one behind it.
use Rattle.shared_lemmas.proofs.Common.{◌≡◌, ℕ, suc, ◌+◌, ◌<◌, ◌≤◌, List, [], ◌∷◌, ◌++◌, length, get_or, set, take, drop, fold, zero, Bool, true, false, true≢false, refl, sym, ap, ◌∙◌, subst, arith, nat_tests, fold_more, ⊤, AllByRecursion, is_gt, IsTotalOrder, then_total, on_total, back_total}
use Rattle.shared_lemmas.proofs.Common.{nat_cmp_total, drop_more}
use native.Mathlib.Numerals.{unary_clauses}
use Rattle.ranking_model.specs.declared.plan_segment.PlanSegment.{PlanSegment}
use Rattle.ranking_model.specs.declared.posting.WeightedPosting.{WeightedPosting}
use Rattle.ranking_model.specs.Programs.{place_cmp}
use Rattle.ranking_model.specs.Private.Programs.{ends_in, last_with}
use Rattle.ranking_model.specs.Plan.{is_of, begun, joined}
use Rattle.ranking_model.proofs.Sorting.{Ascends}

pub place_total : IsTotalOrder place_cmp
place_total = then_total (on_total (λ (p : WeightedPosting). p.term_place) nat_cmp_total) (on_total (λ (p : WeightedPosting). p.weight) (back_total nat_cmp_total))

-- a segment isn't behind a posting, by place and weight
pub record NotBehind (c : PlanSegment) (p : WeightedPosting) : Type 0 where
  pub term_place : c.term_place ≤ p.term_place
  pub weight : c.term_place ≡ p.term_place → p.weight ≤ c.weight

pub not_behind : (p q : WeightedPosting) → is_gt (place_cmp p q) ≡ false → NotBehind (begun p) q
not_behind p q e = record { term_place = grind (arith, nat_tests); weight = grind (arith, nat_tests) }

-- the last of the segments isn't behind the postings to come, and the others are done with
abbrev pub Ready : List PlanSegment → List WeightedPosting → Type 0
Ready [] ps = ⊤
Ready (c ∷ []) ps = AllByRecursion (NotBehind c) ps
Ready (c ∷ d ∷ cs) ps = AllByRecursion (λ p. is_of c p ≡ false) ps × Ready (d ∷ cs) ps

-- a segment that isn't behind p, and isn't p's, is none of those from p on
passed : (c : PlanSegment) (p q : WeightedPosting) → NotBehind c p → is_of c p ≡ false → NotBehind (begun p) q → is_of c q ≡ false
passed c p q a e b = grind (arith, nat_tests)

all_passed : (c : PlanSegment) (p : WeightedPosting) (qs : List WeightedPosting) → NotBehind c p → is_of c p ≡ false → AllByRecursion (λ q. is_gt (place_cmp p q) ≡ false) qs → AllByRecursion (λ q. is_of c q ≡ false) qs
all_passed c p [] a e h = tt
all_passed c p (q ∷ qs) a e h = (passed c p q a e (not_behind p q h.0), all_passed c p qs a e h.1)

all_not_behind : (p : WeightedPosting) (qs : List WeightedPosting) → AllByRecursion (λ q. is_gt (place_cmp p q) ≡ false) qs → AllByRecursion (NotBehind (begun p)) qs
all_not_behind p [] h = tt
all_not_behind p (q ∷ qs) h = (not_behind p q h.0, all_not_behind p qs h.1)

ends_on : (c d : PlanSegment) (cs : List PlanSegment) (p : WeightedPosting) → ends_in (c ∷ d ∷ cs) p ≡ ends_in (d ∷ cs) p
ends_on c d cs p = simp unary_clauses

-- a posting that is not of the last segment begins one behind it
pub begins : (cs : List PlanSegment) (p : WeightedPosting) (ps : List WeightedPosting) → Ready cs (p ∷ ps) → Ascends place_cmp (p ∷ ps) → ends_in cs p ≡ false
    → (joined cs p ≡ cs ++ begun p ∷ []) × Ready (cs ++ begun p ∷ []) ps
begins [] p ps r a e = (refl, all_not_behind p ps a.0)
begins (c ∷ []) p ps r a e = (rw e refl, (all_passed c p ps r.0 e a.0, all_not_behind p ps a.0))
begins (c ∷ d ∷ cs) p ps r a e =
    let e' : ends_in (d ∷ cs) p ≡ false = sym (ends_on c d cs p) ∙ e in
    let rest = begins (d ∷ cs) p ps r.1 a e' in
    let not : is_of c p ≡ false = r.0.0 in
    (rw not (ap (λ l. c ∷ l) rest.0), (r.0.1, rest.1))

-- a posting of the last segment joins it
pub joins : (cs : List PlanSegment) (p : WeightedPosting) (ps : List WeightedPosting) → Ready cs (p ∷ ps) → Ascends place_cmp (p ∷ ps) → ends_in cs p ≡ true
    → (joined cs p ≡ last_with cs p.doc) × Ready (last_with cs p.doc) ps
joins [] p ps r a e = absurd (true≢false (sym e))
joins (c ∷ []) p ps r a e = let e' : is_of c p ≡ true = e in (rw e' refl, all_behind ps r.1) where
  behind : (q : WeightedPosting) → NotBehind c q → NotBehind (record c { docs = c.docs ++ p.doc ∷ [] }) q
  behind q h = record { term_place = h.term_place; weight = h.weight }

  all_behind : (qs : List WeightedPosting) → AllByRecursion (NotBehind c) qs → AllByRecursion (NotBehind (record c { docs = c.docs ++ p.doc ∷ [] })) qs
  all_behind [] h = tt
  all_behind (q ∷ qs) h = (behind q h.0, all_behind qs h.1)
joins (c ∷ d ∷ cs) p ps r a e =
    let e' : ends_in (d ∷ cs) p ≡ true = sym (ends_on c d cs p) ∙ e in
    let rest = joins (d ∷ cs) p ps r.1 a e' in
    let not : is_of c p ≡ false = r.0.0 in
    (rw not (ap (λ l. c ∷ l) rest.0), ready cs r.0.1 rest.1)
  where
    ready : (cs : List PlanSegment) → AllByRecursion (λ q. is_of c q ≡ false) ps → Ready (last_with (d ∷ cs) p.doc) ps → Ready (c ∷ last_with (d ∷ cs) p.doc) ps
    ready [] h k = (h, k)
    ready (x ∷ xs) h k = (h, k)

-- the last of the segments written anew
pub set_last : (cs : List PlanSegment) (doc n : ℕ) (c : PlanSegment) (docs : List ℕ) → length cs ≡ suc n → c ≡ get_or cs n c → docs ≡ c.docs ++ doc ∷ [] → set cs n (record { term_place = c.term_place; weight = c.weight; docs = docs }) ≡ last_with cs doc
set_last [] doc n c docs e at is = cc
set_last (x ∷ []) doc zero c docs e at is = rw (is, at) refl
set_last (x ∷ []) doc (suc n) c docs e at is = absurd (omega arith)
set_last (x ∷ y ∷ cs) doc zero c docs e at is = absurd (omega arith)
set_last (x ∷ y ∷ cs) doc (suc n) c docs e at is = ap (λ l. x ∷ l) (set_last (y ∷ cs) doc n c docs (omega arith) at is)

-- the segments of the first i postings, ready for the others
pub record Grouped (cs : List PlanSegment) (ps : List WeightedPosting) (i : ℕ) : Type 0 where
  pub same : cs ≡ fold joined [] (take i ps)
  pub ready : Ready cs (drop i ps)
  pub order : Ascends place_cmp (drop i ps)

fold_on : (i : ℕ) (ps : List WeightedPosting) (d : WeightedPosting) (acc : List PlanSegment) → i < length ps → fold joined acc (take (i + 1) ps) ≡ joined (fold joined acc (take i ps)) (get_or ps i d)
fold_on i ps d acc h = fold_more joined acc ps i d h

pub grouped_joins : (cs seen new : List PlanSegment) (ps : List WeightedPosting) (i : ℕ) (d : WeightedPosting) (answer : Bool) → i < length ps → Grouped cs ps i → seen ≡ cs → answer ≡ ends_in seen (get_or ps i d) → answer ≡ true → new ≡ last_with cs (get_or ps i d).doc → Grouped new ps (i + 1)
grouped_joins cs seen new ps i d answer h g same_list told was is =
    let e : ends_in cs (get_or ps i d) ≡ true = ap (λ l. ends_in l (get_or ps i d)) (sym same_list) ∙ sym told ∙ was in
    let split = drop_more ps i d h in
    let order = rw split at g.order in
    let step = joins cs (get_or ps i d) (drop (i + 1) ps) (rw split at g.ready) order e in
    record {
      same = is ∙ sym step.0 ∙ ap (λ l. joined l (get_or ps i d)) g.same ∙ sym (fold_on i ps d [] h);
      ready = subst (λ l. Ready l (drop (i + 1) ps)) (sym is) step.1;
      order = order.1;
    }

pub grouped_begins : (cs seen new : List PlanSegment) (ps : List WeightedPosting) (i : ℕ) (d : WeightedPosting) (answer : Bool) → i < length ps → Grouped cs ps i → seen ≡ cs → answer ≡ ends_in seen (get_or ps i d) → answer ≡ false → new ≡ cs ++ begun (get_or ps i d) ∷ [] → Grouped new ps (i + 1)
grouped_begins cs seen new ps i d answer h g same_list told was is =
    let e : ends_in cs (get_or ps i d) ≡ false = ap (λ l. ends_in l (get_or ps i d)) (sym same_list) ∙ sym told ∙ was in
    let split = drop_more ps i d h in
    let order = rw split at g.order in
    let step = begins cs (get_or ps i d) (drop (i + 1) ps) (rw split at g.ready) order e in
    record {
      same = is ∙ sym step.0 ∙ ap (λ l. joined l (get_or ps i d)) g.same ∙ sym (fold_on i ps d [] h);
      ready = subst (λ l. Ready l (drop (i + 1) ps)) (sym is) step.1;
      order = order.1;
    }
