-- A session at the beginning.
use Rattle.shared_lemmas.proofs.Common.{◌≡◌, ℕ, zero, suc, ◌≤◌, List, [], ◌∷◌, map, length, take, replicate, Option, Some, None, refl, sym, ap, ◌∙◌, subst, arith, set-set, All, Result, Ok, Err, IfOk, slice_set, AllByRecursion, range_with_len, set-get_or, recursion_from_All, length-range_with_len}
use Rattle.shared_lemmas.proofs.Common.{sum_by-cons}
use Rattle.session_engine.proofs.Below.{NoMemory, QueryTerm, ChainEntry, PoolView, Promises, IndexData, PlanSegment, QueryPlan, size_of_first, scores_after, PlanEntry, PlanHead, PlanView, plan_with}
use Rattle.session_engine.specs.Plans.{AreKnown, NamesSegment, segment_named, query_heads}
use Rattle.session_engine.specs.Standing.{IsPlanned}

abbrev size : PlanSegment → ℕ
size segment = length segment.docs

-- a segment isn't paid for by nothing
none_paid : (segments : List PlanSegment) (n : ℕ) → AllByRecursion (λ (c : PlanSegment). 1 ≤ length c.docs) segments → n ≤ length segments → size_of_first n segments ≤ 0 → n ≡ 0
none_paid segments zero some within paid = refl
none_paid [] (suc n) some within paid = absurd (omega (arith, within))
none_paid (c ∷ cs) (suc n) some within paid = let first = sum_by-cons size c (take n cs) in let one = some.0 in absurd (omega (arith, first, one, paid))

named_some : (index : IndexData) (terms : List QueryTerm) (entries : List PlanEntry) → AllByRecursion (NamesSegment index terms) entries → AllByRecursion (λ (c : PlanSegment). 1 ≤ length c.docs) (map (segment_named index terms) entries)
named_some index terms [] h = tt
named_some index terms (e ∷ es) h = ((let count = h.0.count in let some = h.0.some in omega arith), named_some index terms es h.1)

pub none_at_first : (index : IndexData) (terms : List QueryTerm) (entries : List PlanEntry) (segments : List PlanSegment) (n : ℕ) → All (NamesSegment index terms) entries → segments ≡ map (segment_named index terms) entries
    → n ≤ length segments → size_of_first n segments ≤ 0 → n ≡ 0
none_at_first index terms entries segments n names is within paid =
    none_paid segments n (subst (AllByRecursion (λ (c : PlanSegment). 1 ≤ length c.docs)) (sym is) (named_some index terms entries (recursion_from_All (NamesSegment index terms) entries names))) within paid

all_zero : (xs : List ℕ) → map {B = ℕ} (λ (x : ℕ). 0) xs ≡ replicate (length xs) 0
all_zero [] = refl
all_zero (x ∷ xs) = ap (λ (l : List ℕ). 0 ∷ l) (all_zero xs)

pub zero_at_first : (plan : QueryPlan) → scores_after 0 plan ≡ replicate plan.docs 0
zero_at_first plan = all_zero (range_with_len 0 plan.docs) ∙ ap (λ n. replicate n 0) (length-range_with_len 0 plan.docs)

-- a chain that is promised and given back leaves the pool as it was
pub given_back : (old promised new : PoolView) (chain other n : ℕ) → Promises old promised chain n → other ≡ chain → new.frames ≡ promised.frames → new.chains ≡ slice_set promised.chains other None → new ≡ old
given_back old promised new chain other n is same frames chains =
    let one : new.frames ≡ old.frames = frames ∙ is.frames in
    let two : new.chains ≡ old.chains
    = chains ∙ (λ i. slice_set (is.chains i) (same i) None) ∙ set-set old.chains chain (Some (record { promise = n; frames = [] })) None
    ∙ ap (λ (entry : Option ChainEntry). slice_set old.chains chain entry) (sym is.was_unused) ∙ set-get_or old.chains chain None in
    (λ i. record { frames = one i; chains = two i })

-- the plan of the heads that were gathered
pub planned : (index : IndexData) (terms : List QueryTerm) (heads : List PlanHead) (r : Result PlanView NoMemory) → AreKnown index terms → All (λ (n : QueryTerm). n.times ≤ 255) terms → heads ≡ query_heads index terms
    → IfOk r (λ plan. plan ≡ plan_with terms heads) → IfOk r (λ plan. IsPlanned index terms plan)
planned index terms heads (Ok plan) known times is made = record { known = known; times = times; arranged = made ∙ ap (plan_with terms) is }
planned index terms heads (Err e) known times is made = tt
