-- One bound for all documents, and a limit for each.
use Rattle.shared_lemmas.proofs.Common.{◌≤◌, ℕ, zero, suc, List, [], ◌∷◌, length, arith, replicate, AllByRecursion, AllZip}
use Rattle.ranking_model.specs.Finality.{AreGains, AreGainsWithin}

limits_of_bound : (bound : ℕ) (scores gains : List ℕ) → AreGains bound scores gains → AllZip (λ gain limit. gain ≤ limit) gains (replicate (length scores) bound)
limits_of_bound bound [] [] a = tt
limits_of_bound bound [] (g ∷ gains) a = absurd (let e = a.each in omega arith)
limits_of_bound bound (s ∷ scores) [] a = absurd (let e = a.each in omega arith)
limits_of_bound bound (s ∷ scores) (g ∷ gains) a = (a.within.0, limits_of_bound bound scores gains (record { each = (let e = a.each in omega arith); within = a.within.1 }))

bound_of_limits : (bound : ℕ) (limits gains : List ℕ) → AllByRecursion (λ limit. limit ≤ bound) limits → AllZip (λ gain limit. gain ≤ limit) gains limits → AllByRecursion (λ gain. gain ≤ bound) gains
bound_of_limits bound [] [] h a = tt
bound_of_limits bound [] (g ∷ gains) h a = absurd a
bound_of_limits bound (l ∷ limits) [] h a = tt
bound_of_limits bound (l ∷ limits) (g ∷ gains) h a = ((let low = h.0 in let less = a.0 in omega arith), bound_of_limits bound limits gains h.1 a.1)

pub within_of_bound : (bound : ℕ) (scores gains : List ℕ) → AreGains bound scores gains → AreGainsWithin (replicate (length scores) bound) scores gains
within_of_bound bound scores gains a = record { each = a.each; within = limits_of_bound bound scores gains a }

pub bound_of_within : (bound : ℕ) (limits scores gains : List ℕ) → AllByRecursion (λ limit. limit ≤ bound) limits → AreGainsWithin limits scores gains → AreGains bound scores gains
bound_of_within bound limits scores gains small a = record { each = a.each; within = bound_of_limits bound limits gains small a.within }

pub bounds_are_small : (bound n : ℕ) → AllByRecursion (λ limit. limit ≤ bound) (replicate n bound)
bounds_are_small bound zero = tt
bounds_are_small bound (suc n) = (omega arith, bounds_are_small bound n)
