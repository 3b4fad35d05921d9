-- Postings have words where the last document and the greatest frequency are small.
use Rattle.shared_lemmas.proofs.Common.{ℕ, ◌≡◌, ◌-◌, ◌<◌, ◌≤◌, ◌^◌, List, length, get_or, arith, All, IsStrictlyIncreasing, get_or-map, length-map, non_decreasing_from_sorted, sorted_from_strictly_increasing}
use Rattle.index_import.proofs.Below.{docs_of, Posting}
use Rattle.index_import.specs.Private.KeptPostings.{HasWord}

pub all_have_words : (ps : List Posting) (most : ℕ) (d : Posting) → IsStrictlyIncreasing (docs_of ps) → All (λ (p : Posting). p.tf ≤ most) ps
    → (get_or ps (length ps - 1) d).doc < 2 ^ 21 → most < 2 ^ 11 → All HasWord ps
all_have_words ps most d rising tf last small i e inside =
    let docs : List ℕ = docs_of ps in
    let many : length docs ≡ length ps = length-map ps (λ (p : Posting). p.doc) in
    let up : get_or docs i 0 ≤ get_or docs (length ps - 1) 0
    = non_decreasing_from_sorted docs (sorted_from_strictly_increasing docs rising) i (length ps - 1) 0 (omega (arith, inside)) (omega (arith, many, inside)) in
    (omega (arith, up, last, get_or-map (λ (p : Posting). p.doc) ps i e 0 inside, get_or-map (λ (p : Posting). p.doc) ps (length ps - 1) d 0 (omega (arith, inside))), omega (arith, tf i e inside, small))
