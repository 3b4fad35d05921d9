-- Lists of documents and lists of their gaps.
use Rattle.shared_lemmas.proofs.Common.{◌≡◌, ℕ, zero, suc, ◌+◌, ◌-◌, ◌^◌, ◌<◌, ◌≤◌, List, [], ◌∷◌, length, drop, refl, ap, ◌∙◌, arith, All, slice_index, length-drop, All-head, All-tail, All-nil, All-cons}
use Rattle.jass_base.proofs.Gaps.{length-gaps_from}
use Rattle.jass_base.specs.Gaps.{AreDocs, gaps_of, gaps_from}
use Rattle.codec_simple8.proofs.Digits.{Below, Below-head, Below-tail, Below-cons}

-- a gap lies between a document and the one before it
later : (least : ℕ) (docs : List ℕ) (k : ℕ) → suc k < length docs → slice_index (gaps_from least docs) (suc k) ≡ slice_index docs (suc k) - slice_index docs k - 1
later least [] k within = absurd (omega arith)
later least (x ∷ []) k within = absurd (omega arith)
later least (x ∷ y ∷ docs) zero within = omega arith
later least (x ∷ y ∷ docs) (suc k) within = later (x + 1) (y ∷ docs) k (omega arith)

pub later_gap : (least : ℕ) (docs : List ℕ) (at : ℕ) → 0 < at → at < length docs → slice_index (gaps_from least docs) at ≡ slice_index docs at - slice_index docs (at - 1) - 1
later_gap least docs zero some within = absurd (omega arith)
later_gap least docs (suc k) some within = let e : suc k - 1 ≡ k = omega arith in rw e (later least docs k within)

-- documents below a number have gaps below it
pub gaps_below : (p least : ℕ) (docs : List ℕ) → Below p docs → Below p (gaps_from least docs)
gaps_below p least [] all = refl
gaps_below p least (x ∷ docs) all = Below-cons p (x - least) (gaps_from (x + 1) docs) (omega (arith, Below-head p x docs all)) (gaps_below p (x + 1) docs (Below-tail p x docs all))

pub below_from_All : (p q : ℕ) (xs : List ℕ) → p ≤ q → All (λ x. x < p) xs → Below q xs
below_from_All p q [] le all = refl
below_from_All p q (x ∷ xs) le all = Below-cons q x xs (omega (arith, All-head (λ x. x < p) x xs all)) (below_from_All p q xs le (All-tail (λ x. x < p) x xs all))

pub docs_gaps_below : (d : ℕ) (docs : List ℕ) → AreDocs d docs → Below (2 ^ 26) (gaps_of docs)
docs_gaps_below d docs are = gaps_below (2 ^ 26) 0 docs (below_from_All d (2 ^ 26) docs are.limit are.below)

pub Below-drop : (p n : ℕ) (xs : List ℕ) → Below p xs → Below p (drop n xs)
Below-drop p zero xs all = all
Below-drop p (suc n) [] all = refl
Below-drop p (suc n) (x ∷ xs) all = Below-drop p n xs (Below-tail p x xs all)

-- the gaps that are left are as many as the documents
pub left_length : (docs : List ℕ) (at : ℕ) → length (drop at (gaps_of docs)) ≡ length docs - at
left_length docs at = length-drop at (gaps_of docs) ∙ ap (λ n. n - at) (length-gaps_from 0 docs)

pub All-from_below : (p : ℕ) (xs : List ℕ) → Below p xs → All (λ x. x < p) xs
All-from_below p [] all = All-nil (λ x. x < p)
All-from_below p (x ∷ xs) all = All-cons (λ x. x < p) x xs (Below-head p x xs all) (All-from_below p xs (Below-tail p x xs all))
