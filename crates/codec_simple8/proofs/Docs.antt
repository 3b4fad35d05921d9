-- The documents with given gaps.
use Rattle.shared_lemmas.proofs.Common.{◌≡◌, ℕ, zero, suc, ◌+◌, ◌≤◌, List, [], ◌∷◌, ◌++◌, length, take, drop, replicate, refl, sym, ap, ◌∙◌, arith, nat_lt, sum, list_all, list_all-append, IsStrictlyIncreasing, take_at, drop_at, take-append-drop, length-take-le, length-replicate, replicate_more}
use Rattle.shared_lemmas.proofs.Common.{sum_by-cons}
use Rattle.jass_base.proofs.Gaps.{length-docs_from, rise_from, docs_again as again}
use Rattle.jass_base.specs.Gaps.{gaps_from, docs_from}
use Rattle.codec_simple8.specs.Simple8.{least_behind}
use Rattle.codec_simple8.proofs.Digits.{Below, Below-head, Below-tail, Below-cons}

-- one gap more before the next document
pub behind_one : (least gap : ℕ) (gaps : List ℕ) → least_behind (least + gap + 1) gaps ≡ least_behind least (gap ∷ gaps)
behind_one least gap gaps = omega (arith, sum_by-cons (λ x. x) gap gaps)

-- the documents of gaps in two parts
pub docs_parts : (least : ℕ) (front back : List ℕ) → docs_from least (front ++ back) ≡ docs_from least front ++ docs_from (least_behind least front) back
docs_parts least [] back = let e : least + 0 + 0 ≡ least = omega arith in rw e refl
docs_parts least (gap ∷ front) back =
    ap (λ (docs : List ℕ). (least + gap) ∷ docs) (docs_parts (least + gap + 1) front back ∙ ap (λ n. docs_from (least + gap + 1) front ++ docs_from n back) (behind_one least gap front))

pub docs_split : (least n : ℕ) (gaps : List ℕ) → docs_from least gaps ≡ docs_from least (take n gaps) ++ docs_from (least_behind least (take n gaps)) (drop n gaps)
docs_split least n gaps = ap (docs_from least) (sym (take-append-drop n gaps)) ∙ docs_parts least (take n gaps) (drop n gaps)

pub docs_first : (least n : ℕ) (gaps : List ℕ) → n ≤ length gaps → take n (docs_from least gaps) ≡ docs_from least (take n gaps)
docs_first least n gaps within =
    ap (take n) (docs_split least n gaps) ∙ take_at (docs_from least (take n gaps)) (docs_from (least_behind least (take n gaps)) (drop n gaps)) n (length-docs_from least (take n gaps) ∙ length-take-le n gaps within)

pub docs_later : (least n : ℕ) (gaps : List ℕ) → n ≤ length gaps → drop n (docs_from least gaps) ≡ docs_from (least_behind least (take n gaps)) (drop n gaps)
docs_later least n gaps within =
    ap (drop n) (docs_split least n gaps) ∙ drop_at (docs_from least (take n gaps)) (docs_from (least_behind least (take n gaps)) (drop n gaps)) n (length-docs_from least (take n gaps) ∙ length-take-le n gaps within)

-- gaps are no greater than the documents behind them
pub docs_gaps : (p least : ℕ) (gaps : List ℕ) → Below p (docs_from least gaps) → Below p gaps
docs_gaps p least [] all = refl
docs_gaps p least (gap ∷ gaps) all =
    Below-cons p gap gaps (omega (arith, Below-head p (least + gap) (docs_from (least + gap + 1) gaps) all)) (docs_gaps p (least + gap + 1) gaps (Below-tail p (least + gap) (docs_from (least + gap + 1) gaps) all))

-- where the documents stand below a number, so does what may follow them, but for one
pub behind_below : (p least : ℕ) (gaps : List ℕ) → least ≤ p → Below p (docs_from least gaps) → least_behind least gaps ≤ p
behind_below p least [] low all = omega arith
behind_below p least (gap ∷ gaps) low all =
    let here = Below-head p (least + gap) (docs_from (least + gap + 1) gaps) all in
    omega (arith, behind_below p (least + gap + 1) gaps (omega arith) (Below-tail p (least + gap) (docs_from (least + gap + 1) gaps) all), behind_one least gap gaps)

-- and the other way round
pub below_behind : (p least : ℕ) (gaps : List ℕ) → least_behind least gaps ≤ p → Below p (docs_from least gaps)
below_behind p least [] low = refl
below_behind p least (gap ∷ gaps) low =
    let more = behind_one least gap gaps in
    Below-cons p (least + gap) (docs_from (least + gap + 1) gaps) (omega (arith, more)) (below_behind p (least + gap + 1) gaps (omega (arith, more)))

-- in two parts
pub below_parts : (p least : ℕ) (front back : List ℕ) → Below p (docs_from least front) → Below p (docs_from (least_behind least front) back) → Below p (docs_from least (front ++ back))
below_parts p least front back low high =
    docs_parts_test (docs_parts least front back)
  where
    docs_parts_test : docs_from least (front ++ back) ≡ docs_from least front ++ docs_from (least_behind least front) back → Below p (docs_from least (front ++ back))
    docs_parts_test is = ap (list_all (λ doc. nat_lt doc p)) is ∙ list_all-append (λ doc. nat_lt doc p) (docs_from least front) (docs_from (least_behind least front) back) ∙ rw (low, high) refl

-- ---- gaps of 0

pub zeros_behind : (least n : ℕ) → least_behind least (replicate n 0) ≡ least + n
zeros_behind least n = let none : ℕ = 0 in omega (arith, zero_sum n, length-replicate n none)
  where
    zero_sum : (n : ℕ) → sum (replicate n 0) ≡ 0
    zero_sum zero = refl
    zero_sum (suc n) = omega (arith, sum_by-cons (λ x. x) 0 (replicate n 0), zero_sum n)

pub one_zero : (least n : ℕ) → docs_from least (replicate (n + 1) 0) ≡ docs_from least (replicate n 0) ++ (least + n) ∷ []
one_zero least n =
    ap (docs_from least) (sym (replicate_more n 0)) ∙ docs_parts least (replicate n 0) (0 ∷ [])
    ∙ ap (λ doc. docs_from least (replicate n 0) ++ doc ∷ []) (let e : least_behind least (replicate n 0) + 0 ≡ least + n = omega (arith, zeros_behind least n) in e)

-- ---- the documents that gaps were taken of

pub docs_again : (docs : List ℕ) → IsStrictlyIncreasing docs → docs_from 0 (gaps_from 0 docs) ≡ docs
docs_again docs rising = again 0 docs (rise_from 0 docs rising (λ h. omega arith))
