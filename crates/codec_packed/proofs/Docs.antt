-- Documents and their gaps, in parts.
use Rattle.shared_lemmas.proofs.Common.{◌≡◌, ℕ, zero, suc, ◌+◌, ◌-◌, ◌^◌, ◌<◌, ◌≤◌, true, List, [], ◌∷◌, ◌++◌, length, get_or, take, drop, sum, All, refl, ap, arith, nat_lt, ◌&&◌, list_all, IsStrictlyIncreasing, nat_tests, sum_by-cons, and_parts}
use Rattle.jass_base.specs.Gaps.{AreDocs, gaps_from, docs_from}
use Rattle.lane_kernels.specs.Gaps.{running}
use Rattle.codec_packed.specs.Giving.{AreFrom}
use Rattle.jass_base.proofs.Gaps.{RiseFrom, rise_from, rising, from_least, docs_again, gaps_below}

-- the least document that may stand behind these
abbrev pub behind : ℕ → List ℕ → ℕ
behind least [] = least
behind least (doc ∷ docs) = behind (doc + 1) docs

-- ---- documents as a recursion

rise_of : (d least : ℕ) (docs : List ℕ) → AreFrom d least docs → RiseFrom least docs
rise_of d least [] are = tt
rise_of d least (doc ∷ docs) are = (are.0, rise_of d (doc + 1) docs are.2)

from_rise : (d least : ℕ) (docs : List ℕ) → RiseFrom least docs → All (λ doc. doc < d) docs → AreFrom d least docs
from_rise d least [] rise below = tt
from_rise d least (doc ∷ docs) rise below = (rise.0, below 0 0 (omega arith), from_rise d (doc + 1) docs rise.1 (λ k e l. below (suc k) e (omega arith)))

pub from_rising : (d least : ℕ) (docs : List ℕ) → IsStrictlyIncreasing docs → All (λ doc. doc < d) docs → (0 < length docs → least ≤ get_or docs 0 0) → AreFrom d least docs
from_rising d least docs up below first = from_rise d least docs (rise_from least docs up first) below

pub from_docs : (d : ℕ) (docs : List ℕ) → AreDocs d docs → AreFrom d 0 docs
from_docs d docs are = from_rising d 0 docs are.rising are.below (λ l. omega arith)

pub from_wider : (d e least : ℕ) (docs : List ℕ) → d ≤ e → AreFrom d least docs → AreFrom e least docs
from_wider d e least [] le are = tt
from_wider d e least (doc ∷ docs) le are = (are.0, omega (arith, are.1), from_wider d e (doc + 1) docs le are.2)

pub rising_from : (d least : ℕ) (docs : List ℕ) → AreFrom d least docs → IsStrictlyIncreasing docs
rising_from d least docs are = rising least docs (rise_of d least docs are)

pub below_from : (d least : ℕ) (docs : List ℕ) → AreFrom d least docs → All (λ doc. doc < d) docs
below_from d least [] are k e l = absurd (omega arith)
below_from d least (doc ∷ docs) are zero e l = are.1
below_from d least (doc ∷ docs) are (suc k) e l = below_from d (doc + 1) docs are.2 k e (omega arith)

pub least_from : (d least low : ℕ) (docs : List ℕ) → low ≤ least → AreFrom d least docs → All (λ doc. low ≤ doc) docs
least_from d least low docs le are = from_least least low docs (rise_of d least docs are) le

pub docs_from_all : (d : ℕ) (docs : List ℕ) → d ≤ 2 ^ 26 → 0 < length docs → AreFrom d 0 docs → AreDocs d docs
docs_from_all d docs limit some are = record { some = some; rising = rising_from d 0 docs are; below = below_from d 0 docs are; limit = limit }

-- ---- documents and gaps
pub docs_of_gaps : (d least : ℕ) (docs : List ℕ) → AreFrom d least docs → docs_from least (gaps_from least docs) ≡ docs
docs_of_gaps d least docs are = docs_again least docs (rise_of d least docs are)

pub running_docs : (least : ℕ) (gaps : List ℕ) → running least gaps ≡ docs_from least gaps
running_docs least [] = refl
running_docs least (gap ∷ gaps) = ap (λ (xs : List ℕ). (least + gap) ∷ xs) (running_docs (least + gap + 1) gaps)

pub behind_gaps : (least : ℕ) (gaps : List ℕ) → behind least (docs_from least gaps) ≡ least + sum gaps + length gaps
behind_gaps least [] = omega arith
behind_gaps least (gap ∷ gaps) = omega (arith, behind_gaps (least + gap + 1) gaps, sum_by-cons (λ x. x) gap gaps)

-- ---- in parts
pub take_gaps : (n least : ℕ) (docs : List ℕ) → take n (gaps_from least docs) ≡ gaps_from least (take n docs)
take_gaps zero least docs = refl
take_gaps (suc n) least [] = refl
take_gaps (suc n) least (doc ∷ docs) = ap (λ (xs : List ℕ). (doc - least) ∷ xs) (take_gaps n (doc + 1) docs)

pub drop_gaps : (n least : ℕ) (docs : List ℕ) → drop n (gaps_from least docs) ≡ gaps_from (behind least (take n docs)) (drop n docs)
drop_gaps zero least docs = refl
drop_gaps (suc n) least [] = refl
drop_gaps (suc n) least (doc ∷ docs) = drop_gaps n (doc + 1) docs

pub take_from : (n d least : ℕ) (docs : List ℕ) → AreFrom d least docs → AreFrom d least (take n docs)
take_from zero d least docs are = tt
take_from (suc n) d least [] are = tt
take_from (suc n) d least (doc ∷ docs) are = (are.0, are.1, take_from n d (doc + 1) docs are.2)

pub drop_from : (n d least : ℕ) (docs : List ℕ) → AreFrom d least docs → AreFrom d (behind least (take n docs)) (drop n docs)
drop_from zero d least docs are = are
drop_from (suc n) d least [] are = tt
drop_from (suc n) d least (doc ∷ docs) are = drop_from n d (doc + 1) docs are.2

pub append_from : (d least : ℕ) (docs more : List ℕ) → AreFrom d least docs → AreFrom d (behind least docs) more → AreFrom d least (docs ++ more)
append_from d least [] more are also = also
append_from d least (doc ∷ docs) more are also = (are.0, are.1, append_from d (doc + 1) docs more are.2 also)

pub append_gaps : (least : ℕ) (docs more : List ℕ) → gaps_from least (docs ++ more) ≡ gaps_from least docs ++ gaps_from (behind least docs) more
append_gaps least [] more = refl
append_gaps least (doc ∷ docs) more = ap (λ (xs : List ℕ). (doc - least) ∷ xs) (append_gaps (doc + 1) docs more)

-- ---- bounds
pub behind_le : (d least : ℕ) (docs : List ℕ) → least ≤ d → AreFrom d least docs → behind least docs ≤ d
behind_le d least [] le are = le
behind_le d least (doc ∷ docs) le are = behind_le d (doc + 1) docs (omega (arith, are.1)) are.2

pub behind_le_some : (d least : ℕ) (docs : List ℕ) → AreFrom d least docs → 0 < length docs → behind least docs ≤ d
behind_le_some d least [] are some = absurd (omega arith)
behind_le_some d least (doc ∷ docs) are some = behind_le d (doc + 1) docs (omega (arith, are.1)) are.2

pub small_gaps : (d least : ℕ) (docs : List ℕ) → d ≤ 2 ^ 32 → AreFrom d least docs → All (λ gap. gap < 2 ^ 32) (gaps_from least docs)
small_gaps d least docs limit are k e l = omega (arith, limit, gaps_below d least docs (below_from d least docs are) k e l)

pub tests_from : (d least : ℕ) (docs : List ℕ) → AreFrom d least docs → list_all (λ doc. nat_lt doc d) docs ≡ true
tests_from d least [] are = refl
tests_from d least (doc ∷ docs) are =
    let below : nat_lt doc d ≡ true = let l = are.1 in grind (arith, nat_tests) in
    rw below (tests_from d (doc + 1) docs are.2)

pub gaps_tested : (d least : ℕ) (gaps : List ℕ) → list_all (λ doc. nat_lt doc d) (docs_from least gaps) ≡ true → AreFrom d least (docs_from least gaps)
gaps_tested d least [] all = tt
gaps_tested d least (gap ∷ gaps) all =
    let both : (nat_lt (least + gap) d && list_all (λ doc. nat_lt doc d) (docs_from (least + gap + 1) gaps)) ≡ true = all in
    let parts : (nat_lt (least + gap) d ≡ true) × (list_all (λ doc. nat_lt doc d) (docs_from (least + gap + 1) gaps) ≡ true) = and_parts _ _ both in
    (omega arith, let t = parts.0 in grind (arith, nat_tests), gaps_tested d (least + gap + 1) gaps parts.1)

-- the documents of a block are below d where the last one is
pub gaps_fit : (d least : ℕ) (gaps : List ℕ) → least + sum gaps + length gaps ≤ d → AreFrom d least (docs_from least gaps)
gaps_fit d least [] le = tt
gaps_fit d least (gap ∷ gaps) le =
    let total = sum_by-cons (λ x. x) gap gaps in
    (omega arith, omega (arith, le, total), gaps_fit d (least + gap + 1) gaps (omega (arith, le, total)))
