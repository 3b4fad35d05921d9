-- Documents and their gaps.
use Rattle.shared_lemmas.proofs.Common.{◌≡◌, ℕ, zero, suc, ◌+◌, ◌-◌, ◌<◌, ◌≤◌, List, [], ◌∷◌, ◌++◌, length, get_or, sum, All, refl, ap, ◌∙◌, arith, ◌^◌, ⊤, IsStrictlyIncreasing, sum_by-cons}
use Rattle.shared_lemmas.proofs.Places.{read_behind}
use Rattle.jass_base.specs.Gaps.{gaps_from, docs_from, AreDocs}
use Rattle.shared_lemmas.proofs.Rising.{few_below}

-- documents that rise from a least one on
abbrev pub RiseFrom : ℕ → List ℕ → Type 0
RiseFrom least [] = ⊤
RiseFrom least (doc ∷ docs) = (least ≤ doc) × RiseFrom (doc + 1) docs

pub rise_from : (least : ℕ) (docs : List ℕ) → IsStrictlyIncreasing docs → (0 < length docs → least ≤ get_or docs 0 0) → RiseFrom least docs
rise_from least [] rising first = tt
rise_from least (doc ∷ docs) rising first = (
  first (omega arith),
  rise_from (doc + 1) docs (λ k h. let up = rising (suc k) (omega arith) in rw (← read_behind doc docs k) up) (λ some. let up = rising 0 (omega arith) in omega arith),
)

pub rise_from_all : (least : ℕ) (docs : List ℕ) → IsStrictlyIncreasing docs → All (λ doc. least ≤ doc) docs → RiseFrom least docs
rise_from_all least docs rising all = rise_from least docs rising (λ some. all 0 0 some)

pub rising : (least : ℕ) (docs : List ℕ) → RiseFrom least docs → IsStrictlyIncreasing docs
rising least [] rise k h = absurd (omega arith)
rising least (doc ∷ []) rise k h = absurd (omega arith)
rising least (doc ∷ next ∷ docs) rise zero h = let up = rise.1.0 in omega arith
rising least (doc ∷ next ∷ docs) rise (suc k) h = rw (read_behind doc (next ∷ docs) k) (rising (doc + 1) (next ∷ docs) rise.1 k (omega arith))

pub from_least : (least low : ℕ) (docs : List ℕ) → RiseFrom least docs → low ≤ least → All (λ doc. low ≤ doc) docs
from_least least low [] rise lower k d h = absurd (omega arith)
from_least least low (doc ∷ docs) rise lower zero d h = let up = rise.0 in omega arith
from_least least low (doc ∷ docs) rise lower (suc k) d h = let up = rise.0 in from_least (doc + 1) low docs rise.1 (omega arith) k d (omega arith)

pub docs_again : (least : ℕ) (docs : List ℕ) → RiseFrom least docs → docs_from least (gaps_from least docs) ≡ docs
docs_again least [] rise = refl
docs_again least (doc ∷ docs) rise =
    let up = rise.0 in
    let is : least + (doc - least) ≡ doc = omega arith in
    rw is (ap (λ (xs : List ℕ). doc ∷ xs) (docs_again (doc + 1) docs rise.1))

pub gaps_again : (least : ℕ) (gaps : List ℕ) → gaps_from least (docs_from least gaps) ≡ gaps
gaps_again least [] = refl
gaps_again least (gap ∷ gaps) = let is : least + gap - least ≡ gap = omega arith in rw is (ap (λ (xs : List ℕ). gap ∷ xs) (gaps_again (least + gap + 1) gaps))

pub rises : (least : ℕ) (gaps : List ℕ) → RiseFrom least (docs_from least gaps)
rises least [] = tt
rises least (gap ∷ gaps) = (omega arith, rises (least + gap + 1) gaps)

pub length-docs_from : (least : ℕ) (gaps : List ℕ) → length (docs_from least gaps) ≡ length gaps
length-docs_from least [] = refl
length-docs_from least (gap ∷ gaps) = ap suc (length-docs_from (least + gap + 1) gaps)

pub length-gaps_from : (least : ℕ) (docs : List ℕ) → length (gaps_from least docs) ≡ length docs
length-gaps_from least [] = refl
length-gaps_from least (doc ∷ docs) = ap suc (length-gaps_from (doc + 1) docs)

pub docs_from-append : (least : ℕ) (front back : List ℕ) → docs_from least (front ++ back) ≡ docs_from least front ++ docs_from (least + sum front + length front) back
docs_from-append least [] back = ap (λ n. docs_from n back) (omega arith)
docs_from-append least (gap ∷ front) back =
    ap (λ (xs : List ℕ). (least + gap) ∷ xs) (docs_from-append (least + gap + 1) front back
    ∙ ap (λ n. docs_from (least + gap + 1) front ++ docs_from n back) (omega (arith, sum_by-cons (λ y. y) gap front)))

pub gaps_from-append : (least doc : ℕ) (front back : List ℕ) → gaps_from least (front ++ doc ∷ back) ≡ gaps_from least (front ++ doc ∷ []) ++ gaps_from (doc + 1) back
gaps_from-append least doc [] back = refl
gaps_from-append least doc (first ∷ front) back = ap (λ (xs : List ℕ). (first - least) ∷ xs) (gaps_from-append (first + 1) doc front back)

pub gaps_below : (d least : ℕ) (docs : List ℕ) → All (λ doc. doc < d) docs → All (λ gap. gap < d) (gaps_from least docs)
gaps_below d least [] below k e h = absurd (omega arith)
gaps_below d least (doc ∷ docs) below zero e h = let low = below 0 0 (omega arith) in omega arith
gaps_below d least (doc ∷ docs) below (suc k) e h = gaps_below d (doc + 1) docs (λ i x s. below (suc i) x (omega arith)) k e (omega arith)

-- gaps that leave room
pub room_below : (d least : ℕ) (gaps : List ℕ) → least + sum gaps + length gaps ≤ d → All (λ doc. doc < d) (docs_from least gaps)
room_below d least [] room k e h = absurd (omega arith)
room_below d least (gap ∷ gaps) room zero e h = omega (arith, sum_by-cons (λ y. y) gap gaps)
room_below d least (gap ∷ gaps) room (suc k) e h = room_below d (least + gap + 1) gaps (omega (arith, sum_by-cons (λ y. y) gap gaps)) k e (omega arith)

pub below_room : (d least : ℕ) (gaps : List ℕ) → least ≤ d → All (λ doc. doc < d) (docs_from least gaps) → least + sum gaps + length gaps ≤ d
below_room d least [] start below = omega arith
below_room d least (gap ∷ gaps) start below =
    let low = below 0 0 (omega arith) in
    let rest = below_room d (least + gap + 1) gaps (omega arith) (λ i x s. below (suc i) x (omega arith)) in
    omega (arith, rest, sum_by-cons (λ y. y) gap gaps)

-- documents are no more than there may be
pub docs_few : (d : ℕ) (docs : List ℕ) → AreDocs d docs → length docs ≤ 2 ^ 26
docs_few d docs are = let limit = are.limit in omega (arith, limit, few_below docs d are.rising are.below)
