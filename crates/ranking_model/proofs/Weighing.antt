-- The weighted postings of a flat list: their order, their number, their documents and their weights.
use Rattle.shared_lemmas.proofs.Common.{◌≡◌, ◌≢◌, ℕ, suc, ◌+◌, ◌*◌, ◌<◌, ◌≤◌, List, [], ◌∷◌, ◌++◌, map, filter, length, true, false, refl, sym, ap, ◌∙◌, arith, inl, inr, ◌⊎◌, ◌==◌, sum_by, eqb-true, IsSorted, AllByRecursion, is_gt, nat_cmp, nat_cmp_total, nat_tests, recursion_from_All, sum_by-cons}
use Rattle.shared_lemmas.proofs.Common.{sum_by-append, cases_Bool}
use Rattle.std.proofs.Common.{length-append}
use Rattle.ranking_model.specs.declared.entry.Entry.{Entry}
use Rattle.ranking_model.specs.Programs.{place_cmp}
use Rattle.jass_base.specs.declared.query_term.QueryTerm.{QueryTerm}
use Rattle.ranking_model.specs.declared.posting.WeightedPosting.{WeightedPosting}
use Rattle.ranking_model.specs.Flat.{entry_cmp, IsFlat}
use Rattle.ranking_model.specs.Postings.{AreTerms, weighted_at, weighted_from, weighted_postings}
use Rattle.ranking_model.specs.Scores.{adds}
use Rattle.shared_lemmas.proofs.Lists.{all_front, all_back}
use Rattle.shared_lemmas.proofs.Pairs.{Pairs, pairs_by_recursion}
use Rattle.ranking_model.proofs.Sorting.{Ascends, ascends_sorted, ascends_filter, ascends_append, sorted_ascending}
use Rattle.ranking_model.proofs.Orders.{entry_total}
use Rattle.ranking_model.proofs.PlanSegments.{place_total}

abbrev pub weigh : ℕ → ℕ → Entry ℕ → WeightedPosting
weigh term_place times e = record { term_place = term_place; doc = e.doc; weight = e.impact * times }

-- ---- the order

-- what all postings of one term have in common
abbrev AllOf : ℕ → List (Entry ℕ) → Type 0
AllOf term es = AllByRecursion (λ e. e.term ≡ term) es

all_of : (term : ℕ) (es : List (Entry ℕ)) → AllOf term (filter (λ e. e.term == term) es)
all_of term [] = tt
all_of term (e ∷ es) = let rest = all_of term es in elim (cases_Bool (e.term == term)) [ inl t ↦ rw t (eqb-true _ _ t, rest) | inr f ↦ rw f rest ]

falls : (a b : Entry ℕ) → a.term ≡ b.term → is_gt (entry_cmp nat_cmp a b) ≡ false → b.impact ≤ a.impact
falls a b same h = grind (arith, nat_tests)

lighter : (term_place times : ℕ) (a b : Entry ℕ) → b.impact ≤ a.impact → is_gt (place_cmp (weigh term_place times a) (weigh term_place times b)) ≡ false
lighter term_place times a b h = let less : b.impact * times ≤ a.impact * times = grind arith in grind (arith, nat_tests)

weighed_ascends : (term_place times term : ℕ) (es : List (Entry ℕ)) → AllOf term es → Ascends (entry_cmp nat_cmp) es → Ascends place_cmp (map (weigh term_place times) es)
weighed_ascends term_place times term [] h a = tt
weighed_ascends term_place times term (e ∷ es) h a = (behind es h.1 a.0, weighed_ascends term_place times term es h.1 a.1) where
  behind : (fs : List (Entry ℕ)) → AllOf term fs → AllByRecursion (λ f. is_gt (entry_cmp nat_cmp e f) ≡ false) fs → AllByRecursion (λ p. is_gt (place_cmp (weigh term_place times e) p) ≡ false) (map (weigh term_place times) fs)
  behind [] k b = tt
  behind (f ∷ fs) k b = (lighter term_place times e f (falls e f (h.0 ∙ sym k.0) b.0), behind fs k.1 b.1)

at_place : (term_place times : ℕ) (es : List (Entry ℕ)) → AllByRecursion (λ p. p.term_place ≡ term_place) (map (weigh term_place times) es)
at_place term_place times [] = tt
at_place term_place times (e ∷ es) = (refl, at_place term_place times es)

from_place : (term_place low : ℕ) (terms : List QueryTerm) (flat : List (Entry ℕ)) → low ≤ term_place → AllByRecursion (λ p. low ≤ p.term_place) (weighted_from term_place terms flat)
from_place term_place low [] flat h = tt
from_place term_place low (named ∷ terms) flat h = both (filter (λ e. e.term == named.term) flat) (from_place (suc term_place) low terms flat (omega arith)) where
  both : (es : List (Entry ℕ)) → AllByRecursion (λ p. low ≤ p.term_place) (weighted_from (suc term_place) terms flat) → AllByRecursion (λ p. low ≤ p.term_place) (map (weigh term_place named.times) es ++ weighted_from (suc term_place) terms flat)
  both [] rest = rest
  both (e ∷ es) rest = (h, both es rest)

weighted_ascends : (term_place : ℕ) (terms : List QueryTerm) (flat : List (Entry ℕ)) → Ascends (entry_cmp nat_cmp) flat → Ascends place_cmp (weighted_from term_place terms flat)
weighted_ascends term_place [] flat a = tt
weighted_ascends term_place (named ∷ terms) flat a =
    ascends_append place_cmp (weighted_at term_place named flat) (weighted_from (suc term_place) terms flat)
    (weighed_ascends term_place named.times named.term _ (all_of named.term flat) (ascends_filter (entry_cmp nat_cmp) (λ e. e.term == named.term) flat a))
    (weighted_ascends (suc term_place) terms flat a)
    (all_before (weighted_at term_place named flat) (at_place term_place named.times (filter (λ e. e.term == named.term) flat)))
  where
    before : (x : WeightedPosting) → x.term_place ≡ term_place → (ys : List WeightedPosting) → AllByRecursion (λ p. suc term_place ≤ p.term_place) ys → AllByRecursion (λ y. is_gt (place_cmp x y) ≡ false) ys
    before x e [] h = tt
    before x e (y ∷ ys) h = (let less = h.0 in grind (arith, nat_tests), before x e ys h.1)

    all_before : (xs : List WeightedPosting) → AllByRecursion (λ p. p.term_place ≡ term_place) xs → AllByRecursion (λ x. AllByRecursion (λ y. is_gt (place_cmp x y) ≡ false) (weighted_from (suc term_place) terms flat)) xs
    all_before [] h = tt
    all_before (x ∷ xs) h = (before x h.0 _ (from_place (suc term_place) (suc term_place) terms flat (omega arith)), all_before xs h.1)

pub weighted_in_order : (docs : ℕ) (flat : List (Entry ℕ)) (terms : List QueryTerm) → IsFlat nat_cmp docs flat → IsSorted place_cmp (weighted_postings flat terms)
weighted_in_order docs flat terms f = sorted_ascending place_cmp place_total (weighted_postings flat terms) (weighted_ascends 0 terms flat (ascends_sorted (entry_cmp nat_cmp) (entry_total nat_cmp nat_cmp_total) flat f.order))

-- ---- their number

-- where the query names none of an entry's term, the entry weighs nothing
unnamed : (term_place : ℕ) (terms : List QueryTerm) (e : Entry ℕ) (es : List (Entry ℕ)) → AllByRecursion (λ named. (e.term == named.term) ≡ false) terms → weighted_from term_place terms (e ∷ es) ≡ weighted_from term_place terms es
unnamed term_place [] e es h = refl
unnamed term_place (named ∷ terms) e es h =
    let other : (e.term == named.term) ≡ false = h.0 in
    rw other (ap (λ l. weighted_at term_place named es ++ l) (unnamed (suc term_place) terms e es h.1))

named_once : (term_place : ℕ) (terms : List QueryTerm) (e : Entry ℕ) (es : List (Entry ℕ)) → Pairs (λ a b. a.term ≢ b.term) terms → length (weighted_from term_place terms (e ∷ es)) ≤ suc (length (weighted_from term_place terms es))
named_once term_place [] e es h = omega arith
named_once term_place (named ∷ terms) e es h = by (cases_Bool (e.term == named.term)) (named_once (suc term_place) terms e es h.1) where
  others : e.term ≡ named.term → (ts : List QueryTerm) → AllByRecursion (λ b. named.term ≢ b.term) ts → AllByRecursion (λ b. (e.term == b.term) ≡ false) ts
  others is [] k = tt
  others is (t ∷ ts) k = (let apart : named.term ≢ t.term = k.0 in grind (arith, nat_tests), others is ts k.1)

  by : ((e.term == named.term) ≡ true) ⊎ ((e.term == named.term) ≡ false) → length (weighted_from (suc term_place) terms (e ∷ es)) ≤ suc (length (weighted_from (suc term_place) terms es))
      → length (weighted_from term_place (named ∷ terms) (e ∷ es)) ≤ suc (length (weighted_from term_place (named ∷ terms) es))
  by (inl t) rest = rw (t, unnamed (suc term_place) terms e es (others (eqb-true _ _ t) terms h.0)) (omega arith)
  by (inr f) rest = rw f (simp length-append (omega arith))

pub weighted_length : (term_place : ℕ) (terms : List QueryTerm) (flat : List (Entry ℕ)) → Pairs (λ a b. a.term ≢ b.term) terms → length (weighted_from term_place terms flat) ≤ length flat
weighted_length term_place terms [] h = none term_place terms where
  none : (term_place : ℕ) (terms : List QueryTerm) → length (weighted_from term_place terms []) ≤ 0
  none term_place [] = omega arith
  none term_place (named ∷ terms) = none (suc term_place) terms
weighted_length term_place terms (e ∷ es) h = let one = named_once term_place terms e es h in let rest = weighted_length term_place terms es h in omega arith

-- ---- their documents and weights

pub weighted_all : (P : WeightedPosting → Type 0) (term_place : ℕ) (terms : List QueryTerm) (flat : List (Entry ℕ)) → ((term_place : ℕ) → AllByRecursion (λ named. AllByRecursion (λ e. P (weigh term_place named.times e)) flat) terms) → AllByRecursion P (weighted_from term_place terms flat)
weighted_all P term_place [] flat h = tt
weighted_all P term_place (named ∷ terms) flat h = both flat (h term_place).0 (weighted_all P (suc term_place) terms flat (λ p. (h p).1)) where
  both : (es : List (Entry ℕ)) → AllByRecursion (λ e. P (weigh term_place named.times e)) es → AllByRecursion P (weighted_from (suc term_place) terms flat) → AllByRecursion P (weighted_at term_place named es ++ weighted_from (suc term_place) terms flat)
  both [] k rest = rest
  both (e ∷ es) k rest = let more = both es k.1 rest in elim (cases_Bool (e.term == named.term)) [ inl t ↦ rw t (k.0, more) | inr f ↦ rw f more ]

-- a fact of each entry and each number of mentions
pub for_each : {A B : Type 0} (R : A → B → Type 0) (P : A → Type 0) (Q : B → Type 0) (xs : List A) (ys : List B) → ((x : A) (y : B) → P x → Q y → R x y) → AllByRecursion P xs → AllByRecursion Q ys → AllByRecursion (λ x. AllByRecursion (R x) ys) xs
for_each R P Q [] ys f h k = tt
for_each {A} {B} R P Q (x ∷ xs) ys f h k = (inner ys k, for_each R P Q xs ys f h.1 k) where
  inner : (ys : List B) → AllByRecursion Q ys → AllByRecursion (R x) ys
  inner [] k = tt
  inner (y ∷ ys) k = (f x y h.0 k.0, inner ys k.1)

pub weighted_documents : (docs term_place : ℕ) (terms : List QueryTerm) (flat : List (Entry ℕ)) → IsFlat nat_cmp docs flat → AreTerms terms → AllByRecursion (λ p. p.doc < docs) (weighted_from term_place terms flat)
weighted_documents docs term_place terms flat f t = weighted_all (λ p. p.doc < docs) term_place terms flat (λ term_place.
    for_each (λ named e. e.doc < docs) (λ (named : QueryTerm). 1 ≤ named.times) (λ (e : Entry ℕ). e.doc < docs) terms flat (λ named e a b. b) (recursion_from_All _ terms t.named) (recursion_from_All _ flat f.documents))

-- ---- the score of one document

-- once a term's posting of the document is counted, no other of the term counts
pub none_left : (count : WeightedPosting → ℕ) (doc term_place times term : ℕ) (e : Entry ℕ) (es : List (Entry ℕ)) → ((f : Entry ℕ) → f.doc ≢ doc → count (weigh term_place times f) ≡ 0)
    → e.term ≡ term → e.doc ≡ doc → AllByRecursion (λ f. e.term ≡ f.term → e.doc ≢ f.doc) es → sum_by count (map (weigh term_place times) (filter (λ f. f.term == term) es)) ≡ 0
none_left count doc term_place times term e [] zeros a b h = refl
none_left count doc term_place times term e (f ∷ fs) zeros a b h = let rest = none_left count doc term_place times term e fs zeros a b h.1 in elim (cases_Bool (f.term == term)) [
  | inl t ↦
      let other : f.doc ≢ doc = λ same. h.0 (a ∙ sym (eqb-true _ _ t)) (b ∙ sym same) in
      rw t (sum_by-cons count (weigh term_place times f) (map (weigh term_place times) (filter (λ f. f.term == term) fs)) ∙ omega (arith, rest, zeros f other))
  | inr k ↦ rw k rest
]

term_adds : (doc term_place times term : ℕ) (es : List (Entry ℕ)) → Pairs (λ a b. a.term ≡ b.term → a.doc ≢ b.doc) es → AllByRecursion (λ p. p.weight ≤ 16711425) (map (weigh term_place times) (filter (λ f. f.term == term) es))
    → sum_by (adds doc) (map (weigh term_place times) (filter (λ f. f.term == term) es)) ≤ 16711425
term_adds doc term_place times term [] p h = omega arith
term_adds doc term_place times term (e ∷ es) p h = by (cases_Bool (e.term == term)) (cases_Bool (e.doc == doc)) (λ k. term_adds doc term_place times term es p.1 k) where
  by : ((e.term == term) ≡ true) ⊎ ((e.term == term) ≡ false) → ((e.doc == doc) ≡ true) ⊎ ((e.doc == doc) ≡ false)
      → (AllByRecursion (λ p. p.weight ≤ 16711425) (map (weigh term_place times) (filter (λ f. f.term == term) es)) → sum_by (adds doc) (map (weigh term_place times) (filter (λ f. f.term == term) es)) ≤ 16711425)
      → sum_by (adds doc) (map (weigh term_place times) (filter (λ f. f.term == term) (e ∷ es))) ≤ 16711425
  by (inl t) (inl d) rest =
      let light = rw t at h in
      let none = none_left (adds doc) doc term_place times term e es (λ f other. let apart : (f.doc == doc) ≡ false = grind (arith, nat_tests) in rw apart refl) (eqb-true _ _ t) (eqb-true _ _ d) p.0 in
      let one = sum_by-cons (adds doc) (weigh term_place times e) (map (weigh term_place times) (filter (λ f. f.term == term) es)) in
      let most = light.0 in
      rw t (rw one (rw (d, none) (omega arith)))
  by (inl t) (inr d) rest =
      let light = rw t at h in
      let one = sum_by-cons (adds doc) (weigh term_place times e) (map (weigh term_place times) (filter (λ f. f.term == term) es)) in
      let others = rest light.1 in
      rw t (rw one (rw d (omega arith)))
  by (inr t) d rest = rw t (rest (rw t at h))

pub all_add : (doc docs term_place : ℕ) (terms : List QueryTerm) (flat : List (Entry ℕ)) → IsFlat nat_cmp docs flat → AllByRecursion (λ p. p.weight ≤ 16711425) (weighted_from term_place terms flat) → sum_by (adds doc) (weighted_from term_place terms flat) ≤ length terms * 16711425
all_add doc docs term_place [] flat f h = omega arith
all_add doc docs term_place (named ∷ terms) flat f h =
    let light = all_front (λ p. p.weight ≤ 16711425) (weighted_at term_place named flat) (weighted_from (suc term_place) terms flat) h in
    let others = all_back (λ p. p.weight ≤ 16711425) (weighted_at term_place named flat) (weighted_from (suc term_place) terms flat) h in
    let first = term_adds doc term_place named.times named.term flat (pairs_by_recursion _ flat f.once) light in
    let rest = all_add doc docs (suc term_place) terms flat f others in
    let split = sum_by-append (adds doc) (weighted_at term_place named flat) (weighted_from (suc term_place) terms flat) in
    let count : suc (length terms) * 16711425 ≡ 16711425 + length terms * 16711425 = omega arith in
    rw (split, count) (omega arith)
