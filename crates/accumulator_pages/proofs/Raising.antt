-- Who passes a hit while a weight is added, and by how much scores rise.
use Rattle.shared_lemmas.proofs.Common.{◌≡◌, ◌≢◌, ◌==◌, ℕ, suc, zero, Bool, true, cond, nat_lt, nat_le, ◌&&◌, ◌++◌, ◌+◌, ◌*◌, ◌<◌, ◌≤◌, List, [], ◌∷◌, length, get_or, set, count_by, All, AllPairs, Contains, refl, sym, ap, ◌∙◌, subst, inl, inr, arith, length-set, get_or-set_same, get_or-set_other}
use Rattle.shared_lemmas.proofs.Common.{AllByRecursion, cases_lt, cases_Bool, eqb_tells, nat_tests, Contains-append_left, Contains-append_right, Contains-append_cases, recursion_from_All, All-cons, All-nil, mul-add, AllPairs-cons, sum_by-cons}
use Rattle.jass_base.specs.declared.answer.Hit.{Hit}
use Rattle.accumulator_pages.specs.Adding.{added, crossed, raised, score_to_pass}
use Rattle.accumulator_pages.proofs.Adding.{rises, added-above}
use Rattle.accumulator_pages.proofs.Counting.{worth}

-- scores with a weight added to that of one document
abbrev one_more : ℕ → ℕ → List ℕ → List ℕ
one_more w x s = set s x (get_or s x 0 + w)

here : (w x : ℕ) (s : List ℕ) → x < length s → get_or (one_more w x s) x 0 ≡ get_or s x 0 + w
here w x s inside = get_or-set_same s x (get_or s x 0 + w) 0 inside

there : (w x d : ℕ) (s : List ℕ) → x ≢ d → get_or (one_more w x s) d 0 ≡ get_or s d 0
there w x d s ne = get_or-set_other s x d (get_or s x 0 + w) 0 (λ e. ne (sym e))

size : (w x : ℕ) (s : List ℕ) → length (one_more w x s) ≡ length s
size w x s = length-set s x (get_or s x 0 + w)

pub added-each : (w d : ℕ) (docs s : List ℕ) → d < length s → get_or (added w docs s) d 0 ≡ get_or s d 0 + w * count_by (λ o. o == d) docs
added-each w d [] s inside = omega arith
added-each w d (x ∷ docs) s inside =
    let rest = added-each w d docs (one_more w x s) (omega (arith, size w x s)) in
    let counted : count_by (λ o. o == d) (x ∷ docs) ≡ worth (x == d) + count_by (λ o. o == d) docs = sum_by-cons (λ o. worth (o == d)) x docs in
    let product = ap (λ (n : ℕ). w * n) counted ∙ mul-add w (worth (x == d)) (count_by (λ o. o == d) docs) in
    elim (eqb_tells x d) as (λ _. get_or (added w docs (one_more w x s)) d 0 ≡ get_or s d 0 + w * count_by (λ o. o == d) (x ∷ docs)) [
      | inl same ↦
          let one : w * worth (x == d) ≡ w = ap (λ (b : Bool). w * worth b) same.0 ∙ omega arith in
          let risen : get_or (one_more w x s) d 0 ≡ get_or s d 0 + w = subst (λ (e : ℕ). get_or (one_more w x s) e 0 ≡ get_or s e 0 + w) same.1 (here w x s (omega (arith, same.1))) in
          omega (arith, rest, product, one, risen)
      | inr other ↦
          let none : w * worth (x == d) ≡ 0 = ap (λ (b : Bool). w * worth b) other.0 ∙ omega arith in
          omega (arith, rest, product, none, there w x d s other.1)
    ]

-- ---- crossing

crosses : (before after floor : ℕ) → before < floor → floor ≤ after → (nat_lt before floor && nat_le floor after) ≡ true
crosses before after floor below reached = grind (arith, nat_tests)

crossed_here : (x before after : ℕ) (last : Hit) → before < score_to_pass last x → score_to_pass last x ≤ after → Contains (crossed x before after last) x
crossed_here x before after last below reached =
    let test : (nat_lt before (score_to_pass last x) && nat_le (score_to_pass last x) after) ≡ true = crosses before after (score_to_pass last x) below reached in
    subst (λ (b : Bool). Contains (cond b (x ∷ []) []) x) (sym test) (0, omega arith, refl)

crossed_then : (before after floor : ℕ) → (nat_lt before floor && nat_le floor after) ≡ true → (before < floor) × (floor ≤ after)
crossed_then before after floor test = (grind (arith, nat_tests), grind (arith, nat_tests))

crossed_only : (x d before after : ℕ) (last : Hit) → Contains (crossed x before after last) d → (d ≡ x) × (before < score_to_pass last x) × (score_to_pass last x ≤ after)
crossed_only x d before after last has =
    elim (cases_Bool (nat_lt before (score_to_pass last x) && nat_le (score_to_pass last x) after)) as (λ _. (d ≡ x) × (before < score_to_pass last x) × (score_to_pass last x ≤ after)) [
      | inl yes_it ↦
          let one : Contains (x ∷ []) d = subst (λ (b : Bool). Contains (cond b (x ∷ []) []) d) yes_it has in
          let both = crossed_then before after (score_to_pass last x) yes_it in
          (only_one x d one, both.0, both.1)
      | inr no_it ↦ absurd (none d (subst (λ (b : Bool). Contains (cond b (x ∷ []) []) d) no_it has))
    ]
  where
    only_one : (x d : ℕ) → Contains (x ∷ []) d → d ≡ x
    only_one x d (zero, inside, is) = sym is
    only_one x d (suc k, inside, is) = absurd (omega (arith, inside))

    none : (d : ℕ) → Contains {X = ℕ} [] d → ⊥
    none d (k, inside, is) = absurd (omega (arith, inside))

pub raised-all : (w d : ℕ) (last : Hit) (docs s : List ℕ) → d < length s → get_or s d 0 < score_to_pass last d → score_to_pass last d ≤ get_or (added w docs s) d 0 → Contains (raised w last docs s) d
raised-all w d last [] s inside below reached = absurd (omega arith)
raised-all w d last (x ∷ docs) s inside below reached =
    let first : List ℕ = crossed x (get_or s x 0) (get_or s x 0 + w) last in
    let rest : List ℕ = raised w last docs (one_more w x s) in
    let later : get_or (one_more w x s) d 0 < score_to_pass last d → Contains (first ++ rest) d =
    λ still. Contains-append_right first rest d (raised-all w d last docs (one_more w x s) (omega (arith, size w x s)) still reached) in
    elim (eqb_tells x d) as (λ _. Contains (first ++ rest) d) [
      | inl same ↦
          let risen : get_or (one_more w x s) d 0 ≡ get_or s x 0 + w = ap (λ (e : ℕ). get_or (one_more w x s) e 0) (sym same.1) ∙ here w x s (omega (arith, same.1, inside)) in
          let floor : score_to_pass last x ≡ score_to_pass last d = ap (score_to_pass last) same.1 in
          elim (cases_lt (get_or s x 0 + w) (score_to_pass last x)) as (λ _. Contains (first ++ rest) d) [
            | inl still ↦ later (omega (arith, still, risen, floor))
            | inr now ↦
                Contains-append_left first rest d (subst (λ (e : ℕ). Contains first e) same.1
                (crossed_here x (get_or s x 0) (get_or s x 0 + w) last (omega (arith, below, floor, ap (λ (e : ℕ). get_or s e 0) same.1)) now))
          ]
      | inr other ↦ later (omega (arith, below, there w x d s other.1))
    ]

only_by_recursion : (w d n : ℕ) (last : Hit) (docs s : List ℕ) → length s ≡ n → AllByRecursion (λ o. o < n) docs → Contains (raised w last docs s) d
    → (d < n) × (get_or s d 0 < score_to_pass last d) × (score_to_pass last d ≤ get_or (added w docs s) d 0)
only_by_recursion w d n last [] s long within has = absurd (omega (arith, has.1))
only_by_recursion w d n last (x ∷ docs) s long within has =
    elim (Contains-append_cases (crossed x (get_or s x 0) (get_or s x 0 + w) last) (raised w last docs (one_more w x s)) d has)
    as (λ _. (d < n) × (get_or s d 0 < score_to_pass last d) × (score_to_pass last d ≤ get_or (added w docs (one_more w x s)) d 0)) [
      | inl first ↦
          let now = crossed_only x d (get_or s x 0) (get_or s x 0 + w) last first in
          let score : get_or s d 0 ≡ get_or s x 0 = ap (λ (e : ℕ). get_or s e 0) now.0 in
          let floor : score_to_pass last d ≡ score_to_pass last x = ap (score_to_pass last) now.0 in
          let risen : get_or (one_more w x s) d 0 ≡ get_or s x 0 + w = ap (λ (e : ℕ). get_or (one_more w x s) e 0) now.0 ∙ here w x s (omega (arith, long, within.0)) in
          (omega (arith, now.0, within.0), omega (arith, score, floor, now.1), omega (arith, risen, floor, now.2, added-above w docs (one_more w x s) d))
      | inr rest ↦
          let later = only_by_recursion w d n last docs (one_more w x s) (size w x s ∙ long) within.1 rest in
          (later.0, omega (arith, later.1, rises s x d w), later.2)
    ]

pub raised-only : (w d : ℕ) (last : Hit) (docs s : List ℕ) → All (λ o. o < length s) docs → Contains (raised w last docs s) d
    → (d < length s) × (get_or s d 0 < score_to_pass last d) × (score_to_pass last d ≤ get_or (added w docs s) d 0)
raised-only w d last docs s within has = only_by_recursion w d (length s) last docs s refl (recursion_from_All (λ o. o < length s) docs within) has

apart : (x : ℕ) (xs : List ℕ) → (Contains xs x → ⊥) → All (λ y. x ≢ y) xs
apart x [] none = All-nil (λ y. x ≢ y)
apart x (y ∷ ys) none =
    All-cons (λ y. x ≢ y) y ys (λ same. none (0, omega arith, sym same)) (apart x ys (λ has. none (suc has.0, (let h : has.0 < length ys = has.1 in omega arith), has.2)))

once_by_recursion : (w n : ℕ) (last : Hit) (docs s : List ℕ) → length s ≡ n → AllByRecursion (λ o. o < n) docs → AllPairs (λ a b. a ≢ b) (raised w last docs s)
once_by_recursion w n last [] s long within = λ i j d lt inside. absurd (omega (arith, inside))
once_by_recursion w n last (x ∷ docs) s long within =
    let rest : List ℕ = raised w last docs (one_more w x s) in
    let pairs : AllPairs (λ a b. a ≢ b) rest = once_by_recursion w n last docs (one_more w x s) (size w x s ∙ long) within.1 in
    elim (cases_Bool (nat_lt (get_or s x 0) (score_to_pass last x) && nat_le (score_to_pass last x) (get_or s x 0 + w)))
    as (λ _. AllPairs (λ a b. a ≢ b) (crossed x (get_or s x 0) (get_or s x 0 + w) last ++ rest)) [
      | inl now ↦
          let reached : score_to_pass last x ≤ get_or s x 0 + w = (crossed_then (get_or s x 0) (get_or s x 0 + w) (score_to_pass last x) now).1 in
          subst (λ (b : Bool). AllPairs (λ a b. a ≢ b) (cond b (x ∷ []) [] ++ rest)) (sym now) (AllPairs-cons (λ a b. a ≢ b) x rest
          (apart x rest (λ has. absurd (omega (arith, reached, (only_by_recursion w x n last docs (one_more w x s) (size w x s ∙ long) within.1 has).1, here w x s (omega (arith, long, within.0))))))
          pairs)
      | inr not_now ↦ subst (λ (b : Bool). AllPairs (λ a b. a ≢ b) (cond b (x ∷ []) [] ++ rest)) (sym not_now) pairs
    ]

pub raised-once : (w : ℕ) (last : Hit) (docs s : List ℕ) → All (λ o. o < length s) docs → AllPairs (λ a b. a ≢ b) (raised w last docs s)
raised-once w last docs s within = once_by_recursion w (length s) last docs s refl (recursion_from_All (λ o. o < length s) docs within)
