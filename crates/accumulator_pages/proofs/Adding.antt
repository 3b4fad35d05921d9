-- Weights added to scores.
use Rattle.shared_lemmas.proofs.Common.{◌≡◌, ℕ, suc, zero, Bool, true, false, cond, nat_lt, nat_le, ◌&&◌, ◌++◌, append_assoc, ◌+◌, ◌-◌, ◌*◌, ◌/◌, ◌%◌, ◌^◌, ◌<◌, ◌≤◌, List, [], ◌∷◌, length, get_or, set, drop, All, refl, sym, ap, ◌∙◌, subst, arith, length-set, get_or-set_same, drop-cons, All-get_or}
use Rattle.jass_base.specs.declared.answer.Hit.{Hit}
use Rattle.accumulator_pages.specs.Adding.{added, crossed, raised, score_to_pass}

pub place : (d : ℕ) → 256 * (d / 256) + d % 256 ≡ d
place d = omega arith

-- the score that was read, and the scores with it written, by the document in place of its page and slot
pub read_score : (old mid : List ℕ) (at d s : ℕ) → mid ≡ old → at ≡ d → s ≡ get_or mid at 0 → s ≡ get_or old d 0
read_score old mid at d s same here score = cc

pub wrote : (old mid new : List ℕ) (at d v : ℕ) → mid ≡ old → at ≡ d → new ≡ set mid at v → new ≡ set old d v
wrote old mid new at d v same here is = cc

pub length-added : (w : ℕ) (docs s : List ℕ) → length (added w docs s) ≡ length s
length-added w [] s = refl
length-added w (x ∷ docs) s = length-added w docs (set s x (get_or s x 0 + w)) ∙ length-set s x (get_or s x 0 + w)

pub rises : (s : List ℕ) (x d w : ℕ) → get_or s d 0 ≤ get_or (set s x (get_or s x 0 + w)) d 0
rises [] x d w = omega arith
rises (y ∷ s) zero zero w = omega arith
rises (y ∷ s) zero (suc d) w = omega arith
rises (y ∷ s) (suc x) zero w = omega arith
rises (y ∷ s) (suc x) (suc d) w = rises s x d w

-- no score falls
pub added-above : (w : ℕ) (docs s : List ℕ) (d : ℕ) → get_or s d 0 ≤ get_or (added w docs s) d 0
added-above w [] s d = omega arith
added-above w (x ∷ docs) s d = omega (arith, rises s x d w, added-above w docs (set s x (get_or s x 0 + w)) d)

-- what is left to add, one document on
pub next : (w : ℕ) (docs scores new all : List ℕ) (i d : ℕ) → i < length docs → d ≡ get_or docs i 0 → new ≡ set scores d (get_or scores d 0 + w)
    → added w (drop i docs) scores ≡ all → added w (drop (i + 1) docs) new ≡ all
next w docs scores new all i d inside is step left =
    let one : i + 1 ≡ suc i = omega arith in
    ap (λ j. added w (drop j docs) new) one ∙ ap (λ n. added w (drop (suc i) docs) n) step
    ∙ ap (λ x. added w (drop (suc i) docs) (set scores x (get_or scores x 0 + w))) is ∙ sym (ap (λ ds. added w ds scores) (drop-cons docs i 0 inside)) ∙ left

-- a score on the way to scores that fit fits
pub fits : (w : ℕ) (docs scores all : List ℕ) (i d n : ℕ) → i < length docs → d ≡ get_or docs i 0 → length scores ≡ n → d < n → All (λ s. s < 2 ^ 32) all
    → added w (drop i docs) scores ≡ all → get_or scores d 0 + w < 2 ^ 32
fits w docs scores all i d n inside is len below small left =
    let e : ℕ = get_or docs i 0 in
    let there : added w (drop (suc i) docs) (set scores e (get_or scores e 0 + w)) ≡ all = sym (ap (λ ds. added w ds scores) (drop-cons docs i 0 inside)) ∙ left in
    let size : length all ≡ n = ap length (sym left) ∙ length-added w (drop i docs) scores ∙ len in
    let most : get_or all e 0 < 2 ^ 32 = All-get_or (λ s. s < 2 ^ 32) all e 0 (omega arith) small in
    let reached : get_or scores e 0 + w ≤ get_or all e 0 = subst (λ xs. get_or scores e 0 + w ≤ get_or xs e 0) there
    (subst (λ x. x ≤ get_or (added w (drop (suc i) docs) (set scores e (get_or scores e 0 + w))) e 0) (get_or-set_same scores e (get_or scores e 0 + w) 0 (omega arith))
    (added-above w (drop (suc i) docs) (set scores e (get_or scores e 0 + w)) e)) in
    subst (λ x. get_or scores x 0 + w < 2 ^ 32) (sym is) (omega (arith, most, reached))

-- the documents that are left to note, one document on
pub next_noted : (w : ℕ) (last : Hit) (docs scores new here there all : List ℕ) (i d score : ℕ) → i < length docs → d ≡ get_or docs i 0 → score ≡ get_or scores d 0 + w → new ≡ set scores d score
    → there ≡ here ++ crossed d (score - w) score last → here ++ raised w last (drop i docs) scores ≡ all → there ++ raised w last (drop (i + 1) docs) new ≡ all
next_noted w last docs scores new here there all i d score inside is rose step there_is left =
    let one : i + 1 ≡ suc i = omega arith in
    let before : score - w ≡ get_or scores d 0 = omega arith in
    let opened : raised w last (drop i docs) scores ≡ crossed d (score - w) score last ++ raised w last (drop (i + 1) docs) new =
    ap (λ ds. raised w last ds scores) (drop-cons docs i 0 inside)
    ∙ ap (λ x. crossed x (get_or scores x 0) (get_or scores x 0 + w) last ++ raised w last (drop (suc i) docs) (set scores x (get_or scores x 0 + w))) (sym is)
    ∙ ap (λ b. crossed d b (get_or scores d 0 + w) last ++ raised w last (drop (suc i) docs) (set scores d (get_or scores d 0 + w))) (sym before)
    ∙ ap (λ v. crossed d (score - w) v last ++ raised w last (drop (suc i) docs) (set scores d v)) (sym rose)
    ∙ ap (λ n. crossed d (score - w) score last ++ raised w last (drop (suc i) docs) n) (sym step)
    ∙ ap (λ j. crossed d (score - w) score last ++ raised w last (drop j docs) new) (sym one) in
    ap (λ xs. xs ++ raised w last (drop (i + 1) docs) new) there_is
    ∙ append_assoc here (crossed d (score - w) score last) (raised w last (drop (i + 1) docs) new) ∙ ap (λ ys. here ++ ys) (sym opened) ∙ left

pub few_crossed : (d before after : ℕ) (last : Hit) → length (crossed d before after last) ≤ 1
few_crossed d before after last = by_test (nat_lt before (score_to_pass last d) && nat_le (score_to_pass last d) after) d
  where
    by_test : (b : Bool) (d : ℕ) → length (cond b (d ∷ []) []) ≤ 1
    by_test true d = omega arith
    by_test false d = omega arith
