use Rattle.shared_lemmas.proofs.Common.{◌≡◌, ℕ, ◌<◌, List, length, get_or, Some, None, ◌≤◌, true, false, sym, eq-eqb, refl, arith, ◌==◌, nat_lt, position, position_or_len_is}
use Rattle.std.proofs.Common.{lt-ltb, le-ltb}
use Rattle.ranking_model.proofs.standing.least_untouched.Goals as goal

first_zero : (scores : List ℕ) (i : ℕ) → i < length scores → ((k : ℕ) → k < i → (get_or scores k 0 == 0) ≡ false) → get_or scores i 0 ≡ 0 → position (λ score. score == 0) scores ≡ Some i
first_zero scores i h before here =
    let at = position_or_len_is (λ (score : ℕ). score == 0) scores i 0 (omega arith) before (λ k. eq-eqb _ _ here) in
    let within : nat_lt i (length scores) ≡ true = lt-ltb _ _ h in
    rw (at, within) refl

pub returns-then-score-eq0 : goal.returns-then-score-eq0
returns-then-score-eq0 c = sym (first_zero c.args.scores.now c.loop-doc.doc c.loop-doc-test.true c.loop-doc.invariant c.if-score-eq0.true)

no_zero : (scores : List ℕ) (i : ℕ) → i ≤ length scores → length scores ≤ i → ((k : ℕ) → k < i → (get_or scores k 0 == 0) ≡ false) → None ≡ position (λ score. score == 0) scores
no_zero scores i low high before =
    let end : i ≡ length scores = omega arith in
    let at = position_or_len_is (λ (score : ℕ). score == 0) scores i 0 low before (λ k. absurd (omega arith)) in
    let past : nat_lt i (length scores) ≡ false = le-ltb _ _ high in
    rw (at, past) refl

pub returns : goal.returns
returns c = no_zero c.args.scores.now c.loop-doc.doc c.loop-doc.auto.doc-end c.loop-doc-test.false c.loop-doc.invariant
