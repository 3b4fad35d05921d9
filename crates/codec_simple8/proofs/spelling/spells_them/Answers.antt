use Rattle.shared_lemmas.proofs.Common.{◌≡◌, ℕ, ◌+◌, ◌-◌, ◌*◌, ◌/◌, ◌%◌, ◌<◌, ◌≤◌, ◌^◌, List, Bool, drop, take, length, true, false, not, nat_lt, inl, inr, refl, sym, ap, subst, ◌∙◌, ◌&&◌, arith, nat_le, list_all, cases_lt, nat_tests, and-false}
use Rattle.std.proofs.Common.{length-drop}
use Rattle.codec_simple8.specs.Simple8.{count_of, width_of, fields, takes, word_in}
use Rattle.codec_simple8.specs.Private.Words.{bytes_gaps}
use Rattle.codec_simple8.proofs.Tables.{count_most, count_falls, width_most, bits_most}
use Rattle.codec_simple8.proofs.WordLists.{words_one, narrow_parts, test_unused, test_first, test_later}
use Rattle.codec_simple8.proofs.Trying.{fails_few}
use Rattle.codec_simple8.proofs.spelling.spells_them.Goals as goal

pub word_at-word-requires : goal.word_at-word-requires
word_at-word-requires c =
    let one = words_one (drop c.args.at c.args.bytes.now) c.args.left c.requires.words c.requires.some in
    omega (arith, one.long, length-drop c.args.at c.args.bytes.now)

pub overflow_cast-used : goal.overflow_cast-used
overflow_cast-used c = record { fits = omega (arith, c.count.ensures, count_most c.of-selector.result.number c.of-selector.result.few) }

pub overflow_mul-used : goal.overflow_mul-used
overflow_mul-used c = let most = bits_most c.of-selector.result.number c.of-selector.result.few in rw (c.width.ensures, c.count.ensures) (record { fits = omega (arith, most) })

pub overflow_cast-used-2 : goal.overflow_cast-used-2
overflow_cast-used-2 c = let most = bits_most c.of-selector.result.number c.of-selector.result.few in rw (c.width.ensures, c.count.ensures) (record { fits = omega (arith, most) })

pub overflow_shr-word : goal.overflow_shr-word
overflow_shr-word c = let most = bits_most c.of-selector.result.number c.of-selector.result.few in rw (c.width.ensures, c.count.ensures) (omega (arith, most))

-- the word's bits that are used
used : (word selector w c : ℕ) → selector ≡ word % 16 → w ≡ width_of selector → c ≡ count_of selector → w * c ≡ width_of (word % 16) * count_of (word % 16)
used word selector w c its wide many = ap (λ w. w * c) wide ∙ ap (λ c. width_of selector * c) many ∙ ap (λ s. width_of s * count_of s) its

pub returns-then-word-used-ne0 : goal.returns-then-word-used-ne0
returns-then-word-used-ne0 c =
    let bits = used c.word_at-word.result c.of-selector.result.number c.width.result c.count.result c.of-selector.ensures c.width.ensures c.count.ensures in
    rw (sym c.word_at-word.ensures) (test_unused c.word_at-word.result (bytes_gaps (drop c.args.at c.args.bytes.now)) (λ none. c.if-word-used-ne0.true (ap (λ b. c.word_at-word.result / 16 / 2 ^ b) bits ∙ none)))

-- where one of the word's own gaps is too wide
wide_fails : (bytes : List ℕ) (s : ℕ) → 8 ≤ length bytes → 1 ≤ s → s < 16 → s ≡ word_in bytes % 16 → list_all (λ gap. nat_lt gap (2 ^ width_of (s - 1))) (fields (width_of s) (count_of s) (word_in bytes / 16)) ≡ false
    → takes (s - 1) (bytes_gaps bytes) ≡ false
wide_fails bytes s long some small its fails =
    let before : s - 1 + 1 ≡ s = omega (arith, some) in
    let fewer : count_of s ≤ count_of (s - 1) = subst (λ k. count_of k ≤ count_of (s - 1)) before (count_falls (s - 1) (omega (arith, some, small))) in
    let more : count_of (word_in bytes % 16) ≤ count_of (s - 1) = subst (λ k. count_of k ≤ count_of (s - 1)) its fewer in
    let parts = narrow_parts (λ gap. nat_lt gap (2 ^ width_of (s - 1))) bytes (count_of (s - 1)) (count_of (word_in bytes % 16)) long (inl refl) (omega arith) more in
    let own : list_all (λ gap. nat_lt gap (2 ^ width_of (s - 1))) (fields (width_of (word_in bytes % 16)) (count_of (word_in bytes % 16)) (word_in bytes / 16)) ≡ false =
    subst (λ k. list_all (λ gap. nat_lt gap (2 ^ width_of (s - 1))) (fields (width_of k) (count_of k) (word_in bytes / 16)) ≡ false) its fails in
    let none : list_all (λ gap. nat_lt gap (2 ^ width_of (s - 1))) (take (count_of (s - 1)) (bytes_gaps bytes)) ≡ false = parts ∙ rw own refl in
    ap (λ b. nat_le (count_of (s - 1)) (length (bytes_gaps bytes)) && b) none ∙ and-false (nat_le (count_of (s - 1)) (length (bytes_gaps bytes)))

pub returns-then-has_wider : goal.returns-then-has_wider
returns-then-has_wider c =
    let rest = drop c.args.at c.args.bytes.now in
    let one = words_one rest c.args.left c.requires.words c.requires.some in
    let bits = used c.word_at-word.result c.of-selector.result.number c.width.result c.count.result c.of-selector.ensures c.width.ensures c.count.ensures in
    let none : c.word_at-word.result / 16 / 2 ^ (width_of (c.word_at-word.result % 16) * count_of (c.word_at-word.result % 16)) ≡ 0 = ap (λ b. c.word_at-word.result / 16 / 2 ^ b) (sym bits) ∙ c.if-word-used-ne0.false in
    elim (cases_lt c.of-selector.result.number 1) [
      | inl less ↦ rw (sym c.word_at-word.ensures) (test_first c.word_at-word.result (bytes_gaps rest) none (omega (arith, c.of-selector.ensures, less)))
      | inr some ↦
          let wide : list_all (λ gap. nat_lt gap (2 ^ width_of (c.of-selector.result.number - 1))) (fields (width_of c.of-selector.result.number) (count_of c.of-selector.result.number) (word_in rest / 16)) ≡ false =
          not_true (list_all (λ gap. nat_lt gap (2 ^ width_of (c.of-selector.result.number - 1))) (fields (width_of c.of-selector.result.number) (count_of c.of-selector.result.number) (word_in rest / 16)))
          (ap (λ w. not (list_all (λ gap. nat_lt gap (2 ^ width_of (c.of-selector.result.number - 1))) (fields (width_of c.of-selector.result.number) (count_of c.of-selector.result.number) (w / 16)))) (sym c.word_at-word.ensures) ∙ sym c.has_wider.ensures ∙ c.if-has_wider.true) in
          let fails = wide_fails rest c.of-selector.result.number one.long some c.of-selector.result.few (c.of-selector.ensures ∙ ap (λ w. w % 16) c.word_at-word.ensures) wide in
          rw (sym c.word_at-word.ensures) (test_later c.word_at-word.result (bytes_gaps rest) false none (λ first. absurd (omega (arith, some, c.of-selector.ensures, first))) (subst (λ s. takes (s - 1) (bytes_gaps rest) ≡ false) c.of-selector.ensures fails))
    ]
  where
    not_true : (b : Bool) → not b ≡ true → b ≡ false
    not_true true is = sym is
    not_true false is = refl

pub returns-then-selector-eq0 : goal.returns-then-selector-eq0
returns-then-selector-eq0 c =
    let bits = used c.word_at-word.result c.of-selector.result.number c.width.result c.count.result c.of-selector.ensures c.width.ensures c.count.ensures in
    rw (sym c.word_at-word.ensures) (test_first c.word_at-word.result (bytes_gaps (drop c.args.at c.args.bytes.now)) (ap (λ b. c.word_at-word.result / 16 / 2 ^ b) (sym bits) ∙ c.if-word-used-ne0.false) (sym c.of-selector.ensures ∙ c.if-selector-eq0.true))

pub are_narrow-requires-clause-width : goal.are_narrow-requires-clause-width
are_narrow-requires-clause-width c = omega (arith, c.width-else-more-left.ensures, width_most c.before-narrower.result.number c.before-narrower.result.few)

pub returns-then-more-left : goal.returns-then-more-left
returns-then-more-left c =
    let bits = used c.word_at-word.result c.of-selector.result.number c.width.result c.count.result c.of-selector.ensures c.width.ensures c.count.ensures in
    let its : c.before-narrower.result.number ≡ c.word_at-word.result % 16 - 1 = c.before-narrower.ensures ∙ ap (λ s. s - 1) c.of-selector.ensures in
    let less = c.if-more-left.true in
    let t : nat_lt c.args.left c.count-more.result ≡ true = grind (arith, nat_tests) in
    let fails = fails_few (bytes_gaps (drop c.args.at c.args.bytes.now)) (c.word_at-word.result % 16 - 1) (omega (arith, c.requires.words.count, c.count-more.ensures, ap count_of its, c.if-more-left.true)) in
    rw (t, sym c.word_at-word.ensures) (test_later c.word_at-word.result (bytes_gaps (drop c.args.at c.args.bytes.now)) false (ap (λ b. c.word_at-word.result / 16 / 2 ^ b) (sym bits) ∙ c.if-word-used-ne0.false) (λ none. c.if-selector-eq0.false (c.of-selector.ensures ∙ none)) fails)

pub returns-else-more-left : goal.returns-else-more-left
returns-else-more-left c =
    let bits = used c.word_at-word.result c.of-selector.result.number c.width.result c.count.result c.of-selector.ensures c.width.ensures c.count.ensures in
    let its : c.before-narrower.result.number ≡ c.word_at-word.result % 16 - 1 = c.before-narrower.ensures ∙ ap (λ s. s - 1) c.of-selector.ensures in
    let enough : count_of (c.word_at-word.result % 16 - 1) ≤ length (bytes_gaps (drop c.args.at c.args.bytes.now)) = omega (arith, c.requires.words.count, c.count-more.ensures, ap count_of its, c.if-more-left.false) in
    let t : nat_le (count_of (c.word_at-word.result % 16 - 1)) (length (bytes_gaps (drop c.args.at c.args.bytes.now))) ≡ true = grind (arith, nat_tests) in
    let narrow : c.are_narrow.result ≡ list_all (λ gap. nat_lt gap (2 ^ width_of (c.word_at-word.result % 16 - 1))) (take (count_of (c.word_at-word.result % 16 - 1)) (bytes_gaps (drop c.args.at c.args.bytes.now))) =
    c.are_narrow.ensures ∙ ap (λ n. list_all (λ gap. nat_lt gap (2 ^ c.width-else-more-left.result)) (take n (bytes_gaps (drop c.args.at c.args.bytes.now)))) (c.count-more.ensures ∙ ap count_of its)
    ∙ ap (λ w. list_all (λ gap. nat_lt gap (2 ^ w)) (take (count_of (c.word_at-word.result % 16 - 1)) (bytes_gaps (drop c.args.at c.args.bytes.now)))) (c.width-else-more-left.ensures ∙ ap width_of its) in
    rw (sym c.word_at-word.ensures) (test_later c.word_at-word.result (bytes_gaps (drop c.args.at c.args.bytes.now)) c.are_narrow.result (ap (λ b. c.word_at-word.result / 16 / 2 ^ b) (sym bits) ∙ c.if-word-used-ne0.false) (λ none. c.if-selector-eq0.false (c.of-selector.ensures ∙ none))
    (rw t (sym narrow)))
