use Rattle.shared_lemmas.proofs.Common.{◌≡◌, ℕ, ◌-◌, ◌/◌, ◌%◌, ◌<◌, ◌≤◌, ◌^◌, List, drop, take, length, min, Bool, nat_lt, ◌⊎◌, inl, inr, refl, sym, ap, subst, ◌∙◌, arith, ◌&&◌, list_all, cases_lt, drop-drop}
use Rattle.std.proofs.Common.{length-drop, length-append}
use Rattle.codec_simple8.specs.Simple8.{count_of, width_of, fields, gaps_in, word_in}
use Rattle.codec_simple8.specs.Private.Words.{AreWords, bytes_gaps}
use Rattle.codec_simple8.proofs.Tables.{count_some}
use Rattle.codec_simple8.proofs.WordLists.{words_one, narrow_parts, length-gaps_in}
use Rattle.codec_simple8.proofs.spelling.are_narrow.Goals as goal

pub loop-left-init : goal.loop-left-init
loop-left-init c = record { words = subst (AreWords (drop c.args.at c.args.bytes.now)) (sym c.requires.words.1.count) c.requires.words.1; few = c.requires.few; same = refl }

pub word_at-word-requires : goal.word_at-word-requires
word_at-word-requires c =
    let one = words_one (drop c.loop-left.at c.args.bytes.now) (length (bytes_gaps (drop c.loop-left.at c.args.bytes.now))) c.loop-left.invariant.words (omega (arith, c.loop-left-test.true, c.loop-left.invariant.few)) in
    omega (arith, one.long, length-drop c.loop-left.at c.args.bytes.now)

-- the next gaps in part
parts : (p : ℕ → Bool) (bytes : List ℕ) (left word selector count gaps : ℕ) (holds : Bool) → 8 ≤ length bytes → word ≡ word_in bytes → selector ≡ word % 16 → count ≡ count_of selector → gaps ≡ min count left
    → holds ≡ list_all p (fields (width_of selector) gaps (word / 16)) → list_all p (take left (bytes_gaps bytes)) ≡ (holds && list_all p (take (left - gaps) (bytes_gaps (drop 8 bytes))))
parts p bytes left word selector count gaps holds long is its count_is gaps_is holds_is =
    let all = narrow_parts p bytes left gaps long (which (cases_lt count left)) (omega (arith, many, gaps_is)) (omega (arith, gaps_is)) in
    all ∙ ap (λ b. b && list_all p (take (left - gaps) (bytes_gaps (drop 8 bytes)))) (sym (holds_is ∙ ap (λ s. list_all p (fields (width_of s) gaps (word / 16))) its ∙ ap (λ word. list_all p (fields (width_of (word % 16)) gaps (word / 16))) is))
  where
    many : count ≡ count_of (word_in bytes % 16)
    many = count_is ∙ ap count_of its ∙ ap (λ word. count_of (word % 16)) is

    which : (count < left) ⊎ (left ≤ count) → (gaps ≡ count_of (word_in bytes % 16)) ⊎ (gaps ≡ left)
    which (inl less) = inl (omega (arith, gaps_is, many, less))
    which (inr more) = inr (omega (arith, gaps_is, more))

pub returns-then-not-gaps_narrow : goal.returns-then-not-gaps_narrow
returns-then-not-gaps_narrow c =
    let one = words_one (drop c.loop-left.at c.args.bytes.now) (length (bytes_gaps (drop c.loop-left.at c.args.bytes.now))) c.loop-left.invariant.words (omega (arith, c.loop-left-test.true, c.loop-left.invariant.few)) in
    let all = parts (λ gap. nat_lt gap (2 ^ c.args.width)) (drop c.loop-left.at c.args.bytes.now) c.loop-left.left c.word_at-word.result c.of-selector.result.number c.count.result c.min-gaps.result c.gaps_narrow.result one.long
    c.word_at-word.ensures c.of-selector.ensures c.count.ensures c.min-gaps.ensures c.gaps_narrow.ensures in
    sym (sym c.loop-left.invariant.same ∙ all ∙ rw c.if-not-gaps_narrow.true refl)

pub loop-left-smaller : goal.loop-left-smaller
loop-left-smaller c = omega (arith, c.min-gaps.ensures, c.count.ensures, count_some c.of-selector.result.number c.of-selector.result.few, c.loop-left-test.true)

pub loop-left-preserved : goal.loop-left-preserved
loop-left-preserved c =
    let one = words_one (drop c.loop-left.at c.args.bytes.now) (length (bytes_gaps (drop c.loop-left.at c.args.bytes.now))) c.loop-left.invariant.words (omega (arith, c.loop-left-test.true, c.loop-left.invariant.few)) in
    let all = parts (λ gap. nat_lt gap (2 ^ c.args.width)) (drop c.loop-left.at c.args.bytes.now) c.loop-left.left c.word_at-word.result c.of-selector.result.number c.count.result c.min-gaps.result c.gaps_narrow.result one.long
    c.word_at-word.ensures c.of-selector.ensures c.count.ensures c.min-gaps.ensures c.gaps_narrow.ensures in
    let more = ap length one.parts ∙ length-append (gaps_in (word_in (drop c.loop-left.at c.args.bytes.now))) (bytes_gaps (drop 8 (drop c.loop-left.at c.args.bytes.now))) in
    let own = length-gaps_in (word_in (drop c.loop-left.at c.args.bytes.now)) in
    let many : c.count.result ≡ count_of (word_in (drop c.loop-left.at c.args.bytes.now) % 16) = c.count.ensures ∙ ap count_of c.of-selector.ensures ∙ ap (λ word. count_of (word % 16)) c.word_at-word.ensures in
    rw (sym (drop-drop 8 c.loop-left.at c.args.bytes.now)) (record {
      words = subst (AreWords (drop 8 (drop c.loop-left.at c.args.bytes.now))) (sym one.next.count) one.next;
      few = omega (arith, c.loop-left.invariant.few, more, own, many, c.min-gaps.ensures);
      same = sym (all ∙ rw c.if-not-gaps_narrow.false refl) ∙ c.loop-left.invariant.same;
    })

pub returns : goal.returns
returns c =
    let none : c.loop-left.left ≡ 0 = omega (arith, c.loop-left-test.false) in
    ap (λ n. list_all (λ gap. nat_lt gap (2 ^ c.args.width)) (take n (bytes_gaps (drop c.loop-left.at c.args.bytes.now)))) (sym none) ∙ c.loop-left.invariant.same

pub overflow_add-at : goal.overflow_add-at
overflow_add-at c =
    let one = words_one (drop c.loop-left.at c.args.bytes.now) (length (bytes_gaps (drop c.loop-left.at c.args.bytes.now))) c.loop-left.invariant.words (omega (arith, c.loop-left-test.true, c.loop-left.invariant.few)) in
    record { fits = omega (arith, one.long, length-drop c.loop-left.at c.args.bytes.now) }
