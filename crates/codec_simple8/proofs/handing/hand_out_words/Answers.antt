use Rattle.std.proofs.Common.{◌≡◌, ◌+◌, ◌-◌, ◌%◌, ◌<◌, ◌≤◌, ◌++◌, drop, take, length, length-drop, refl, sym, ap, subst, ◌∙◌, arith}
use Rattle.jass_base.specs.Gaps.{docs_from}
use Rattle.jass_base.specs.declared.payload_fault.PayloadFault.TheVariants.{Cut, Shape, DocRange}
use Rattle.codec_simple8.specs.Simple8.{count_of, gaps_in, word_in, least_behind, read_words}
use Rattle.codec_simple8.proofs.HandedWords.{handed_start, handed_one, handed_end}
use Rattle.codec_simple8.proofs.Reading.{walk_fault, walk_longer, walk_end, word_cut, word_shape, word_range, word_ok, few_gaps}
use Rattle.codec_simple8.proofs.Tables.{count_some, count_most}
use Rattle.codec_simple8.proofs.WordLists.{length-gaps_in}
use Rattle.codec_simple8.proofs.handing.hand_out_words.Goals as goal

pub words-init : goal.words-init
words-init c = handed_start c.args.d c.args.count c.args.bytes.now c.args.out.now

pub returns-then-bytes-at-lt8-clause-judged : goal.returns-then-bytes-at-lt8-clause-judged
returns-then-bytes-at-lt8-clause-judged c =
    let short : length (drop c.words.at c.args.bytes.now) < 8 = omega (arith, c.if-bytes-at-lt8.true, length-drop c.words.at c.args.bytes.now) in
    let is = walk_fault (read_words c.args.count c.args.d 0 c.args.count c.args.bytes.now) c.args.d c.args.bytes.now c.words.at c.words.left c.words.least Cut c.words.invariant.walk (omega (arith, c.words-test.true))
    (word_cut c.args.d c.words.least c.words.left (drop c.words.at c.args.bytes.now) short) in
    rw is refl

pub overflow_cast-gaps : goal.overflow_cast-gaps
overflow_cast-gaps c = record { fits = omega (arith, c.count-gaps.ensures, count_most c.of-selector.result.number c.of-selector.result.few) }

pub returns-then-gaps-left-clause-judged : goal.returns-then-gaps-left-clause-judged
returns-then-gaps-left-clause-judged c =
    let long : 8 ≤ length (drop c.words.at c.args.bytes.now) = omega (arith, c.if-bytes-at-lt8.false, length-drop c.words.at c.args.bytes.now) in
    let many : c.words.left < count_of (word_in (drop c.words.at c.args.bytes.now) % 16) = subst (λ word. c.words.left < count_of (word % 16)) c.word_at-word.ensures (omega (arith, c.count-gaps.ensures, ap count_of c.of-selector.ensures, c.if-gaps-left.true)) in
    let is = walk_fault (read_words c.args.count c.args.d 0 c.args.count c.args.bytes.now) c.args.d c.args.bytes.now c.words.at c.words.left c.words.least Shape c.words.invariant.walk (omega (arith, c.words-test.true))
    (word_shape c.args.d c.words.least c.words.left (drop c.words.at c.args.bytes.now) long many) in
    rw is refl

pub put_word-requires-clause-values : goal.put_word-requires-clause-values
put_word-requires-clause-values c = omega (arith, c.word_at-word.type_inv)

pub returns-in_default-clause-judged : goal.returns-in_default-clause-judged
unfolding gaps_in
returns-in_default-clause-judged c =
    let rest = drop c.words.at c.args.bytes.now in
    let long : 8 ≤ length rest = omega (arith, c.if-bytes-at-lt8.false, length-drop c.words.at c.args.bytes.now) in
    let few = few_gaps c.words.left rest c.word_at-word.result c.of-selector.result.number c.count-gaps.result c.word_at-word.ensures c.of-selector.ensures c.count-gaps.ensures c.if-gaps-left.false in
    let high : c.args.d < least_behind c.words.least (gaps_in (word_in rest)) =
    rw (sym c.word_at-word.ensures) (rw c.of-selector.ensures at c.in_default.ensures.none refl) in
    let is = walk_fault (read_words c.args.count c.args.d 0 c.args.count c.args.bytes.now) c.args.d c.args.bytes.now c.words.at c.words.left c.words.least DocRange c.words.invariant.walk (omega (arith, c.words-test.true))
    (word_range c.args.d c.words.least c.words.left rest long few c.words.invariant.walk.low high) in
    rw is refl

pub words-smaller : goal.words-smaller
words-smaller c = omega (arith, c.count-gaps.ensures, count_some c.of-selector.result.number c.of-selector.result.few, c.words-test.true)

pub words-preserved : goal.words-preserved
unfolding gaps_in
words-preserved c =
    let rest = drop c.words.at c.args.bytes.now in
    let own = gaps_in (word_in rest) in
    let filled = c.args.count - c.words.left in
    let long : 8 ≤ length rest = omega (arith, c.if-bytes-at-lt8.false, length-drop c.words.at c.args.bytes.now) in
    let few = few_gaps c.words.left rest c.word_at-word.result c.of-selector.result.number c.count-gaps.result c.word_at-word.ensures c.of-selector.ensures c.count-gaps.ensures c.if-gaps-left.false in
    let many : 0 < length own = omega (arith, length-gaps_in (word_in rest), count_some (word_in rest % 16) (omega arith)) in
    let count : c.count-gaps.result ≡ length own = c.count-gaps.ensures ∙ ap count_of c.of-selector.ensures ∙ ap (λ word. count_of (word % 16)) c.word_at-word.ensures ∙ sym (length-gaps_in (word_in rest)) in
    let next : c.in-Some.behind ≡ least_behind c.words.least own = (rw c.of-selector.ensures at c.in-Some.ensures.some) ∙ ap (λ word. least_behind c.words.least (gaps_in word)) c.word_at-word.ensures in
    let low : least_behind c.words.least own ≤ c.args.d = omega (arith, next, c.in-Some.ensures.within) in
    let put : take (filled + count_of (word_in rest % 16)) c.put_word.new.out ≡ take filled c.words.out ++ docs_from c.words.least own =
    subst (λ word. take (filled + count_of (word % 16)) c.put_word.new.out ≡ take filled c.words.out ++ docs_from c.words.least (gaps_in word)) c.word_at-word.ensures (rw c.of-selector.ensures at c.in-Some.ensures.docs) in
    rw (next, count) (handed_one (read_words c.args.count c.args.d 0 c.args.count c.args.bytes.now) c.args.d c.args.bytes.now c.args.count c.words.at c.words.left c.words.least c.args.out.now c.words.out c.put_word.new.out own
    c.words.invariant (omega (arith, c.words-test.true)) long many (omega (arith, few, length-gaps_in (word_in rest))) low (word_ok c.args.d c.words.least c.words.left rest long few low)
    (ap (λ n. take (filled + n) c.put_word.new.out) (length-gaps_in (word_in rest)) ∙ put) c.put_word.ensures.length)

pub returns-then-at-bytes-clause-judged : goal.returns-then-at-bytes-clause-judged
returns-then-at-bytes-clause-judged c =
    let is = walk_longer (read_words c.args.count c.args.d 0 c.args.count c.args.bytes.now) c.args.d c.args.bytes.now c.words.at c.words.left c.words.least c.words.invariant.walk (omega (arith, c.words-test.false)) c.if-at-bytes.true in
    rw is refl

pub returns-clause-judged : goal.returns-clause-judged
returns-clause-judged c =
    let is = walk_end (read_words c.args.count c.args.d 0 c.args.count c.args.bytes.now) c.args.d c.args.bytes.now c.words.at c.words.left c.words.least c.words.invariant.walk (omega (arith, c.words-test.false)) c.if-at-bytes.false in
    rw is refl

pub returns-clause-docs : goal.returns-clause-docs
returns-clause-docs c = λ gaps is.
    handed_end (read_words c.args.count c.args.d 0 c.args.count c.args.bytes.now) c.args.d c.args.bytes.now c.args.count c.words.at c.words.left c.words.least c.args.out.now c.words.out gaps
    c.words.invariant (omega (arith, c.words-test.false)) c.if-at-bytes.false is
