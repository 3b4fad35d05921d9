use Rattle.std.proofs.Common.{◌≡◌, ◌%◌, ◌<◌, ◌≤◌, drop, length, length-drop, refl, sym, ap, subst, ◌∙◌, arith}
use Rattle.jass_base.specs.declared.payload_fault.PayloadFault.TheVariants.{Cut, Shape, DocRange}
use Rattle.codec_simple8.specs.Simple8.{count_of, gaps_in, word_in, least_behind, read_words}
use Rattle.codec_simple8.proofs.Reading.{walk_start, walk_fault, walk_one, walk_longer, walk_end, word_cut, word_shape, word_range, word_ok, few_gaps, least_after}
use Rattle.codec_simple8.proofs.Tables.{count_some, count_most}
use Rattle.codec_simple8.proofs.WordLists.{length-gaps_in}
use Rattle.codec_simple8.proofs.checking.walk.Goals as goal

pub loop-left-init : goal.loop-left-init
loop-left-init c = walk_start c.args.d c.args.count c.args.bytes.now

pub returns-then-bytes-at-lt8 : goal.returns-then-bytes-at-lt8
returns-then-bytes-at-lt8 c =
    let short : length (drop c.loop-left.at c.args.bytes.now) < 8 = omega (arith, c.if-bytes-at-lt8.true, length-drop c.loop-left.at c.args.bytes.now) in
    let is = walk_fault (read_words c.args.count c.args.d 0 c.args.count c.args.bytes.now) c.args.d c.args.bytes.now c.loop-left.at c.loop-left.left c.loop-left.least Cut c.loop-left.invariant (omega (arith, c.loop-left-test.true))
    (word_cut c.args.d c.loop-left.least c.loop-left.left (drop c.loop-left.at c.args.bytes.now) short) in
    rw is refl

pub overflow_cast-gaps : goal.overflow_cast-gaps
overflow_cast-gaps c = record { fits = omega (arith, c.count-gaps.ensures, count_most c.of-selector.result.number c.of-selector.result.few) }

pub returns-then-gaps-left : goal.returns-then-gaps-left
returns-then-gaps-left c =
    let word = c.word_at-word.ensures in
    let long : 8 ≤ length (drop c.loop-left.at c.args.bytes.now) = omega (arith, c.if-bytes-at-lt8.false, length-drop c.loop-left.at c.args.bytes.now) in
    let many : c.loop-left.left < count_of (word_in (drop c.loop-left.at c.args.bytes.now) % 16) = subst (λ word. c.loop-left.left < count_of (word % 16)) c.word_at-word.ensures (omega (arith, c.count-gaps.ensures, ap count_of c.of-selector.ensures, c.if-gaps-left.true)) in
    let is = walk_fault (read_words c.args.count c.args.d 0 c.args.count c.args.bytes.now) c.args.d c.args.bytes.now c.loop-left.at c.loop-left.left c.loop-left.least Shape c.loop-left.invariant (omega (arith, c.loop-left-test.true))
    (word_shape c.args.d c.loop-left.least c.loop-left.left (drop c.loop-left.at c.args.bytes.now) long many) in
    rw is refl

pub returns-then-least-from : goal.returns-then-least-from
returns-then-least-from c =
    let long : 8 ≤ length (drop c.loop-left.at c.args.bytes.now) = omega (arith, c.if-bytes-at-lt8.false, length-drop c.loop-left.at c.args.bytes.now) in
    let few = few_gaps c.loop-left.left (drop c.loop-left.at c.args.bytes.now) c.word_at-word.result c.of-selector.result.number c.count-gaps.result c.word_at-word.ensures c.of-selector.ensures c.count-gaps.ensures c.if-gaps-left.false in
    let least = least_after c.loop-left.least (drop c.loop-left.at c.args.bytes.now) c.word_at-word.result c.of-selector.result.number c.sum_gaps.result c.from.result c.word_at-word.ensures c.of-selector.ensures c.sum_gaps.ensures.sum (c.from.ensures ∙ c.count-gaps.ensures) in
    let is = walk_fault (read_words c.args.count c.args.d 0 c.args.count c.args.bytes.now) c.args.d c.args.bytes.now c.loop-left.at c.loop-left.left c.loop-left.least DocRange c.loop-left.invariant (omega (arith, c.loop-left-test.true))
    (word_range c.args.d c.loop-left.least c.loop-left.left (drop c.loop-left.at c.args.bytes.now) long few c.loop-left.invariant.low (omega (arith, c.if-least-from.true, c.from-in-loop-left.ensures, least))) in
    rw is refl

pub loop-left-smaller : goal.loop-left-smaller
loop-left-smaller c = omega (arith, c.count-gaps.ensures, count_some c.of-selector.result.number c.of-selector.result.few, c.loop-left-test.true)

pub loop-left-preserved : goal.loop-left-preserved
loop-left-preserved c =
    let long : 8 ≤ length (drop c.loop-left.at c.args.bytes.now) = omega (arith, c.if-bytes-at-lt8.false, length-drop c.loop-left.at c.args.bytes.now) in
    let few = few_gaps c.loop-left.left (drop c.loop-left.at c.args.bytes.now) c.word_at-word.result c.of-selector.result.number c.count-gaps.result c.word_at-word.ensures c.of-selector.ensures c.count-gaps.ensures c.if-gaps-left.false in
    let least = least_after c.loop-left.least (drop c.loop-left.at c.args.bytes.now) c.word_at-word.result c.of-selector.result.number c.sum_gaps.result c.from.result c.word_at-word.ensures c.of-selector.ensures c.sum_gaps.ensures.sum (c.from.ensures ∙ c.count-gaps.ensures) in
    let low : least_behind c.loop-left.least (gaps_in (word_in (drop c.loop-left.at c.args.bytes.now))) ≤ c.args.d = omega (arith, c.if-least-from.false, c.from-in-loop-left.ensures, least) in
    let own = length-gaps_in (word_in (drop c.loop-left.at c.args.bytes.now)) in
    let many : 0 < length (gaps_in (word_in (drop c.loop-left.at c.args.bytes.now))) = omega (arith, own, count_some (word_in (drop c.loop-left.at c.args.bytes.now) % 16) (omega arith)) in
    let count : c.count-gaps.result ≡ length (gaps_in (word_in (drop c.loop-left.at c.args.bytes.now))) = c.count-gaps.ensures ∙ ap count_of c.of-selector.ensures ∙ ap (λ word. count_of (word % 16)) c.word_at-word.ensures ∙ sym own in
    rw (least, count) (walk_one (read_words c.args.count c.args.d 0 c.args.count c.args.bytes.now) c.args.d c.args.bytes.now c.loop-left.at c.loop-left.left c.loop-left.least (gaps_in (word_in (drop c.loop-left.at c.args.bytes.now)))
    c.loop-left.invariant (omega (arith, c.loop-left-test.true)) long many low
    (word_ok c.args.d c.loop-left.least c.loop-left.left (drop c.loop-left.at c.args.bytes.now) long few low))

pub returns-then-at-bytes : goal.returns-then-at-bytes
returns-then-at-bytes c =
    let is = walk_longer (read_words c.args.count c.args.d 0 c.args.count c.args.bytes.now) c.args.d c.args.bytes.now c.loop-left.at c.loop-left.left c.loop-left.least c.loop-left.invariant (omega (arith, c.loop-left-test.false)) c.if-at-bytes.true in
    rw is refl

pub returns : goal.returns
returns c =
    let is = walk_end (read_words c.args.count c.args.d 0 c.args.count c.args.bytes.now) c.args.d c.args.bytes.now c.loop-left.at c.loop-left.left c.loop-left.least c.loop-left.invariant (omega (arith, c.loop-left-test.false)) c.if-at-bytes.false in
    rw is refl
