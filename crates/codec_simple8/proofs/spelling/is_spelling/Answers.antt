use Rattle.std.proofs.Common.{◌≡◌, ◌+◌, ◌%◌, ◌≤◌, drop, length-drop, sym, ap, subst, ◌∙◌, arith}
use Rattle.std.proofs.lemmas.List.{drop-drop, get_or-drop}
use Rattle.codec_simple8.specs.Simple8.{count_of, word_in}
use Rattle.codec_simple8.specs.Private.Words.{AreWords}
use Rattle.codec_simple8.proofs.Tables.{count_some, count_most}
use Rattle.codec_simple8.proofs.WordLists.{words_one, spelling_fails, spelling_one, spelling_end}
use Rattle.codec_simple8.proofs.spelling.is_spelling.Goals as goal

pub returns-then-not-spells_them : goal.returns-then-not-spells_them
returns-then-not-spells_them c =
    spelling_fails (drop c.loop-left.at c.args.bytes.now) c.loop-left.left c.loop-left.invariant.words (omega (arith, c.loop-left-test.true)) (sym c.spells_them.ensures ∙ c.if-not-spells_them.true) ∙ sym c.loop-left.invariant.same

pub word_at-requires : goal.word_at-requires
word_at-requires c =
    let one = words_one (drop c.loop-left.at c.args.bytes.now) c.loop-left.left c.loop-left.invariant.words (omega (arith, c.loop-left-test.true)) in
    omega (arith, one.long, length-drop c.loop-left.at c.args.bytes.now)

pub overflow_cast-left : goal.overflow_cast-left
overflow_cast-left c = record { fits = omega (arith, c.count.ensures, count_most c.of.result.number c.of.result.few) }

pub overflow_sub-left : goal.overflow_sub-left
overflow_sub-left c =
    let one = words_one (drop c.loop-left.at c.args.bytes.now) c.loop-left.left c.loop-left.invariant.words (omega (arith, c.loop-left-test.true)) in
    omega (arith, c.count.ensures, ap count_of c.of.ensures, subst (λ word. count_of (word % 16) ≤ c.loop-left.left) (sym c.word_at.ensures) one.few)

pub loop-left-smaller : goal.loop-left-smaller
loop-left-smaller c = omega (arith, c.count.ensures, count_some c.of.result.number c.of.result.few, c.loop-left-test.true)

pub loop-left-preserved : goal.loop-left-preserved
loop-left-preserved c =
    let one = words_one (drop c.loop-left.at c.args.bytes.now) c.loop-left.left c.loop-left.invariant.words (omega (arith, c.loop-left-test.true)) in
    let count : c.count.result ≡ count_of (word_in (drop c.loop-left.at c.args.bytes.now) % 16) = c.count.ensures ∙ ap count_of c.of.ensures ∙ ap (λ word. count_of (word % 16)) c.word_at.ensures in
    rw (count, sym (drop-drop 8 c.loop-left.at c.args.bytes.now)) (record {
      words = one.next;
      same = c.loop-left.invariant.same ∙ spelling_one (drop c.loop-left.at c.args.bytes.now) c.loop-left.left c.loop-left.invariant.words (omega (arith, c.loop-left-test.true))
          (λ i. rw (get_or-drop c.loop-left.at c.args.bytes.now i 0) (c.type_inv.bytes (c.loop-left.at + i)).fits) (sym c.spells_them.ensures ∙ c.if-not-spells_them.false);
    })

pub returns : goal.returns
returns c =
    let none : c.loop-left.left ≡ 0 = omega (arith, c.loop-left-test.false) in
    spelling_end (drop c.loop-left.at c.args.bytes.now) (subst (AreWords (drop c.loop-left.at c.args.bytes.now)) none c.loop-left.invariant.words) ∙ sym c.loop-left.invariant.same

pub overflow_add-at : goal.overflow_add-at
overflow_add-at c =
    let one = words_one (drop c.loop-left.at c.args.bytes.now) c.loop-left.left c.loop-left.invariant.words (omega (arith, c.loop-left-test.true)) in
    record { fits = omega (arith, one.long, length-drop c.loop-left.at c.args.bytes.now) }
