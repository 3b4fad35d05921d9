use Rattle.shared_lemmas.proofs.Common.{◌≡◌, ◌+◌, ◌%◌, ◌<◌, ◌≤◌, ◌^◌, ◌++◌, take, length, sym, ap, subst, ◌∙◌, arith, All, All-take}
use Rattle.std.proofs.Common.{length-drop}
use Rattle.jass_base.specs.Gaps.{docs_from}
use Rattle.codec_simple8.specs.Simple8.{count_of, width_of, gaps_in, least_behind}
use Rattle.codec_simple8.proofs.Moves.{given_word, given_least, word_docs, word_held, moved_word, moved_held, next_word}
use Rattle.codec_simple8.proofs.Tables.{count_some, count_most, count_others, flat_widths}
use Rattle.codec_simple8.proofs.cursor.Cursor.put_word.Goals as goal

pub word_at-word-requires : goal.word_at-word-requires
word_at-word-requires c =
    let w = given_word c.args.self.now c.args.bytes.now c.requires.stands.0 c.requires.zeros c.requires.some c.requires.stands.1 in
    omega (arith, w.long, length-drop c.args.self.now.at c.args.bytes.now)

pub overflow_add-self : goal.overflow_add-self
overflow_add-self c =
    let w = given_word c.args.self.now c.args.bytes.now c.requires.stands.0 c.requires.zeros c.requires.some c.requires.stands.1 in
    record { fits = omega (arith, w.long, length-drop c.args.self.now.at c.args.bytes.now) }

pub overflow_cast-self : goal.overflow_cast-self
overflow_cast-self c = record { fits = omega (arith, c.count-count.ensures, count_most c.of-selector.result.number c.of-selector.result.few) }

pub overflow_sub-self : goal.overflow_sub-self
overflow_sub-self c =
    let w = given_word c.args.self.now c.args.bytes.now c.requires.stands.0 c.requires.zeros c.requires.some c.requires.stands.1 in
    let few : count_of (c.word_at-word.result % 16) ≤ c.args.self.now.left = omega (arith, subst (λ word. count_of (word % 16) ≤ length c.requires.stands.1.gaps) (sym c.word_at-word.ensures) w.few, c.requires.stands.1.left) in
    omega (arith, c.count-count.ensures, ap count_of c.of-selector.ensures, few)

pub overflow_cast-self-then-selector-lt2 : goal.overflow_cast-self-then-selector-lt2
overflow_cast-self-then-selector-lt2 c = record { fits = omega (arith, c.count-count.ensures, count_most c.of-selector.result.number c.of-selector.result.few) }

pub put_zeros-requires-clause-stands : goal.put_zeros-requires-clause-stands
put_zeros-requires-clause-stands c =
    let its : c.of-selector.result.number ≡ next_word c.args.self.now c.args.bytes.now % 16 = c.of-selector.ensures ∙ ap (λ word. word % 16) c.word_at-word.ensures in
    let flat : width_of (next_word c.args.self.now c.args.bytes.now % 16) ≡ 0 = subst (λ s. width_of s ≡ 0) its (flat_widths c.of-selector.result.number c.if-selector-lt2.true) in
    let count : c.count-count.result ≡ count_of (next_word c.args.self.now c.args.bytes.now % 16) = c.count-count.ensures ∙ ap count_of its in
    (c.args.bytes.now, c.requires.stands.0, rw count (word_held c.args.self.now c.args.bytes.now c.requires.stands.0 c.requires.zeros c.requires.some flat c.requires.stands.1))

pub returns-then-selector-lt2-clause-moved : goal.returns-then-selector-lt2-clause-moved
returns-then-selector-lt2-clause-moved c =
    let its : c.of-selector.result.number ≡ next_word c.args.self.now c.args.bytes.now % 16 = c.of-selector.ensures ∙ ap (λ word. word % 16) c.word_at-word.ensures in
    let flat : width_of (next_word c.args.self.now c.args.bytes.now % 16) ≡ 0 = subst (λ s. width_of s ≡ 0) its (flat_widths c.of-selector.result.number c.if-selector-lt2.true) in
    let count : c.count-count.result ≡ count_of (next_word c.args.self.now c.args.bytes.now % 16) = c.count-count.ensures ∙ ap count_of its in
    moved_held c.args.self.now c.put_zeros.new.self c.args.filled c.put_zeros.result c.args.bytes.now c.args.out.now c.put_zeros.new.out c.requires.zeros c.requires.some flat
    (rw count at c.put_zeros.ensures.moved c.args.bytes.now)

pub returns-then-selector-lt2-clause-left : goal.returns-then-selector-lt2-clause-left
returns-then-selector-lt2-clause-left c =
    omega (arith, c.put_zeros.ensures.left, c.count-count.ensures, count_some c.of-selector.result.number c.of-selector.result.few, c.requires.some)

pub returns-then-selector-lt2-clause-more : goal.returns-then-selector-lt2-clause-more
returns-then-selector-lt2-clause-more c =
    c.put_zeros.ensures.more (omega (arith, c.count-count.ensures, count_some c.of-selector.result.number c.of-selector.result.few)) (omega (arith, c.requires.room))

pub put_fields-self-requires-clause-least : goal.put_fields-self-requires-clause-least
put_fields-self-requires-clause-least c = given_least c.args.self.now c.args.bytes.now c.requires.stands.0 c.requires.zeros c.requires.some c.requires.stands.1

pub put_fields-self-requires-clause-below : goal.put_fields-self-requires-clause-below
unfolding gaps_in
put_fields-self-requires-clause-below c =
    rw (c.of-selector.ensures, c.word_at-word.ensures) (subst (All (λ doc. doc < 2 ^ 26)) (word_docs c.args.self.now c.args.bytes.now c.requires.stands.0 c.requires.zeros c.requires.some c.requires.stands.1)
    (All-take (λ doc. doc < 2 ^ 26) (count_of (next_word c.args.self.now c.args.bytes.now % 16)) c.requires.stands.0 c.requires.stands.1.below))

pub overflow_add-result : goal.overflow_add-result
overflow_add-result c = record { fits = omega (arith, c.count-count.ensures, count_most c.of-selector.result.number c.of-selector.result.few, c.requires.room) }

pub returns-clause-moved : goal.returns-clause-moved
unfolding gaps_in
returns-clause-moved c =
    let its : c.of-selector.result.number ≡ next_word c.args.self.now c.args.bytes.now % 16 = c.of-selector.ensures ∙ ap (λ word. word % 16) c.word_at-word.ensures in
    let count : c.count-count.result ≡ count_of (next_word c.args.self.now c.args.bytes.now % 16) = c.count-count.ensures ∙ ap count_of its in
    let least : c.put_fields-self.result ≡ least_behind c.args.self.now.least (gaps_in (next_word c.args.self.now c.args.bytes.now)) = (rw c.of-selector.ensures at c.put_fields-self.ensures.next) ∙ ap (λ word. least_behind c.args.self.now.least (gaps_in word)) c.word_at-word.ensures in
    let room : c.args.filled + count_of (next_word c.args.self.now c.args.bytes.now % 16) ≤ 128 =
    subst (λ s. c.args.filled + count_of s ≤ 128) its (omega (arith, count_others c.of-selector.result.number c.if-selector-lt2.false c.of-selector.result.few, c.requires.room)) in
    let put : take (c.args.filled + count_of (next_word c.args.self.now c.args.bytes.now % 16)) c.put_fields-self.new.out ≡ take c.args.filled c.args.out.now ++ docs_from c.args.self.now.least (gaps_in (next_word c.args.self.now c.args.bytes.now)) =
    subst (λ word. take (c.args.filled + count_of (word % 16)) c.put_fields-self.new.out ≡ take c.args.filled c.args.out.now ++ docs_from c.args.self.now.least (gaps_in word)) c.word_at-word.ensures (rw c.of-selector.ensures at c.put_fields-self.ensures.docs) in
    rw (count, least) (moved_word c.args.self.now c.args.filled c.args.bytes.now c.args.out.now c.put_fields-self.new.out c.requires.zeros c.requires.some room put)

pub returns-clause-left : goal.returns-clause-left
returns-clause-left c = omega (arith, c.count-count.ensures, count_some c.of-selector.result.number c.of-selector.result.few, c.requires.some)

pub returns-clause-more : goal.returns-clause-more
returns-clause-more c = omega (arith, c.count-count.ensures, count_some c.of-selector.result.number c.of-selector.result.few)
