use Rattle.std.proofs.Common.{◌+◌, ◌/◌, ◌<◌, ◌^◌, length-drop, arith}
use Rattle.std.proofs.lemmas.List.{take_more_set}
use Rattle.codec_simple8.proofs.Moves.{next_word, given_word, last_word, moved_last}
use Rattle.codec_simple8.proofs.cursor.Cursor.put_last.Goals as goal

pub word_at-requires : goal.word_at-requires
word_at-requires c =
    let w = given_word c.args.self.now c.args.bytes.now c.requires.stands.0 c.requires.zeros (omega (arith, c.requires.last)) c.requires.stands.1 in
    omega (arith, w.long, length-drop c.args.self.now.at c.args.bytes.now)

pub overflow_cast-doc : goal.overflow_cast-doc
overflow_cast-doc c =
    let fits : next_word c.args.self.now c.args.bytes.now < 2 ^ 64 = omega (arith, c.word_at.ensures, c.word_at.type_inv) in
    let l = last_word c.args.self.now c.args.bytes.now c.requires.stands.0 c.requires.zeros c.requires.last fits c.requires.stands.1 in
    rw c.word_at.ensures (record { fits = omega (arith, l.low) })

pub overflow_add-doc : goal.overflow_add-doc
overflow_add-doc c =
    let fits : next_word c.args.self.now c.args.bytes.now < 2 ^ 64 = omega (arith, c.word_at.ensures, c.word_at.type_inv) in
    let l = last_word c.args.self.now c.args.bytes.now c.requires.stands.0 c.requires.zeros c.requires.last fits c.requires.stands.1 in
    rw c.word_at.ensures (record { fits = omega (arith, l.low) })

pub overflow_add-self : goal.overflow_add-self
overflow_add-self c =
    let w = given_word c.args.self.now c.args.bytes.now c.requires.stands.0 c.requires.zeros (omega (arith, c.requires.last)) c.requires.stands.1 in
    record { fits = omega (arith, w.long, length-drop c.args.self.now.at c.args.bytes.now) }

pub overflow_add-self-2 : goal.overflow_add-self-2
overflow_add-self-2 c =
    let fits : next_word c.args.self.now c.args.bytes.now < 2 ^ 64 = omega (arith, c.word_at.ensures, c.word_at.type_inv) in
    let l = last_word c.args.self.now c.args.bytes.now c.requires.stands.0 c.requires.zeros c.requires.last fits c.requires.stands.1 in
    rw c.word_at.ensures (record { fits = omega (arith, l.low) })

pub returns : goal.returns
returns c =
    let fits : next_word c.args.self.now c.args.bytes.now < 2 ^ 64 = omega (arith, c.word_at.ensures, c.word_at.type_inv) in
    let l = last_word c.args.self.now c.args.bytes.now c.requires.stands.0 c.requires.zeros c.requires.last fits c.requires.stands.1 in
    rw c.word_at.ensures (moved_last c.args.self.now c.args.bytes.now c.args.out.now _ c.requires.zeros c.requires.last l
    (take_more_set c.args.out.now 0 (c.args.self.now.least + next_word c.args.self.now c.args.bytes.now / 16) (omega (arith, c.told-out))))
