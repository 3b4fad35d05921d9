use Rattle.std.proofs.Common.{true, false, Ok, refl, sym, ap, ◌∙◌, arith, Err, rules, ◌≡◌}
use Rattle.codec_simple8.specs.Simple8.{read_words}
use Rattle.codec_simple8.proofs.Reading.{words_read, words_are}
use Rattle.codec_simple8.proofs.Judged.{judged_ok, judged_err, read_is}
use Rattle.codec_simple8.proofs.handing.hand_out.Goals as goal

pub returns-in_err-hand_out_words-clause-judged : goal.returns-in_err-hand_out_words-clause-judged
returns-in_err-hand_out_words-clause-judged c =
    let is : c.from_residual.result ≡ Err c.in_err-hand_out_words.field-0.0 = search rules in
    rw is (judged_err c.args.d c.args.count c.args.bytes.now c.in_err-hand_out_words.field-0.0 c.in_err-hand_out_words.ensures.judged)

pub is_spelling-requires : goal.is_spelling-requires
is_spelling-requires c =
    let r = judged_ok (read_words c.args.count c.args.d 0 c.args.count c.args.bytes.now) c.in_ok-hand_out_words.ensures.judged in
    words_are c.args.d c.args.count c.args.bytes.now r.0 c.requires.count.limit (words_read c.args.count c.args.d 0 c.args.count c.args.bytes.now r.0 (omega arith) r.1)

pub returns-then-is_spelling-clause-judged : goal.returns-then-is_spelling-clause-judged
returns-then-is_spelling-clause-judged c =
    let r = judged_ok (read_words c.args.count c.args.d 0 c.args.count c.args.bytes.now) c.in_ok-hand_out_words.ensures.judged in
    let is = read_is c.args.d c.args.count c.args.bytes.now r.0 true r.1 (sym c.is_spelling.ensures ∙ c.if-is_spelling.true) in
    rw is refl

pub returns-then-is_spelling-clause-docs : goal.returns-then-is_spelling-clause-docs
returns-then-is_spelling-clause-docs c =
    let r = judged_ok (read_words c.args.count c.args.d 0 c.args.count c.args.bytes.now) c.in_ok-hand_out_words.ensures.judged in
    let is = read_is c.args.d c.args.count c.args.bytes.now r.0 true r.1 (sym c.is_spelling.ensures ∙ c.if-is_spelling.true) in
    is ∙ ap (λ docs. Ok docs) (sym (c.in_ok-hand_out_words.ensures.docs r.0 r.1))

pub returns-else-is_spelling-clause-judged : goal.returns-else-is_spelling-clause-judged
returns-else-is_spelling-clause-judged c =
    let r = judged_ok (read_words c.args.count c.args.d 0 c.args.count c.args.bytes.now) c.in_ok-hand_out_words.ensures.judged in
    let is = read_is c.args.d c.args.count c.args.bytes.now r.0 false r.1 (sym c.is_spelling.ensures ∙ c.if-is_spelling.false) in
    rw is refl
