use Rattle.std.proofs.Common.{true, false, refl, sym, ◌∙◌, arith, Err, rules, ◌≡◌}
use Rattle.codec_simple8.specs.Simple8.{read_words}
use Rattle.codec_simple8.proofs.Judged.{judged_ok, judged_err, read_is}
use Rattle.codec_simple8.proofs.Reading.{words_read, words_are}
use Rattle.codec_simple8.proofs.checking.judge.Goals as goal

pub returns-in_err-walk : goal.returns-in_err-walk
returns-in_err-walk c =
    let is : c.from_residual.result ≡ Err c.in_err-walk.field-0.0 = search rules in
    rw is (judged_err c.args.d c.args.count c.args.bytes.now c.in_err-walk.field-0.0 c.in_err-walk.ensures)

pub is_spelling-requires : goal.is_spelling-requires
is_spelling-requires c =
    let r = judged_ok (read_words c.args.count c.args.d 0 c.args.count c.args.bytes.now) c.in_ok-walk.ensures in
    words_are c.args.d c.args.count c.args.bytes.now r.0 c.requires.limit (words_read c.args.count c.args.d 0 c.args.count c.args.bytes.now r.0 (omega arith) r.1)

pub returns-then-is_spelling : goal.returns-then-is_spelling
returns-then-is_spelling c =
    let r = judged_ok (read_words c.args.count c.args.d 0 c.args.count c.args.bytes.now) c.in_ok-walk.ensures in
    let is = read_is c.args.d c.args.count c.args.bytes.now r.0 true r.1 (sym c.is_spelling.ensures ∙ c.if-is_spelling.true) in
    rw is refl

pub returns-else-is_spelling : goal.returns-else-is_spelling
returns-else-is_spelling c =
    let r = judged_ok (read_words c.args.count c.args.d 0 c.args.count c.args.bytes.now) c.in_ok-walk.ensures in
    let is = read_is c.args.d c.args.count c.args.bytes.now r.0 false r.1 (sym c.is_spelling.ensures ∙ c.if-is_spelling.false) in
    rw is refl
