use Rattle.shared_lemmas.proofs.Common.{sym, is_utf8-from_IsUtf8}
use Rattle.shared_lemmas.proofs.Texts.{no_utf8}
use Rattle.index_file.proofs.name.is_text.Goals as goal

pub returns-in-Ok : goal.returns-in-Ok
returns-in-Ok c = sym (is_utf8-from_IsUtf8 c.args.bytes.now c.in-Ok.ensures.cases.1)

pub returns-in-Err : goal.returns-in-Err
returns-in-Err c = sym (no_utf8 c.args.bytes.now c.in-Err.ensures.cases.0)
