use Rattle.std.proofs.lemmas.Str.{is_utf8-from_IsUtf8}
use Rattle.shared_lemmas.proofs.Texts.{no_utf8}
use Rattle.trec_run.proofs.run.utf8.Goals as goal

pub returns-in-Ok : goal.returns-in-Ok
returns-in-Ok c = let e = c.in-Ok.ensures.cases in (e.0, is_utf8-from_IsUtf8 c.args.bytes.now e.1)

pub returns-in-Err : goal.returns-in-Err
returns-in-Err c = no_utf8 c.args.bytes.now c.in-Err.ensures.cases.0
