use Rattle.std.proofs.lemmas.Str.{is_utf8-from_IsUtf8}
use Rattle.jass_base.proofs.text.Text.as_str.Goals as goal

pub returns-clause-utf8 : goal.returns-clause-utf8
returns-clause-utf8 c = is_utf8-from_IsUtf8 c.as_str.result.now c.as_str.utf8
