use Rattle.shared_lemmas.proofs.Common.{string_bytes, is_utf8-from_IsUtf8, IsUtf8-string_bytes}
use Rattle.jass_base.proofs.text.Text.from_str.Goals as goal

pub returns-in-Ok-clause-utf8 : goal.returns-in-Ok-clause-utf8
returns-in-Ok-clause-utf8 c = is_utf8-from_IsUtf8 (string_bytes c.in-Ok.inner) (IsUtf8-string_bytes c.in-Ok.inner)
