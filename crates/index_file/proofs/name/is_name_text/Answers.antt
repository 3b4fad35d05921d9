use Rattle.std.proofs.Common.{sym, ◌∙◌}
use Rattle.index_file.proofs.PlainTexts.{plain_name}
use Rattle.index_file.proofs.name.is_name_text.Goals as goal

pub returns-then-is_plain : goal.returns-then-is_plain
returns-then-is_plain c = c.if-is_plain.true ∙ sym (plain_name c.args.bytes.now (c.is_plain.ensures c.if-is_plain.true))
