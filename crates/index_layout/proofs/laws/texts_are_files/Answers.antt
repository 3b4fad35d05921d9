use Rattle.index_layout.proofs.FileLaws.{text_is}
use Rattle.index_layout.proofs.laws.texts_are_files.Goals as goal

pub returns : goal.returns
returns c = text_is
