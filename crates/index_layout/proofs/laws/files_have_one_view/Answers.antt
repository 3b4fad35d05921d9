use Rattle.index_layout.proofs.FileLaws.{one_view}
use Rattle.index_layout.proofs.laws.files_have_one_view.Goals as goal

pub returns : goal.returns
returns c = λ v w first second same. one_view v w (c.files_are_read.ensures.found v first) (c.files_are_read.ensures.found w second) same
