use Rattle.std.proofs.Common.{◌∙◌, ap, sym}
use Rattle.index_layout.specs.Examples.{small_view}
use Rattle.index_layout.specs.Reading.{read_index}
use Rattle.index_layout.proofs.SmallFile.{is_view}
use Rattle.index_layout.proofs.examples.the_small_file_is_read.Goals as goal

pub returns-clause-view : goal.returns-clause-view
returns-clause-view c = is_view c.small_files_are_spelled.ensures.small

pub returns-clause-read : goal.returns-clause-read
returns-clause-read c = let spelled = c.small_files_are_spelled.ensures.small in ap read_index (sym spelled) ∙ c.files_are_read.ensures.found small_view (is_view spelled)
