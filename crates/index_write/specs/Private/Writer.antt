-- What holds of a writer.
use Rattle.std.specs.Prelude.{◌≤◌, length}
use Rattle.jass_base.specs.declared.limits.TheConstants.{MOST_DOCUMENTS}
use Rattle.index_write.specs.Streaming.{AreEntries, WriterView}

-- at most so many documents, terms with heads that a file may have, and at most all of these left
pub record IsWriter (writer : WriterView) : Type 0 where
  pub docs : writer.docs ≤ MOST_DOCUMENTS
  pub entries : AreEntries writer.entries
  pub left : writer.left ≤ length writer.entries
