-- The rows are the segments.
use Rattle.shared_lemmas.proofs.Common.{ap, map, ◌∙◌}
use Rattle.index_import.proofs.Below.{segment_data}
use Rattle.index_import.proofs.Rows.{rows_docs, rows_once}
use Rattle.index_import.proofs.writing.append_segments.Goals as goal

pub term-requires-clause-docs : goal.term-requires-clause-docs
term-requires-clause-docs g c =
    rows_docs c.args.writer.docs c.as_slice.result.now c.args.segments.now (ap (map segment_data) c.as_slice.ensures ∙ c.in-Ok.ensures) c.requires.docs

pub term-requires-clause-once : goal.term-requires-clause-once
term-requires-clause-once g c = rows_once c.as_slice.result.now c.args.segments.now (ap (map segment_data) c.as_slice.ensures ∙ c.in-Ok.ensures) c.requires.once
