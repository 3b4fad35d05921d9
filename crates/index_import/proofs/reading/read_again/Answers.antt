-- The list is the one there, and has as many postings as before.
use Rattle.whole_files.proofs.Told.{for_one}
use Rattle.index_import.proofs.Ready.{list_there_is, one_count}
use Rattle.index_import.proofs.reading.read_again.Goals as goal

pub returns-in-Ok-clause-count : goal.returns-in-Ok-clause-count
returns-in-Ok-clause-count g c =
    one_count _ _ _ _ c.requires.ready.ranges.rising (c.in-Ok.ensures.counted) c.requires.given

pub returns-in-Ok-clause-told : goal.returns-in-Ok-clause-told
returns-in-Ok-clause-told g c =
    for_one _ _ _ _ (λ content found. list_there_is _ _ _ _ (found c.requires.ready.unanswered)) (c.in-Ok.ensures.told)
