use Rattle.index_write.proofs.Changes.{no_change, unchanged}
use Rattle.index_write.proofs.laws.changes_are_found.Goals as goal

pub returns : goal.returns
returns c = record { none = no_change c.codecs_have_their_numbers.ensures.found; same = unchanged }
