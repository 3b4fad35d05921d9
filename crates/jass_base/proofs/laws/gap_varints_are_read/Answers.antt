use Rattle.jass_base.proofs.GapSpelling.{gap_found, gap_spells, gap_is_read}
use Rattle.jass_base.proofs.laws.gap_varints_are_read.Goals as goal

pub returns : goal.returns
returns c = record {
  found = gap_found;
  only = gap_spells;
  limit = λ bytes read is. (gap_is_read bytes read is).limit;
  size = λ bytes read is. let read_is = gap_is_read bytes read is in (read_is.some, read_is.most, read_is.inside);
}
