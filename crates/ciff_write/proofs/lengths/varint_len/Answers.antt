use Rattle.ciff_write.proofs.Varints.{counted_none, counted_more, counted_all}
use Rattle.ciff_write.proofs.lengths.varint_len.Goals as goal

pub groups-init : goal.groups-init
groups-init c = counted_none c.args.value c.ranges.value.fits

pub groups-preserved : goal.groups-preserved
groups-preserved c = counted_more c.groups.len c.args.value c.groups.left c.groups-test.true c.groups.invariant

pub returns-clause-len : goal.returns-clause-len
returns-clause-len c = counted_all c.groups.len c.args.value c.groups.left c.groups-test.false c.groups.invariant
