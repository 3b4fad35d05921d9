use Rattle.std.proofs.Common.{ℕ, List, ◌/◌, ◌∙◌, subst, sym}
use Rattle.ciff_write.proofs.Varints.{Spelled, spelled_none, spelled_more, spelled_all}
use Rattle.ciff_write.proofs.spelling.push_varint.Goals as goal

pub groups-init : goal.groups-init
groups-init c = spelled_none c.args.buffer.now c.args.value c.ranges.value.fits

pub groups-preserved : goal.groups-preserved
groups-preserved c =
    subst (λ (now : List ℕ). Spelled c.args.buffer.now now c.args.value (c.groups.left / 128)) (sym c.push_byte.ensures)
    (spelled_more c.args.buffer.now c.groups.buffer c.args.value c.groups.left c.groups-test.true c.groups.invariant)

pub returns-clause-bytes : goal.returns-clause-bytes
returns-clause-bytes c = c.push_byte-2.ensures ∙ spelled_all c.args.buffer.now c.groups.buffer c.args.value c.groups.left c.groups-test.false c.groups.invariant
