use Rattle.std.proofs.Common.{refl}
use Rattle.index_layout.specs.Bytes.{u16_in, u32_in}
use Rattle.index_layout.specs.Reading.{payload_end, read_segment, head_in}
use Rattle.jass_base.specs.Gaps.{gap_in}
use Rattle.index_layout.proofs.examples.payloads_are_judged.Goals as goal

pub returns : goal.returns
unfolding payload_end read_segment head_in u16_in u32_in gap_in
returns c = record { head = refl; read = refl; document = refl; twice = refl; missing = refl }
