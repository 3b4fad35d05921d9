use Rattle.std.proofs.Common.{refl}
use Rattle.index_layout.specs.Bytes.{u32_in, u64_in}
use Rattle.index_layout.specs.Reading.{read_index, read_front, front_checks, end_checks}
use Rattle.index_layout.proofs.examples.fronts_are_judged.Goals as goal

pub returns : goal.returns
unfolding read_index read_front front_checks end_checks u32_in u64_in
returns c = record { empty = refl; cut = refl; magic = refl; old = refl }
