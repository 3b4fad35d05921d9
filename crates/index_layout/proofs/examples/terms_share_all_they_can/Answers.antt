use Rattle.std.proofs.Common.{refl}
use Rattle.index_layout.specs.Bytes.{u16_in, u32_in}
use Rattle.index_layout.specs.Reading.{term_end, term_checks, term_in}
use Rattle.index_layout.proofs.examples.terms_share_all_they_can.Goals as goal

pub returns : goal.returns
unfolding term_end term_checks term_in u16_in u32_in
returns c = refl
