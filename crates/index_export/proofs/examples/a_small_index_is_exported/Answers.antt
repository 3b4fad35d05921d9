use Rattle.std.proofs.Common.{refl}
use Rattle.jass_base.specs.CiffText.{canonical_ciff}
use Rattle.jass_base.specs.Wire.{short_varint}
use Rattle.index_export.specs.Exports.{export_of}
use Rattle.index_export.proofs.examples.a_small_index_is_exported.Goals as goal

pub returns : goal.returns
unfolding canonical_ciff short_varint export_of
returns c = refl
