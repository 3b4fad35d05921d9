use Rattle.std.proofs.Common.{refl}
use Rattle.jass_base.specs.Wire.{short_varint}
use Rattle.index_layout.specs.Layout.{front_bytes, totals_bytes, name_bytes, head_bytes, term_bytes}
use Rattle.index_layout.specs.View.{file_bytes, index_text, view_heads, view_payloads}
use Rattle.index_layout.proofs.examples.small_files_are_spelled.Goals as goal

pub returns-clause-small : goal.returns-clause-small
unfolding file_bytes view_heads view_payloads front_bytes totals_bytes name_bytes head_bytes term_bytes short_varint
returns-clause-small c = refl

pub returns-clause-empty : goal.returns-clause-empty
unfolding index_text file_bytes view_heads view_payloads front_bytes totals_bytes
returns-clause-empty c = refl
