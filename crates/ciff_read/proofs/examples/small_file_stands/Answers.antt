use Rattle.std.proofs.Common.{◌≡◌, Ok, refl}
use Rattle.std.specs.Str.{is_utf8, chars}
use lib.Utf8.{encode}
use Rattle.jass_base.specs.Wire.{short_varint}
use Rattle.jass_base.specs.CiffText.{canonical_ciff}
use Rattle.wire_fields.specs.Reading.{varint_at, field_at}
use Rattle.ciff_read.specs.Examples.{small_file, small_collection}
use Rattle.ciff_read.specs.Reading.{message_at, header_at, list_at, doc_at, lists_at, docs_at, read_ciff}
use Rattle.ciff_read.specs.Walking.{walk_within}
use Rattle.ciff_read.proofs.examples.small_file_stands.Goals as goal

read : read_ciff small_file ≡ Ok small_collection
unfolding is_utf8 chars encode varint_at field_at message_at header_at list_at doc_at lists_at docs_at read_ciff walk_within
read = refl

spelled : canonical_ciff small_collection ≡ small_file
unfolding canonical_ciff short_varint
spelled = refl

pub returns : goal.returns
returns c = record { stands = c.files_are_read.ensures.found small_file small_collection read; canonical = spelled }
