use Rattle.std.proofs.Common.{◌∙◌, sym}
use Rattle.ciff_read.proofs.FileLaws.{file_found, file_read}
use Rattle.ciff_read.proofs.WireLaws.{WireLaws, done_is}
use Rattle.ciff_read.proofs.laws.files_are_read.Goals as goal

pub returns : goal.returns
returns c =
    let varints = c.varints_are_read.ensures in
    let fields = c.fields_are_read.ensures in
    let laws : WireLaws = record { varint_found = varints.found; varint_only = varints.only; field_found = fields.found; field_only = fields.only } in
    record {
      found = λ bytes x is. file_found laws bytes x is;
      only = λ bytes x is. file_read laws bytes x is;
      one = λ bytes x y is other. done_is x y (sym (file_read laws bytes x is) ∙ file_read laws bytes y other);
    }
