use Rattle.ciff_read.proofs.Assembling.{header_given, header_refused, piece_given, end_given, piece_refused}
use Rattle.ciff_read.proofs.Starting.{nothing_given}
use Rattle.ciff_read.proofs.WireLaws.{WireLaws}
use Rattle.ciff_read.proofs.laws.pieces_make_the_collection.Goals as goal

pub returns : goal.returns
returns c =
    let varints = c.varints_are_read.ensures in
    let fields = c.fields_are_read.ensures in
    let laws : WireLaws = record { varint_found = varints.found; varint_only = varints.only; field_found = fields.found; field_only = fields.only } in
    record {
      header = λ content h is. header_given laws content h is;
      bad_header = λ content e is. header_refused laws content e is;
      start = λ content p h reached there. nothing_given laws content p h reached there;
      piece = λ content p parts s is next. piece_given laws content p parts is s next;
      end = λ content p parts s is next last. end_given laws content p parts is s next last;
      refused = λ content p parts e is next. piece_refused laws content p parts is e next;
    }
