use Rattle.ciff_read.specs.Reading.{header_at}
use Rattle.ciff_read.proofs.Near.{header_near, list_near, doc_near, near_place}
use Rattle.ciff_read.proofs.WireLaws.{WireLaws}
use Rattle.ciff_read.proofs.laws.refusals_are_near.Goals as goal

pub returns : goal.returns
returns c =
    let varints = c.varints_are_read.ensures in
    let fields = c.fields_are_read.ensures in
    let laws : WireLaws = record { varint_found = varints.found; varint_only = varints.only; field_found = fields.found; field_only = fields.only } in
    record {
      header = λ at n m e first last is. near_place n (header_at at m) e (header_near n laws at m first last) is;
      list = λ at n m e first last docs before terms is. near_place n _ e (list_near n laws at m first last _ _ _) is;
      doc = λ at n m e first last docs numbers is. near_place n _ e (doc_near n laws at m first last _ _) is;
    }
