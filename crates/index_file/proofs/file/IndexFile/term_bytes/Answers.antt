use Rattle.std.proofs.Common.{subst, sym}
use Rattle.index_file.specs.Private.Opened.{Stands}
use Rattle.index_file.specs.Private.Tables.{part_of}
use Rattle.index_file.proofs.Standing.{there, term_text}
use Rattle.index_file.proofs.file.IndexFile.term_bytes.Goals as goal

pub part-requires : goal.part-requires
part-requires c =
    let f = c.self.inside in
    let stands = subst (Stands f.front f.places f.terms f.groups f.payloads) c.self.view_is c.self.invariant.stands in
    let h = there f.front f.places f.terms f.groups f.payloads c.args.self.now stands c.args.t c.requires in
    rw (c.as_slice-rows.ensures, c.as_slice.ensures) (h.order.text_rises, h.order.text_within)

pub returns : goal.returns
unfolding part_of
returns c =
    let f = c.self.inside in
    let stands = subst (Stands f.front f.places f.terms f.groups f.payloads) c.self.view_is c.self.invariant.stands in
    let h = there f.front f.places f.terms f.groups f.payloads c.args.self.now stands c.args.t c.requires in
    record {
      term = rw (c.part.ensures, c.as_slice-rows.ensures, c.as_slice.ensures) (sym h.term);
      text = rw (c.part.ensures, c.as_slice-rows.ensures, c.as_slice.ensures, sym h.term) (term_text c.args.self.now stands.view c.args.t c.requires);
    }
