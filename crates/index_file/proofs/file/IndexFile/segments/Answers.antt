use Rattle.std.proofs.Common.{arith, subst}
use Rattle.index_file.specs.Private.Opened.{Stands}
use Rattle.index_file.proofs.Standing.{there, segments_count}
use Rattle.index_file.proofs.file.IndexFile.segments.Goals as goal

pub overflow_sub-result : goal.overflow_sub-result
overflow_sub-result c =
    let f = c.self.inside in
    let stands = subst (Stands f.front f.places f.terms f.groups f.payloads) c.self.view_is c.self.invariant.stands in
    let h = there f.front f.places f.terms f.groups f.payloads c.args.self.now stands c.args.t (omega (arith, c.if-t-terms.false, c.terms.ensures)) in
    rw (c.as_slice-rows.ensures) (omega (arith, h.order.heads_rise))

pub returns : goal.returns
returns c =
    let f = c.self.inside in
    let stands = subst (Stands f.front f.places f.terms f.groups f.payloads) c.self.view_is c.self.invariant.stands in
    rw (c.as_slice-rows.ensures)
    (segments_count f.front f.places f.terms f.groups f.payloads c.args.self.now stands c.args.t (omega (arith, c.if-t-terms.false, c.terms.ensures)))
