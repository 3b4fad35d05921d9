use Rattle.std.proofs.Common.{◌≡◌, ◌+◌, ap, sym, subst, ◌∙◌, arith}
use Rattle.index_file.proofs.Below.{HeadData}
use Rattle.index_file.specs.Private.Opened.{Stands}
use Rattle.index_file.specs.Private.Tables.{head_at, row_at}
use Rattle.index_file.specs.Parts.{told}
use Rattle.index_file.proofs.Standing.{codec_there, group_inside, head_within, place_small, place_told, read_tells, segment_place}
use Rattle.index_file.proofs.file.IndexFile.segment.Goals as goal

pub bounds-as_slice-row : goal.bounds-as_slice-row
bounds-as_slice-row c =
    let f = c.self.inside in
    let v = c.args.self.now in
    let stands = subst (Stands f.front f.places f.terms f.groups f.payloads) c.self.view_is c.self.invariant.stands in
    rw (c.as_slice.ensures, c.as_slice-2.ensures) (group_inside f.front f.places f.terms f.groups f.payloads v stands c.args.t c.args.s c.requires.t c.requires.s)

pub place_behind-place-requires-clause-there : goal.place_behind-place-requires-clause-there
place_behind-place-requires-clause-there c =
    let f = c.self.inside in
    let v = c.args.self.now in
    let stands = subst (Stands f.front f.places f.terms f.groups f.payloads) c.self.view_is c.self.invariant.stands in
    rw (c.as_slice.ensures) (omega (arith, head_within f.front f.places f.terms f.groups f.payloads v stands c.args.t c.args.s c.requires.t c.requires.s))

pub at-requires : goal.at-requires
at-requires c =
    let f = c.self.inside in
    let v = c.args.self.now in
    let stands = subst (Stands f.front f.places f.terms f.groups f.payloads) c.self.view_is c.self.invariant.stands in
    rw (c.as_slice.ensures) (head_within f.front f.places f.terms f.groups f.payloads v stands c.args.t c.args.s c.requires.t c.requires.s)

pub overflow_cast-result : goal.overflow_cast-result
overflow_cast-result c =
    let f = c.self.inside in
    let v = c.args.self.now in
    let stands = subst (Stands f.front f.places f.terms f.groups f.payloads) c.self.view_is c.self.invariant.stands in
    let place : c.place_behind-place.result ≡ segment_place f.front f.places f.terms f.groups f.payloads v stands c.args.t c.args.s c.requires.t c.requires.s
    = c.place_behind-place.ensures
    ∙ rw (c.as_slice.ensures, c.as_slice-2.ensures) (place_told f.front f.places f.terms f.groups f.payloads v stands c.args.t c.args.s c.requires.t c.requires.s) in
    let small = place_small f.front f.places f.terms f.groups f.payloads v stands c.args.t c.args.s c.requires.t c.requires.s c.payloads_have_few_bytes.ensures.some in
    omega (arith, place, small)

pub returns : goal.returns
returns c =
    let f = c.self.inside in
    let v = c.args.self.now in
    let stands = subst (Stands f.front f.places f.terms f.groups f.payloads) c.self.view_is c.self.invariant.stands in
    let place : c.place_behind-place.result ≡ segment_place f.front f.places f.terms f.groups f.payloads v stands c.args.t c.args.s c.requires.t c.requires.s
    = c.place_behind-place.ensures
    ∙ rw (c.as_slice.ensures, c.as_slice-2.ensures) (place_told f.front f.places f.terms f.groups f.payloads v stands c.args.t c.args.s c.requires.t c.requires.s) in
    let read : told c.at.result ≡ head_at f.terms.heads ((row_at f.terms.rows c.args.t).head + c.args.s)
    = rw (sym c.as_slice.ensures) c.at.ensures in
    let tells = read_tells f.front f.places f.terms f.groups f.payloads v stands c.args.t c.args.s c.requires.t c.requires.s c.at.result c.place_behind-place.result read place in
    record {
      impact = tells.impact;
      count = tells.count;
      codec = ap (λ (h : HeadData). h.codec) read ∙ codec_there f.front f.places f.terms f.groups f.payloads v stands c.args.t c.args.s c.requires.t c.requires.s;
      within = tells.within;
      docs = tells.docs;
      payload = tells.spelled;
    }
