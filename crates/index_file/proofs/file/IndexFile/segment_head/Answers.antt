use Rattle.std.proofs.Common.{◌≡◌, ◌+◌, ap, refl, sym, subst, ◌∙◌}
use Rattle.index_file.proofs.Below.{HeadData}
use Rattle.index_file.specs.Private.Opened.{Stands}
use Rattle.index_file.specs.Private.Tables.{head_at, row_at}
use Rattle.index_file.specs.Parts.{told}
use Rattle.index_file.proofs.Standing.{codec_there, head_within, read_tells}
use Rattle.index_file.proofs.file.IndexFile.segment_head.Goals as goal

pub at-requires : goal.at-requires
at-requires c =
    let f = c.self.inside in
    let stands = subst (Stands f.front f.places f.terms f.groups f.payloads) c.self.view_is c.self.invariant.stands in
    rw (c.as_slice.ensures) (head_within f.front f.places f.terms f.groups f.payloads c.args.self.now stands c.args.t c.args.s c.requires.t c.requires.s)

pub returns : goal.returns
returns c =
    let f = c.self.inside in
    let v = c.args.self.now in
    let stands = subst (Stands f.front f.places f.terms f.groups f.payloads) c.self.view_is c.self.invariant.stands in
    let read : told c.at.result ≡ head_at f.terms.heads ((row_at f.terms.rows c.args.t).head + c.args.s)
    = rw (sym c.as_slice.ensures) c.at.ensures in
    let tells = read_tells f.front f.places f.terms f.groups f.payloads v stands c.args.t c.args.s c.requires.t c.requires.s c.at.result _ read refl in
    record {
      impact = tells.impact;
      count = tells.count;
      codec = ap (λ (h : HeadData). h.codec) read ∙ codec_there f.front f.places f.terms f.groups f.payloads v stands c.args.t c.args.s c.requires.t c.requires.s;
    }
