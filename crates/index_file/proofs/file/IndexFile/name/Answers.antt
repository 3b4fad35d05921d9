use Rattle.std.proofs.Common.{subst, sym, ◌<◌, length}
use Rattle.index_layout.specs.View.{FileView}
use Rattle.index_file.specs.Private.Opened.{view_of}
use Rattle.index_layout.specs.Reading.{name_in}
use Rattle.index_file.proofs.Standing.{name_there, name_text}
use Rattle.index_file.proofs.file.IndexFile.name.Goals as goal

pub from_utf8_unchecked-requires : goal.from_utf8_unchecked-requires
unfolding name_in
from_utf8_unchecked-requires c =
    let f = c.self.inside in
    let below = subst (λ (v : FileView). c.args.doc < length v.index.names) (sym c.self.view_is) c.requires in
    rw (c.u32_at-size.ensures, c.as_slice-front.ensures, c.as_slice.ensures) (name_text f.front f.places f.terms f.groups f.payloads (view_of f.front f.places f.terms f.groups f.payloads) c.self.invariant.stands c.args.doc below)

pub returns : goal.returns
unfolding name_in
returns c =
    let f = c.self.inside in
    let below = subst (λ (v : FileView). c.args.doc < length v.index.names) (sym c.self.view_is) c.requires in
    rw (c.from_utf8_unchecked.ensures, c.u32_at-size.ensures, c.as_slice-front.ensures, c.as_slice.ensures, ← c.self.view_is) (name_there f.front f.places f.terms f.groups f.payloads (view_of f.front f.places f.terms f.groups f.payloads) c.self.invariant.stands c.args.doc below)
