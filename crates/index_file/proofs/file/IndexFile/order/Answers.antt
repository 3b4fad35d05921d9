use Rattle.std.proofs.Common.{◌<◌, ◌/◌, sym, subst, slice_index}
use Rattle.index_file.specs.Private.Opened.{IsOpened}
use Rattle.index_file.specs.Private.Samples.{first_eight}
use Rattle.index_file.proofs.Sampling.{sample_lower, sample_higher}
use Rattle.index_file.proofs.file.IndexFile.order.Goals as goal

pub returns-then-sample-first : goal.returns-then-sample-first
returns-then-sample-first c =
    let f = c.self.inside in
    let opened = subst (IsOpened f.front f.places f.terms f.groups f.payloads f.samples) c.self.view_is c.self.invariant in
    let sample : slice_index f.samples (c.args.t / 64) < first_eight c.args.text.now = rw (sym c.as_slice.ensures, sym c.requires.first) c.if-sample-first.true in
    sym (sample_lower f.front f.places f.terms f.groups f.payloads f.samples c.args.self.now opened c.args.t
    c.requires.t c.if-t-eq0.true c.args.text.now c.requires.bytes sample)

pub returns-then-sample-first-2 : goal.returns-then-sample-first-2
returns-then-sample-first-2 c =
    let f = c.self.inside in
    let opened = subst (IsOpened f.front f.places f.terms f.groups f.payloads f.samples) c.self.view_is c.self.invariant in
    let sample : first_eight c.args.text.now < slice_index f.samples (c.args.t / 64) = rw (sym c.as_slice.ensures, sym c.requires.first) c.if-sample-first-2.true in
    sym (sample_higher f.front f.places f.terms f.groups f.payloads f.samples c.args.self.now opened c.args.t
    c.requires.t c.if-t-eq0.true c.args.text.now c.requires.bytes sample)
