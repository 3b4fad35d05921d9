use Rattle.std.proofs.Common.{All, subst, Err, rules, inl, refl, sym, length, ◌∙◌, ◌+◌, ◌<◌, ◌≤◌, ◌≡◌, arith}
use Rattle.std.proofs.lemmas.List.Elements.{All-replicate}
use Rattle.index_layout.specs.Reading.{read_payloads}
use Rattle.index_file.specs.Pieces.{IsPiece}
use Rattle.index_check.specs.Private.Pieces.{Holds}
use Rattle.index_check.proofs.PayloadEnds.{counted_ahead, payloads_end, payloads_next, payloads_start, payloads_stop, term_ahead}
use Rattle.index_file.proofs.ContentReads.{content_same, stops_unread}
use Rattle.index_check.proofs.payloads.check_payloads.Goals as goal

pub terms-init : goal.terms-init
terms-init g c = record {
  reads = search rules;
  held = λ content is holds. holds;
  size = refl;
  ahead = λ content is holds. (c.new-ahead.ensures.nothing content, c.new-ahead.ensures.size ∙ holds.1);
  ahead_size = c.new-ahead.ensures.size;
  till = λ content x is holds read. payloads_start content c.args.docs c.args.count c.args.from c.args.payloads x read;
  marks = subst (All (λ mark. mark ≤ 0)) (sym (c.as_mut_slice-marks.ensures.value ∙ c.in-Ok.ensures.items_if_clones_equal (λ y e. e)))
      (All-replicate (λ mark. mark ≤ 0) c.args.docs 0 (omega arith));
  marked = (let same = c.as_mut_slice-marks.ensures.len in let all = c.in-Ok.ensures.len in omega (arith, same, all));
  term = c.requires.from;
  at = c.requires.payloads;
}

pub returns-in_err-place-clause-exact : goal.returns-in_err-place-clause-exact
returns-in_err-place-clause-exact g c = λ content x is holds read.
    let then = content_same (g.C.Cabinet.told c.args.files.now) (g.C.Cabinet.told c.terms.files) c.args.name.now content (sym c.terms.invariant.reads.stays) is in
    let held : Holds content c.terms.held = c.terms.invariant.held content is holds in
    let till = c.terms.invariant.till content x is holds read in
    let inside : c.terms.counter < c.args.count = omega (arith, c.terms-test.true) in
    let next = term_ahead content c.args.docs c.args.count x.terms c.args.payloads c.terms.counter c.terms.term c.terms.at till inside in
    let out : c.from_residual.result ≡ Err c.in_err-place.field-0.0 = search rules in
    rw out (stops_unread c.in_err-place.field-0.0 (read_payloads content c.args.docs x.terms c.args.payloads)
    (c.in_err-place.ensures.refused content then held (omega (arith, next.there, next.within))))

pub returns-in_err-at-clause-exact : goal.returns-in_err-at-clause-exact
returns-in_err-at-clause-exact g c = λ content x is holds read.
    let then = content_same (g.C.Cabinet.told c.args.files.now) (g.C.Cabinet.told c.terms.files) c.args.name.now content (sym c.terms.invariant.reads.stays) is in
    let held : Holds content c.terms.held = c.terms.invariant.held content is holds in
    let till = c.terms.invariant.till content x is holds read in
    let inside : c.terms.counter < c.args.count = omega (arith, c.terms-test.true) in
    let next = term_ahead content c.args.docs c.args.count x.terms c.args.payloads c.terms.counter c.terms.term c.terms.at till inside in
    let after = content_same (g.C.Cabinet.told c.terms.files) (g.C.Cabinet.told c.find_heads.new.files) c.args.name.now content (sym c.in_ok-place.ensures.reads.stays) then in
    let one : Holds content c.find_heads.new.held = c.in_ok-place.ensures.held content then held in
    let ahead : Holds content c.terms.ahead = c.terms.invariant.ahead content is holds in
    let place = c.in_ok-place.place in
    let n = c.in_ok-place.heads in
    let found = c.in_ok-place.ensures.place content then held in
    let behind = c.in_ok-place.ensures.there.0.not_behind in
    let there : place + 0 ≤ c.find_heads.new.held.window.start + length c.find_heads.new.held.window.bytes.items = omega (arith, behind) in
    let piece : IsPiece content place 0 c.from.result.now = c.from.ensures.piece content 0 one (inl there) in
    let counted = counted_ahead content c.args.docs c.args.count x.terms c.args.payloads c.terms.counter c.terms.term c.terms.at till place n next found.0 found.1 in
    let out : c.from_residual-in_err-at.result ≡ Err c.in_err-at.field-0.0 = search rules in
    rw out (payloads_stop content c.args.docs c.args.count x.terms c.args.payloads c.terms.counter c.terms.term c.terms.at till place n next found.0 found.1 c.in_err-at.field-0.0 (c.in_err-at.ensures.exact content place after ahead piece.from counted))

pub terms-preserved : goal.terms-preserved
terms-preserved g c = record {
  reads = search rules;
  held = λ content is holds.
      let then = content_same (g.C.Cabinet.told c.args.files.now) (g.C.Cabinet.told c.terms.files) c.args.name.now content (sym c.terms.invariant.reads.stays) is in
      c.in_ok-place.ensures.held content then (c.terms.invariant.held content is holds);
  size = c.find_heads.ensures.size ∙ c.terms.invariant.size;
  ahead = λ content is holds.
      let then = content_same (g.C.Cabinet.told c.args.files.now) (g.C.Cabinet.told c.terms.files) c.args.name.now content (sym c.terms.invariant.reads.stays) is in
      let after = content_same (g.C.Cabinet.told c.terms.files) (g.C.Cabinet.told c.find_heads.new.files) c.args.name.now content (sym c.in_ok-place.ensures.reads.stays) then in
      c.in_ok-at.ensures.held content after (c.terms.invariant.ahead content is holds);
  ahead_size = c.check_segments.ensures.size ∙ c.terms.invariant.ahead_size;
  till = λ content x is holds read.
      let then = content_same (g.C.Cabinet.told c.args.files.now) (g.C.Cabinet.told c.terms.files) c.args.name.now content (sym c.terms.invariant.reads.stays) is in
      let held : Holds content c.terms.held = c.terms.invariant.held content is holds in
      let till = c.terms.invariant.till content x is holds read in
      let inside : c.terms.counter < c.args.count = omega (arith, c.terms-test.true) in
      let next = term_ahead content c.args.docs c.args.count x.terms c.args.payloads c.terms.counter c.terms.term c.terms.at till inside in
      let after = content_same (g.C.Cabinet.told c.terms.files) (g.C.Cabinet.told c.find_heads.new.files) c.args.name.now content (sym c.in_ok-place.ensures.reads.stays) then in
      let one : Holds content c.find_heads.new.held = c.in_ok-place.ensures.held content then held in
      let ahead : Holds content c.terms.ahead = c.terms.invariant.ahead content is holds in
      let place = c.in_ok-place.place in
      let n = c.in_ok-place.heads in
      let found = c.in_ok-place.ensures.place content then held in
      let behind = c.in_ok-place.ensures.there.0.not_behind in
      let there : place + 0 ≤ c.find_heads.new.held.window.start + length c.find_heads.new.held.window.bytes.items = omega (arith, behind) in
      let piece : IsPiece content place 0 c.from.result.now = c.from.ensures.piece content 0 one (inl there) in
      let counted = counted_ahead content c.args.docs c.args.count x.terms c.args.payloads c.terms.counter c.terms.term c.terms.at till place n next found.0 found.1 in
      payloads_next content c.args.docs c.args.count x.terms c.args.payloads c.terms.counter c.terms.term c.terms.at till place n next found.0 found.1 c.in_ok-at.at (c.in_ok-at.ensures.exact content place after ahead piece.from counted);
  marks = c.in_ok-at.ensures.marks.1;
  marked = c.in_ok-at.ensures.marks.0;
  term = (let there = c.in_ok-place.ensures.there in let size = c.terms.invariant.size in omega (arith, there.2, size));
  at = (let within = c.in_ok-at.ensures.within in let size = c.terms.invariant.ahead_size in omega (arith, within, size));
}

pub returns-clause-exact : goal.returns-clause-exact
returns-clause-exact g c = λ content x is holds read.
    payloads_end content c.args.docs c.args.count x.terms c.args.payloads c.terms.counter c.terms.term c.terms.at (c.terms.invariant.till content x is holds read)
    (let test = c.terms-test.false in let end = c.terms.auto.counter-end in omega (arith, test, end))
