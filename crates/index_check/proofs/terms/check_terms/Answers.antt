use Rattle.std.proofs.Common.{Err, rules, refl, sym, ◌∙◌, ◌<◌, ◌≡◌, arith}
use Rattle.index_file.proofs.ContentReads.{content_same}
use Rattle.index_check.proofs.TermEnds.{heads_stop, term_stops, till_end, till_next, till_start}
use Rattle.index_check.specs.Private.Pieces.{Holds}
use Rattle.index_check.proofs.terms.check_terms.Goals as goal

pub terms-init : goal.terms-init
terms-init g c = record {
  reads = search rules;
  held = λ content is holds. holds;
  size = refl;
  till = λ content is holds. till_start content c.args.docs c.args.count c.args.from c.new-term.result;
  small = omega arith;
  none = λ no. (refl, refl);
  at = c.requires.from;
}

pub returns-in_err-place-clause-exact : goal.returns-in_err-place-clause-exact
returns-in_err-place-clause-exact g c = λ content is holds.
    let content_told = c.terms.invariant.reads.stays in
    let then = content_same (g.C.Cabinet.told c.args.files.now) (g.C.Cabinet.told c.terms.files) c.args.name.now content (sym content_told) is in
    let held : Holds content c.terms.held = c.terms.invariant.held content is holds in
    let till = c.terms.invariant.till content is holds in
    let inside : c.terms.i < c.args.count = omega (arith, c.terms-test.true) in
    let out : c.from_residual.result ≡ Err c.in_err-place.field-0.0 = search rules in
    rw out (term_stops content c.args.docs c.args.count c.args.from c.terms.i c.terms.term c.terms.sums c.terms.at till c.in_err-place.field-0.0 inside (c.in_err-place.ensures.exact content then held))

pub returns-in_err-at-clause-exact : goal.returns-in_err-at-clause-exact
returns-in_err-at-clause-exact g c = λ content is holds.
    let content_told = c.terms.invariant.reads.stays in
    let then = content_same (g.C.Cabinet.told c.args.files.now) (g.C.Cabinet.told c.terms.files) c.args.name.now content (sym content_told) is in
    let held : Holds content c.terms.held = c.terms.invariant.held content is holds in
    let till = c.terms.invariant.till content is holds in
    let inside : c.terms.i < c.args.count = omega (arith, c.terms-test.true) in
    let after = content_same (g.C.Cabinet.told c.terms.files) (g.C.Cabinet.told c.next_term.new.files) c.args.name.now content (sym c.in_ok-place.ensures.reads.stays) then in
    let one : Holds content c.next_term.new.held = c.in_ok-place.ensures.held content then held in
    let end = c.in_ok-place.ensures.exact content then held in
    let count = c.in_ok-place.ensures.heads content then held in
    let out : c.from_residual-in_err-at.result ≡ Err c.in_err-at.field-0.0 = search rules in
    rw out (heads_stop content c.args.docs c.args.count c.args.from c.terms.i c.terms.term c.terms.sums c.terms.at till c.in_err-at.field-0.0 c.in_ok-place.place c.in_ok-place.heads inside end count (c.in_err-at.ensures.exact content after one))

pub terms-preserved : goal.terms-preserved
terms-preserved g c = record {
  reads = search rules;
  held = λ content is holds.
      let content_told = c.terms.invariant.reads.stays in
      let then = content_same (g.C.Cabinet.told c.args.files.now) (g.C.Cabinet.told c.terms.files) c.args.name.now content (sym content_told) is in
      let held : Holds content c.terms.held = c.terms.invariant.held content is holds in
      let till = c.terms.invariant.till content is holds in
      let inside : c.terms.i < c.args.count = omega (arith, c.terms-test.true) in
      let after = content_same (g.C.Cabinet.told c.terms.files) (g.C.Cabinet.told c.next_term.new.files) c.args.name.now content (sym c.in_ok-place.ensures.reads.stays) then in
      let one : Holds content c.next_term.new.held = c.in_ok-place.ensures.held content then held in
      let end = c.in_ok-place.ensures.exact content then held in
      let count = c.in_ok-place.ensures.heads content then held in
      c.in_ok-at.ensures.held content after one;
  size = c.next_heads.ensures.size ∙ c.next_term.ensures.size ∙ c.terms.invariant.size;
  till = λ content is holds.
      let content_told = c.terms.invariant.reads.stays in
      let then = content_same (g.C.Cabinet.told c.args.files.now) (g.C.Cabinet.told c.terms.files) c.args.name.now content (sym content_told) is in
      let held : Holds content c.terms.held = c.terms.invariant.held content is holds in
      let till = c.terms.invariant.till content is holds in
      let inside : c.terms.i < c.args.count = omega (arith, c.terms-test.true) in
      let after = content_same (g.C.Cabinet.told c.terms.files) (g.C.Cabinet.told c.next_term.new.files) c.args.name.now content (sym c.in_ok-place.ensures.reads.stays) then in
      let one : Holds content c.next_term.new.held = c.in_ok-place.ensures.held content then held in
      let end = c.in_ok-place.ensures.exact content then held in
      let count = c.in_ok-place.ensures.heads content then held in
      till_next content c.args.docs c.args.count c.args.from c.terms.i c.terms.term c.terms.sums c.terms.at till c.in_ok-place.place c.in_ok-place.heads c.in_ok-at.at c.next_term.new.term c.next_heads.new.sums inside end count (c.in_ok-at.ensures.exact content after one) (c.in_ok-place.ensures.term content then held);
  small = c.in_ok-at.ensures.small;
  none = λ no. absurd (omega (arith, no));
  at = (let a = c.in_ok-at.ensures.within in let b = c.next_term.ensures.size in let d = c.terms.invariant.size in omega (arith, a, b, d));
}

pub returns-clause-exact : goal.returns-clause-exact
returns-clause-exact g c = λ content is holds.
    till_end content c.args.docs c.args.count c.args.from c.terms.i c.terms.term c.terms.sums c.terms.at (c.terms.invariant.till content is holds) (let test = c.terms-test.false in let end = c.terms.auto.i-end in omega (arith, test, end))
