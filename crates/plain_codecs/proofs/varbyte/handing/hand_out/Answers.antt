use Rattle.std.proofs.Common.{◌≡◌, refl, arith, Err, rules}
use Rattle.plain_codecs.proofs.Handing.{one_handed, none_there, one_above, more_there, all_handed}
use Rattle.plain_codecs.proofs.varbyte.handing.hand_out.Goals as goal

pub docs-preserved : goal.docs-preserved
docs-preserved c =
    one_handed c.args.d c.args.count c.args.bytes.now c.args.out.now c.docs.out c.docs.at c.docs.least c.docs.i c.docs.invariant c.docs-test.true
    c.in_ok-gap.gap c.in_ok-gap.next c.requires.room c.in_ok-gap.ensures.value c.in_ok-gap.ensures.behind c.in_ok-gap.ensures.within (omega (arith, c.if-doc-d.false))

pub returns-in_err-gap-clause-judged : goal.returns-in_err-gap-clause-judged
returns-in_err-gap-clause-judged c =
    let is = none_there c.args.d c.args.count c.args.bytes.now c.args.out.now c.docs.out c.docs.at c.docs.least c.docs.i c.docs.invariant c.docs-test.true c.in_err-gap.field-0.0 c.in_err-gap.ensures.fault in
    let out : c.from_residual.result ≡ Err c.in_err-gap.field-0.0 = search rules in
    rw (is, out) refl

pub returns-then-doc-d-clause-judged : goal.returns-then-doc-d-clause-judged
returns-then-doc-d-clause-judged c =
    let is = one_above c.args.d c.args.count c.args.bytes.now c.args.out.now c.docs.out c.docs.at c.docs.least c.docs.i c.docs.invariant c.docs-test.true
    c.in_ok-gap.gap c.in_ok-gap.next c.in_ok-gap.ensures.value c.if-doc-d.true in
    rw is refl

pub returns-then-at-bytes-clause-judged : goal.returns-then-at-bytes-clause-judged
returns-then-at-bytes-clause-judged c =
    let done : c.docs.i ≡ c.args.count = omega (arith, c.docs-test.false, c.docs.auto.i-end) in
    let is = more_there c.args.d c.args.count c.args.bytes.now c.args.out.now c.docs.out c.docs.at c.docs.least c.docs.i c.docs.invariant done c.if-at-bytes.true in
    rw is refl

pub returns-clause-judged : goal.returns-clause-judged
returns-clause-judged c =
    let done : c.docs.i ≡ c.args.count = omega (arith, c.docs-test.false, c.docs.auto.i-end) in
    let is = all_handed c.args.d c.args.count c.args.bytes.now c.args.out.now c.docs.out c.docs.at c.docs.least c.docs.i c.docs.invariant done c.if-at-bytes.false in
    rw is refl

pub returns-clause-docs : goal.returns-clause-docs
returns-clause-docs c =
    let done : c.docs.i ≡ c.args.count = omega (arith, c.docs-test.false, c.docs.auto.i-end) in
    all_handed c.args.d c.args.count c.args.bytes.now c.args.out.now c.docs.out c.docs.at c.docs.least c.docs.i c.docs.invariant done c.if-at-bytes.false
