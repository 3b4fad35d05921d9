use Rattle.shared_lemmas.proofs.Common.{◌≡◌, ◌<◌, ◌+◌, ◌-◌, ◌∙◌, ℕ, length, take, arith, nat_lt, and_parts, ltb-true, nat_tests, length-take-le}
use Rattle.std.proofs.lemmas.List.{length-set}
use Rattle.plain_codecs.proofs.Handing.{one_handed, all_handed}
use Rattle.plain_codecs.proofs.varbyte.handing.hand_out_short.Goals as goal

pub docs-preserved : goal.docs-preserved
docs-preserved c =
    let bytes = c.args.bytes.now in
    let at = c.docs.at in
    let read = c.short_gap-read.result in
    let next : ℕ = at + read.size in
    let doc : ℕ = c.docs.least + read.gap in
    let checked = and_parts read.is_gap (nat_lt doc c.args.d) c.if-not-read-doc.false in
    let below : doc < c.args.d = ltb-true doc c.args.d checked.1 in
    let size : next - at ≡ read.size = omega arith in
    let some = c.short_gap-read.ensures.some in
    let most = c.short_gap-read.ensures.few in
    let so_far = c.docs.invariant in
    record {
      handed = λ end inside within.
          let front = take end bytes in
          let long : length front ≡ end = length-take-le end bytes within in
          one_handed c.args.d c.args.count front c.args.out.now c.docs.out at c.docs.least c.docs.i (so_far.handed end (omega (arith, inside)) within) c.docs-test.true
          read.gap next c.requires.room (rw size (c.short_gap-read.ensures.gap checked.0 end inside)) (omega (arith, some)) (omega (arith, long, inside)) below;
      few = omega (arith, most, so_far.few);
      low = omega (arith, below);
      long = length-set c.docs.out c.docs.i doc ∙ so_far.long;
    }

pub returns-clause-docs : goal.returns-clause-docs
returns-clause-docs c = λ is.
    let size = c.args.size in
    let front = take size c.args.bytes.now in
    let done : c.docs.i ≡ c.args.count = omega (arith, c.docs-test.false, c.docs.auto.i-end) in
    let long : length front ≡ size = length-take-le size c.args.bytes.now c.requires.size in
    let ends : c.docs.at ≡ size = grind (arith, nat_tests) in
    all_handed c.args.d c.args.count front c.args.out.now c.docs.out c.docs.at c.docs.least c.docs.i
    (c.docs.invariant.handed size (omega (arith, ends)) c.requires.size) done (omega (arith, long, ends))
