use Rattle.std.proofs.Common.{◌+◌, ◌<◌, ◌∙◌, refl, length-set, arith}
use Rattle.codec_packed.proofs.Cursors.{gap_stands, doc_is, doc_small, gives_next, given_more, gives_dropped, given_all, gives_end}
use Rattle.codec_packed.proofs.cursor.Cursor.last_gaps.Goals as goal

pub loop-i-init : goal.loop-i-init
loop-i-init c = (c.told-out, omega arith, λ docs gives. gives, λ docs gives. refl)

pub known_gap-gap-requires : goal.known_gap-gap-requires
known_gap-gap-requires c =
    gap_stands c.gap_varints_are_read.ensures.found c.loop-i.self.at c.loop-i.self.least c.loop-i.self.left c.args.bytes.now _
    (c.loop-i.invariant.2 c.requires.stands.0 c.requires.stands.1) (omega (arith, c.loop-i.invariant.1, c.requires.few)) (omega (arith, c.loop-i.invariant.1, c.loop-i-test.true))

pub overflow_add-doc : goal.overflow_add-doc
overflow_add-doc c =
    let small = doc_small c.gap_varints_are_read.ensures.found c.loop-i.self.at c.loop-i.self.least c.loop-i.self.left c.args.bytes.now _
    (c.loop-i.invariant.2 c.requires.stands.0 c.requires.stands.1) (omega (arith, c.loop-i.invariant.1, c.requires.few)) (omega (arith, c.loop-i.invariant.1, c.loop-i-test.true)) c.known_gap-gap.result.0 c.known_gap-gap.result.1 c.known_gap-gap.ensures.value c.known_gap-gap.ensures.behind in
    omega (arith, small)

pub overflow_add-self : goal.overflow_add-self
overflow_add-self c =
    let small = doc_small c.gap_varints_are_read.ensures.found c.loop-i.self.at c.loop-i.self.least c.loop-i.self.left c.args.bytes.now _
    (c.loop-i.invariant.2 c.requires.stands.0 c.requires.stands.1) (omega (arith, c.loop-i.invariant.1, c.requires.few)) (omega (arith, c.loop-i.invariant.1, c.loop-i-test.true)) c.known_gap-gap.result.0 c.known_gap-gap.result.1 c.known_gap-gap.ensures.value c.known_gap-gap.ensures.behind in
    omega (arith, small)

pub loop-i-preserved : goal.loop-i-preserved
loop-i-preserved c =
    let i = c.loop-i.i in
    let few : c.loop-i.self.left < 128 = omega (arith, c.loop-i.invariant.1, c.requires.few) in
    let some : 0 < c.loop-i.self.left = omega (arith, c.loop-i.invariant.1, c.loop-i-test.true) in (
      length-set c.loop-i.out i (c.loop-i.self.least + c.known_gap-gap.result.0) ∙ c.loop-i.invariant.0,
      omega (arith, c.loop-i.invariant.1, some),
      λ docs gives. gives_dropped _ i c.args.bytes.now docs
          (gives_next c.gap_varints_are_read.ensures.found c.loop-i.self.at c.loop-i.self.least c.loop-i.self.left c.args.bytes.now _ (c.loop-i.invariant.2 docs gives) few some c.known_gap-gap.result.0 c.known_gap-gap.result.1 c.known_gap-gap.ensures.value c.known_gap-gap.ensures.behind),
      λ docs gives. given_more i (c.loop-i.self.least + c.known_gap-gap.result.0) c.loop-i.out docs (omega (arith, c.loop-i.invariant.0, c.requires.few, c.loop-i-test.true)) (omega (arith, gives.left, c.loop-i-test.true))
          (doc_is c.gap_varints_are_read.ensures.found c.loop-i.self.at c.loop-i.self.least c.loop-i.self.left c.args.bytes.now _ (c.loop-i.invariant.2 docs gives) few some c.known_gap-gap.result.0 c.known_gap-gap.result.1 c.known_gap-gap.ensures.value c.known_gap-gap.ensures.behind)
          (c.loop-i.invariant.3 docs gives),
    )

pub returns : goal.returns
returns c =
    let i = c.loop-i.i in
    record {
      count = refl;
      block = λ docs gives. given_all i c.args.self.now.left c.loop-i.out docs (omega (arith, c.loop-i-test.false)) gives.left (c.loop-i.invariant.3 docs gives);
      rest = λ docs gives. gives_end c.loop-i.self i c.args.bytes.now docs (omega (arith, gives.left, c.loop-i-test.false)) (c.loop-i.invariant.2 docs gives);
    }
