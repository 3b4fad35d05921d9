use Rattle.shared_lemmas.proofs.Common.{◌+◌, ◌++◌, List, ℕ, take, refl, ap, ◌∙◌, arith, take_more_put_chunk}
use Rattle.codec_simple8.specs.Simple8.{width_of}
use Rattle.codec_simple8.proofs.LaneValues.{eight, same_eight, width_narrow}
use Rattle.codec_simple8.proofs.eights.put_eight.Goals as goal

pub returns-clause-docs : goal.returns-clause-docs
returns-clause-docs c =
    let n = eight (width_of c.args.selector.number) c.args.values (width_narrow c.args.selector.number c.requires.from c.requires.to) in
    let sums = c.sums8.ensures n.a n.b n.c n.d n.e n.f n.g n.h (c.fields8.ensures ∙ n.are) (omega (arith, n.small-a, n.small-b, n.small-c, n.small-d, n.small-e, n.small-f, n.small-g, n.small-h)) in
    rw (sums, n.are) (take_more_put_chunk c.args.filled c.args.out.now _ (c.args.filled + 8) refl c.requires.room
    ∙ ap (λ (docs : List ℕ). take c.args.filled c.args.out.now ++ docs) (same_eight (omega (arith, c.requires.least, n.small-a)) (omega (arith, c.requires.least, n.small-a, n.small-b)) (omega (arith, c.requires.least, n.small-a, n.small-b, n.small-c)) (omega (arith, c.requires.least, n.small-a, n.small-b, n.small-c, n.small-d)) (omega (arith, c.requires.least, n.small-a, n.small-b, n.small-c, n.small-d, n.small-e)) (omega (arith, c.requires.least, n.small-a, n.small-b, n.small-c, n.small-d, n.small-e, n.small-f)) (omega (arith, c.requires.least, n.small-a, n.small-b, n.small-c, n.small-d, n.small-e, n.small-f, n.small-g)) (omega (arith, c.requires.least, n.small-a, n.small-b, n.small-c, n.small-d, n.small-e, n.small-f, n.small-g, n.small-h))))
