use Rattle.std.proofs.Common.{◌≡◌, ◌+◌, ◌-◌, ◌%◌, ◌^◌, ◌∙◌, take, refl, suc, arith}
use Rattle.std.proofs.lemmas.List.{take_more_set, length-set}
use Rattle.jass_base.specs.Gaps.{docs_from}
use Rattle.codec_simple8.specs.Simple8.{fields}
use Rattle.codec_simple8.proofs.Fields.{masked}
use Rattle.codec_simple8.proofs.GapLists.{below_from_All}
use Rattle.codec_simple8.proofs.Putting.{put_small, put_one, put_all}
use Rattle.codec_simple8.proofs.values.put_values.Goals as goal

pub loop-i-init : goal.loop-i-init
loop-i-init c =
    let more : c.args.count - 0 ≡ c.args.count = omega arith in
    let from : c.args.filled + 0 ≡ c.args.filled = omega arith in
    record {
      put = rw (more, from) (record {
        docs = refl;
        behind_is = refl;
        below = below_from_All (2 ^ 26) (2 ^ 26) (docs_from c.args.least (fields c.args.width c.args.count c.args.values)) (omega arith) c.requires.below;
        small = c.requires.least;
      });
      long = refl;
    }

pub overflow_cast-doc : goal.overflow_cast-doc
overflow_cast-doc c =
    let some : c.args.count - c.loop-i.i ≡ suc (c.args.count - (c.loop-i.i + 1)) = omega (arith, c.loop-i-test.true) in
    let small = put_small c.args.width (c.args.count - (c.loop-i.i + 1)) (c.args.count - c.loop-i.i) c.loop-i.rest c.loop-i.next _ _ _ some c.loop-i.invariant.put in
    rw (masked c.loop-i.rest c.args.width c.requires.width) (record { fits = omega (arith, small) })

pub overflow_add-doc : goal.overflow_add-doc
overflow_add-doc c =
    let some : c.args.count - c.loop-i.i ≡ suc (c.args.count - (c.loop-i.i + 1)) = omega (arith, c.loop-i-test.true) in
    let small = put_small c.args.width (c.args.count - (c.loop-i.i + 1)) (c.args.count - c.loop-i.i) c.loop-i.rest c.loop-i.next _ _ _ some c.loop-i.invariant.put in
    rw (masked c.loop-i.rest c.args.width c.requires.width) (record { fits = omega (arith, small) })

pub overflow_add-next : goal.overflow_add-next
overflow_add-next c =
    let some : c.args.count - c.loop-i.i ≡ suc (c.args.count - (c.loop-i.i + 1)) = omega (arith, c.loop-i-test.true) in
    let small = put_small c.args.width (c.args.count - (c.loop-i.i + 1)) (c.args.count - c.loop-i.i) c.loop-i.rest c.loop-i.next _ _ _ some c.loop-i.invariant.put in
    rw (masked c.loop-i.rest c.args.width c.requires.width) (record { fits = omega (arith, small) })

pub loop-i-preserved : goal.loop-i-preserved
loop-i-preserved c =
    let some : c.args.count - c.loop-i.i ≡ suc (c.args.count - (c.loop-i.i + 1)) = omega (arith, c.loop-i-test.true) in
    let put = put_one c.args.width (c.args.count - (c.loop-i.i + 1)) (c.args.count - c.loop-i.i) c.loop-i.rest c.loop-i.next (take (c.args.filled + c.loop-i.i) c.loop-i.out) _ _ some c.loop-i.invariant.put in
    let place : c.args.filled + (c.loop-i.i + 1) ≡ c.args.filled + c.loop-i.i + 1 = omega arith in
    let front = take_more_set c.loop-i.out (c.args.filled + c.loop-i.i) (c.loop-i.next + c.loop-i.rest % 2 ^ c.args.width) (omega (arith, c.loop-i-test.true, c.requires.room, c.loop-i.auto, c.loop-i.invariant.long)) in
    record {
      put = rw (masked c.loop-i.rest c.args.width c.requires.width, place, front) put;
      long = length-set c.loop-i.out (c.args.filled + c.loop-i.i) _ ∙ c.loop-i.invariant.long;
    }

pub returns-clause-docs : goal.returns-clause-docs
returns-clause-docs c =
    let none : c.args.count - c.loop-i.i ≡ 0 = omega (arith, c.loop-i-test.false) in
    let all : c.args.filled + c.args.count ≡ c.args.filled + c.loop-i.i = omega (arith, c.loop-i-test.false, c.loop-i.auto.i-end) in
    rw all (put_all c.args.width (c.args.count - c.loop-i.i) c.loop-i.rest c.loop-i.next (take (c.args.filled + c.loop-i.i) c.loop-i.out) _ _ none c.loop-i.invariant.put).0

pub returns-clause-next : goal.returns-clause-next
returns-clause-next c =
    let none : c.args.count - c.loop-i.i ≡ 0 = omega (arith, c.loop-i-test.false) in
    (put_all c.args.width (c.args.count - c.loop-i.i) c.loop-i.rest c.loop-i.next (take (c.args.filled + c.loop-i.i) c.loop-i.out) _ _ none c.loop-i.invariant.put).1
