use Rattle.std.proofs.Common.{refl, ap, ◌∙◌, ◌≡◌, ◌<◌, ◌+◌, ◌^◌, arith}
use Rattle.wire_fields.proofs.Groups.{scale_small, group_fits}
use Rattle.wire_fields.proofs.Varints.{rest_at, at_start, one_more, ends_cut, ends_group, ends_tenth, ends_long, length-rest}
use Rattle.wire_fields.proofs.varint.read_groups.Goals as goal

pub overflow_mul-result : goal.overflow_mul-result
overflow_mul-result c =
    omega (arith, group_fits c.loop-group.group c.from.result c.loop-group.scale c.loop-group-test.true c.loop-group.invariant.scale_is (omega arith))

pub overflow_add-result : goal.overflow_add-result
overflow_add-result c =
    omega (arith, group_fits c.loop-group.group c.from.result c.loop-group.scale c.loop-group-test.true c.loop-group.invariant.scale_is (omega arith))

pub overflow_mul-value : goal.overflow_mul-value
overflow_mul-value c =
    omega (arith, group_fits c.loop-group.group c.from-in-loop-group.result c.loop-group.scale c.loop-group-test.true c.loop-group.invariant.scale_is (omega arith))

pub overflow_add-value : goal.overflow_add-value
overflow_add-value c =
    omega (arith, group_fits c.loop-group.group c.from-in-loop-group.result c.loop-group.scale c.loop-group-test.true c.loop-group.invariant.scale_is (omega arith))

pub overflow_mul-scale : goal.overflow_mul-scale
overflow_mul-scale c = omega (arith, scale_small c.loop-group.group c.loop-group.scale c.loop-group-test.true c.loop-group.invariant.scale_is)

pub loop-group-init : goal.loop-group-init
loop-group-init c = at_start (rest_at c.args.bytes.now c.args.at)

pub returns-then-group-rest : goal.returns-then-group-rest
returns-then-group-rest c = (ends_cut c.args.bytes.now c.args.at _ _ _ c.loop-group.invariant (omega arith) c.if-group-rest.true, refl)

pub returns-then-byte-lt128 : goal.returns-then-byte-lt128
returns-then-byte-lt128 c =
    let small : c.from.result < 128 = omega (arith, c.from.ensures, c.if-byte-lt128.true) in
    let size = length-rest c.args.bytes.now c.args.at in (
      ends_group c.args.bytes.now c.args.at c.loop-group.group c.loop-group.value c.loop-group.scale c.loop-group.invariant c.from.result (c.args.at + c.loop-group.group + 1) c.loop-group-test.true c.if-group-rest.false c.from.ensures small (omega arith),
      omega arith,
      omega (arith, size, c.if-group-rest.false),
      omega (arith, group_fits c.loop-group.group c.from.result c.loop-group.scale c.loop-group-test.true c.loop-group.invariant.scale_is small, c.loop-group.invariant.below),
    )

pub loop-group-preserved : goal.loop-group-preserved
loop-group-preserved c = one_more (rest_at c.args.bytes.now c.args.at) c.loop-group.group c.loop-group.value c.loop-group.scale c.from-in-loop-group.result
    c.loop-group.invariant c.loop-group-test.true c.if-group-rest.false c.from-in-loop-group.ensures c.if-byte-lt128.false
    (omega (arith, c.type_inv.rest c.loop-group.group))

pub returns-then-byte-gt1 : goal.returns-then-byte-gt1
returns-then-byte-gt1 c =
    let nine : c.loop-group.group ≡ 9 = omega (arith, c.loop-group-test.false, c.loop-group.auto.group-end) in
    (ends_long c.args.bytes.now c.args.at c.loop-group.group c.loop-group.value c.loop-group.scale c.loop-group.invariant nine c.if-rest-lt10.false c.if-byte-gt1.true, refl)

pub returns : goal.returns
returns c =
    let nine : c.loop-group.group ≡ 9 = omega (arith, c.loop-group-test.false, c.loop-group.auto.group-end) in
    let scale : c.loop-group.scale ≡ 128 ^ 9 = c.loop-group.invariant.scale_is ∙ ap (λ n. 128 ^ n) nine in
    let small : c.from-2.result < 2 = omega (arith, c.from-2.ensures, c.if-byte-gt1.false) in
    let size = length-rest c.args.bytes.now c.args.at in (
      ends_tenth c.args.bytes.now c.args.at c.loop-group.group c.loop-group.value c.loop-group.scale c.loop-group.invariant c.from-2.result nine c.if-rest-lt10.false c.from-2.ensures small,
      omega arith,
      omega (arith, size, c.if-rest-lt10.false),
      rw scale (omega (arith, c.loop-group.invariant.below, scale)),
    )
