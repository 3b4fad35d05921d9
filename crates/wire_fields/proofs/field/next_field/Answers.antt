use Rattle.shared_lemmas.proofs.Common.{refl, arith, drop, ◌≡◌, ◌/◌, true, Err, rules, nat_lt, ◌==◌, ◌||◌, nat_tests}
use Rattle.wire_fields.specs.Places.{value_in}
use Rattle.wire_fields.proofs.Fields.{bad_tag, bad_number, bad_value, field_there}
use Rattle.wire_fields.proofs.field.next_field.Goals as goal
use Rattle.wire_fields.proofs.field.next_field.Goals.{then-number-eq0-via-then-number-eq0, then-number-eq0-via-else-number-eq0+then-number-gt536870911}

pub returns-in_err-tag : goal.returns-in_err-tag
returns-in_err-tag c =
    let is : c.from_residual.result ≡ Err c.in_err-tag.field-0.0 = search rules in
    rw is (bad_tag (drop c.args.at c.args.bytes.now) c.in_err-tag.field-0.0.why c.in_err-tag.ensures.0, omega arith, c.in_err-tag.ensures.1)

pub returns-then-number-eq0 : goal.returns-then-number-eq0
returns-then-number-eq0 c =
    let tag = c.in_ok-tag.tag in
    let bad : (tag / 8 == 0 || nat_lt 536870911 (tag / 8)) ≡ true = elim c.then-number-eq0.branch [
      | then-number-eq0-via-then-number-eq0 w ↦ grind (arith, nat_tests)
      | then-number-eq0-via-else-number-eq0+then-number-gt536870911 w ↦ grind (arith, nat_tests)
    ] in
    (bad_number (drop c.args.at c.args.bytes.now) tag (drop c.in_ok-tag.from c.args.bytes.now) c.in_ok-tag.ensures.0 bad, omega arith, refl)

pub returns-in-Ok : goal.returns-in-Ok
returns-in-Ok c =
    let e = c.in-Ok.ensures in
    let r = c.in_ok-tag.ensures in (
      field_there (drop c.args.at c.args.bytes.now) c.in_ok-tag.tag (drop c.in_ok-tag.from c.args.bytes.now) r.0 (omega arith) (omega arith) (value_in c.args.bytes.now c.in-Ok.value) (drop c.in-Ok.next c.args.bytes.now) e.0,
      omega (arith, r.1, e.1),
      e.2,
      e.3,
    )

pub returns-in-Err : goal.returns-in-Err
returns-in-Err c =
    let r = c.in_ok-tag.ensures in
    (bad_value (drop c.args.at c.args.bytes.now) c.in_ok-tag.tag (drop c.in_ok-tag.from c.args.bytes.now) r.0 (omega arith) (omega arith) c.in-Err.why c.in-Err.ensures, omega arith, refl)
