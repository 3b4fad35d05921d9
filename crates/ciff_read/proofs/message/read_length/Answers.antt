use Rattle.std.proofs.Common.{arith, ◌<◌, ◌^◌, ◌+◌}
use Rattle.ciff_read.proofs.Answering.{refuses}
use Rattle.ciff_read.proofs.Messages.{message_bad, message_over, message_cut, message_there}
use Rattle.ciff_read.proofs.message.read_length.Goals as goal
use Rattle.ciff_read.proofs.message.read_length.Goals.{then-from-gt-LONGEST_FILE-via-then-from-gt-LONGEST_FILE, then-from-gt-LONGEST_FILE-via-else-from-gt-LONGEST_FILE+then-length-from}

pub returns-in-Err : goal.returns-in-Err
returns-in-Err c = message_bad _ _ _ _ c.in-Err.ensures.0 c.in-Err.ensures.1 c.refused_field.ensures

pub returns-then-from-gt-LONGEST_FILE : goal.returns-then-from-gt-LONGEST_FILE
returns-then-from-gt-LONGEST_FILE c =
    let e = c.in-Ok.ensures in
    let over : 2 ^ 32 < c.in-Ok.read.1 + c.in-Ok.read.0 = elim c.then-from-gt-LONGEST_FILE.branch [
      | then-from-gt-LONGEST_FILE-via-then-from-gt-LONGEST_FILE w ↦ omega arith
      | then-from-gt-LONGEST_FILE-via-else-from-gt-LONGEST_FILE+then-length-from w ↦ omega arith
    ] in
    refuses _ _ _ c.refused.ensures (message_over _ _ _ _ e.0 e.1 e.2 over)

pub returns-then-length-bytes : goal.returns-then-length-bytes
returns-then-length-bytes c =
    let e = c.in-Ok.ensures in
    refuses _ _ _ c.refused-then-length-bytes.ensures
    (message_cut _ _ _ _ e.0 e.1 e.2 (omega (arith, c.if-from-gt-LONGEST_FILE.false, c.if-length-from.false)) c.if-length-bytes.true)

pub returns : goal.returns
returns c =
    let e = c.in-Ok.ensures in (
      message_there _ _ _ _ e.0 e.1 e.2 (omega (arith, c.if-from-gt-LONGEST_FILE.false, c.if-length-from.false)) c.if-length-bytes.false,
      omega (arith, e.1),
      omega (arith, e.2, c.if-length-bytes.false),
    )
