use Rattle.std.proofs.Common.{ℕ, List, [], ◌∷◌, ◌++◌, ◌+◌, ◌%◌, ◌/◌, sym, ap, ◌∙◌, arith}
use Rattle.jass_base.proofs.GapGroups.{one_group_written}
use Rattle.ciff_write.proofs.Fields.{posting_spelled}
use Rattle.ciff_write.proofs.Varints.{two_groups, three_groups}
use Rattle.ciff_write.proofs.spelling.push_posting.Goals as goal

pub returns-then-gap-lt128 : goal.returns-then-gap-lt128
returns-then-gap-lt128 c =
    let gap : ℕ = c.args.gap in
    let spelled = posting_spelled gap c.args.tf (gap ∷ []) c.if-gap-eq0.false c.if-tf-eq0.false c.if-tf-ge128.false (omega arith) (one_group_written gap c.if-gap-lt128.true) in
    c.push.ensures ∙ ap (λ (s : List ℕ). c.args.buffer.now ++ s) (sym spelled)

pub returns-then-gap-lt16384 : goal.returns-then-gap-lt16384
returns-then-gap-lt16384 c =
    let gap : ℕ = c.args.gap in
    let spelled = posting_spelled gap c.args.tf ((gap % 128 + 128) ∷ gap / 128 ∷ []) c.if-gap-eq0.false c.if-tf-eq0.false c.if-tf-ge128.false (omega arith) (two_groups gap c.if-gap-lt128.false c.if-gap-lt16384.true) in
    c.push-then-gap-lt16384.ensures ∙ ap (λ (s : List ℕ). c.args.buffer.now ++ s) (sym spelled)

pub returns : goal.returns
returns c =
    let gap : ℕ = c.args.gap in
    let spelled = posting_spelled gap c.args.tf ((gap % 128 + 128) ∷ (gap / 128 % 128 + 128) ∷ gap / 16384 ∷ []) c.if-gap-eq0.false c.if-tf-eq0.false c.if-tf-ge128.false (omega arith) (three_groups gap c.if-gap-lt16384.false c.if-gap-ge2097152.false) in
    c.push-2.ensures ∙ ap (λ (s : List ℕ). c.args.buffer.now ++ s) (sym spelled)
