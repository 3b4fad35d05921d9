use Rattle.std.proofs.Common.{◌≡◌, ◌+◌, ◌∙◌, List, ℕ, sym, subst, arith}
use Rattle.plain_codecs.proofs.Runs.{ReadSoFar, moved, more_small, more_each}
use Rattle.plain_codecs.proofs.varbyte.runs.read_run.Goals.{then-part-eq16+then-copy_small, else-part-eq16, else-part-eq16-via-then-part-eq16+else-copy_small, else-part-eq16-via-else-part-eq16}
use Rattle.plain_codecs.proofs.varbyte.runs.read_run.Goals as goal

pub loop-filled-preserved : goal.loop-filled-preserved
loop-filled-preserved c =
    let bytes = c.args.bytes.now in
    let from = c.args.from in
    let count = c.args.count in
    let filled = c.loop-filled.filled in
    let part = c.min-part.result in
    let so_far = c.loop-filled.invariant in
    elim c.if-part-eq16.branch [
      | then-part-eq16+then-copy_small w ↦
          let copied = w.if-copy_small.true in
          let whole : part ≡ 16 = w.if-part-eq16.true in
          moved bytes from count (c.loop-filled.at + 16) c.if-part-eq16.at (filled + 16) (filled + part) w.copy_small.new.out c.if-part-eq16.out (sym w.at-is) (omega arith) (sym w.out-is)
          (more_small bytes from count c.loop-filled.at filled c.loop-filled.out w.copy_small.new.out so_far c.requires.block (omega (arith, c.min-part.ensures, c.loop-filled-test.true, whole))
          (w.copy_small.ensures.bytes copied) (w.copy_small.ensures.small copied) (w.copy_small.ensures.copied copied))
      | else-part-eq16 w ↦
          let same : w.else-part-eq16.out ≡ c.loop-filled.out = elim w.else-part-eq16.branch [
            | else-part-eq16-via-then-part-eq16+else-copy_small v ↦ v.out-is ∙ v.copy_small.ensures.stays v.if-copy_small.false
            | else-part-eq16-via-else-part-eq16 v ↦ v.out-is
          ] in
          let far = subst (λ (out : List ℕ). ReadSoFar bytes from count c.loop-filled.at filled out) (sym same) so_far in
          moved bytes from count w.read_each-at.result c.if-part-eq16.at (filled + part) (filled + part) w.read_each-at.new.out c.if-part-eq16.out (sym w.at-is) (omega arith) (sym w.out-is)
          (more_each bytes from count c.loop-filled.at filled part w.read_each-at.result w.else-part-eq16.out w.read_each-at.new.out (c.requires.run.0, c.requires.run.1) far (omega (arith, c.min-part.ensures, c.loop-filled-test.true))
          w.read_each-at.array_long w.read_each-at.ensures.gaps w.read_each-at.ensures.behind)
    ]
