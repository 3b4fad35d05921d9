use Rattle.std.proofs.Common.{◌<◌, ◌+◌, ◌∙◌, arith, drop, length, map, sym}
use Rattle.index_write.proofs.Below.{segment_data}
use Rattle.index_write.specs.Chosen.{chosen_heads, head_data}
use Rattle.index_write.specs.Streaming.{heads_change}
use Rattle.index_write.proofs.Changes.{changes_next, head_passed}
use Rattle.index_write.proofs.change.same_numbers.Goals as goal

pub loop-i-preserved : goal.loop-i-preserved
loop-i-preserved c =
    let kept = c.args.kept.now in
    let segments = c.args.segments.now in
    let i = c.loop-i.i in
    let here : i < length kept = omega (arith, c.requires.count, c.loop-i-test.true) in
    sym (head_passed _ (head_data c.new.result) (heads_change (map head_data (drop (i + 1) kept)) (chosen_heads c.args.d (map segment_data (drop (i + 1) segments)))) c.in_ok-same_head.ensures)
    ∙ sym (changes_next c.args.d kept segments i _ c.index-segments-i.result c.new.result here c.loop-i-test.true c.index-segments-i.is c.new.ensures) ∙ c.loop-i.invariant
