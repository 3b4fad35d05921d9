use Rattle.std.proofs.Common.{◌≡◌, Option, arith, length, map, subst, sym}
use Rattle.shared_lemmas.proofs.Common.{length-map}
use Rattle.index_write.proofs.Below.{segment_data}
use Rattle.index_write.specs.Chosen.{chosen_heads, head_data}
use Rattle.index_write.specs.Streaming.{change_of, heads_change}
use Rattle.index_write.specs.Private.Differences.{Finds}
use Rattle.index_write.specs.declared.change.Change.{Change}
use Rattle.index_write.proofs.Changes.{same_go_on}
use Rattle.index_write.proofs.Memory.{heads_count}
use Rattle.index_write.proofs.change.same_heads.Goals as goal

pub returns : goal.returns
unfolding change_of
returns c =
    let kept = map head_data c.args.kept.now in
    let found = chosen_heads c.args.d (map segment_data c.args.segments.now) in
    let count : length kept ≡ length found = omega (arith, c.in_ok-same.ensures.ok, length-map c.args.kept.now head_data, heads_count c.args.d c.args.segments.now) in
    subst (λ (first : Option Change). Finds first c.same_numbers.result) (sym (same_go_on (length kept) (length found) (heads_change kept found) count)) c.same_numbers.ensures
