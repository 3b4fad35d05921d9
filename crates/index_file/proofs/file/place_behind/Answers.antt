use Rattle.shared_lemmas.proofs.Common.{◌≡◌, [], ◌+◌, ◌∙◌, ap, arith, drop, min, get_or-drop, length-drop}
use Rattle.index_file.specs.Private.Payloads.{payload_place}
use Rattle.index_file.specs.Private.Tables.{head_at}
use Rattle.index_file.proofs.HeadLists.{place_more, size_of}
use Rattle.index_file.proofs.file.place_behind.Goals.{then-i-count, else-i-count}
use Rattle.index_file.proofs.file.place_behind.Goals as goal

pub heads-preserved : goal.heads-preserved
heads-preserved c =
    let heads = c.args.heads.now in
    let left = drop c.args.from heads in
    let i = c.heads.i in
    let place = c.heads.invariant.place in
    let few = c.heads.invariant.few in
    elim c.if-i-count.branch [
      | then-i-count w ↦ (
          let below = w.if-i-count.true in
          let here : c.min.result ≡ i = c.min.ensures ∙ omega (arith, below) in
          let now : min c.args.count i ≡ i = omega (arith, below) in
          let next : min c.args.count (i + 1) ≡ i + 1 = omega (arith, below) in
          let long = length-drop c.args.from heads in
          let size = ap size_of (c.at.ensures ∙ ap (λ k. head_at heads (c.args.from + k)) here) in
          let told = ap size_of (get_or-drop c.args.from heads i (head_at [] 0)) in
          let more = place_more left c.args.first i (omega (arith, below, long, c.requires.there)) in
          let before = ap (payload_place left c.args.first) now in
          let after = ap (payload_place left c.args.first) next in
          let is = w.place-is in
          record {
            place = omega (arith, place, is, size, told, more, before, after);
            few = omega (arith, few, is);
          })
      | else-i-count w ↦ (
          let over = w.if-i-count.false in
          let same : min c.args.count i ≡ min c.args.count (i + 1) = omega (arith, over) in
          let stays = ap (payload_place left c.args.first) same in
          let is = w.place-is in
          record {
            place = omega (arith, place, is, stays);
            few = omega (arith, few, is);
          })
    ]
