use Rattle.shared_lemmas.proofs.Common.{◌≡◌, ◌+◌, ◌*◌, ◌∙◌, ◌≤◌, sum, take, drop, replicate, sym, ap, arith, ℕ, List, get_or, length, length-put_chunk}
use Rattle.lane_kernels.specs.Gaps.{running}
use Rattle.lane_kernels.proofs.Sums.{sum_to_chunk_le}
use Rattle.lane_kernels.proofs.Running.{same_lanes_left, least_more, done_more, rest_more, all_done, get_or-running}
use Rattle.lane_kernels.proofs.gaps.running128.Goals as goal

pub running4-numbers-requires-clause-room : goal.running4-numbers-requires-clause-room
running4-numbers-requires-clause-room c =
    let old = c.args.gaps.now in
    let i : ℕ = 4 * c.loop-row.row in
    let is : c.load.result ≡ _ = same_lanes_left c.args.before old c.loop-row.gaps i c.told-gaps c.loop-row.invariant.same (omega arith) c.requires c.loop-row.invariant.done c.loop-row.invariant.rest c.load.result c.load.ensures.lanes in
    omega (arith, ap sum is, sum_to_chunk_le old i)

pub loop-row-preserved : goal.loop-row-preserved
loop-row-preserved c =
    let old = c.args.gaps.now in
    let now = c.loop-row.gaps in
    let i : ℕ = 4 * c.loop-row.row in
    let before = c.args.before in
    let next : i + 4 ≡ 4 * (c.loop-row.row + 1) = omega arith in
    let inv = c.loop-row.invariant in
    let within : i + 4 ≤ 128 = omega arith in
    let are : c.running4-numbers.result ≡ _ = c.running4-numbers.ensures ∙ ap (running 0) (same_lanes_left before old now i c.told-gaps inv.same within c.requires inv.done inv.rest c.load.result c.load.ensures.lanes) in
    let numbers = c.running4-numbers.result in
    let wide = c.loop-row.least in
    let stored = c.store.ensures in
    record {
      same = ap length stored ∙ length-put_chunk _ now _ ∙ inv.same;
      least = least_more before old now i c.told-gaps inv.same within c.requires inv.done inv.rest wide inv.least numbers are
          ∙ ap (λ n. replicate 4 (before + sum (take n old) + n)) next;
      done = ap (λ n. take n c.store.new.values) (sym next) ∙ ap (take (i + 4)) stored
          ∙ done_more before old now i c.told-gaps inv.same within c.requires inv.done inv.rest wide inv.least numbers are
          ∙ ap (λ n. running before (take n old)) next;
      rest = ap (λ n. drop n c.store.new.values) (sym next) ∙ ap (drop (i + 4)) stored
          ∙ rest_more before old now i c.told-gaps inv.same within c.requires inv.done inv.rest wide inv.least numbers are
          ∙ ap (λ n. drop n old) next;
    }

pub returns-clause-numbers : goal.returns-clause-numbers
returns-clause-numbers c =
    all_done c.args.before c.args.gaps.now c.loop-row.gaps (4 * c.loop-row.row) c.told-gaps c.loop-row.invariant.same (omega arith) c.loop-row.invariant.done

pub returns-clause-each : goal.returns-clause-each
returns-clause-each c = λ i h.
    ap (λ (xs : List ℕ). get_or xs i 0) (all_done c.args.before c.args.gaps.now c.loop-row.gaps (4 * c.loop-row.row) c.told-gaps c.loop-row.invariant.same (omega arith) c.loop-row.invariant.done)
    ∙ get_or-running c.args.before c.args.gaps.now i (omega (arith, c.told-gaps))
