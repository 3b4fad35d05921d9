use Rattle.std.proofs.Common.{◌≡◌, ◌-◌, ◌/◌, ℕ, subst, arith}
use Rattle.ciff_read.specs.KeptLists.{entries_in, kept_in}
use Rattle.ciff_read.proofs.Rising.{LiesFrom, lies_above, lies_below, entry_kept, place_kept, count_found}
use Rattle.ciff_read.proofs.kept_lists.KeptLists.found.Goals as goal

pub loop-low-preserved-then-place-at : goal.loop-low-preserved-then-place-at
loop-low-preserved-then-place-at c =
    let kept = kept_in c.args.self.now in
    let middle : ℕ = c.loop-low.high - (c.loop-low.high - c.loop-low.low) / 2 in
    let place = c.place.result in
    let there = place_kept kept middle place (entry_kept (entries_in c.args.self.now) middle place c.place.ensures) (omega (arith, c.loop-low.invariant.within)) in
    lies_above kept c.requires.rising c.args.at c.loop-low.low c.loop-low.high middle c.loop-low.invariant place.at (omega arith) there c.if-place-at.true

pub loop-low-preserved : goal.loop-low-preserved
loop-low-preserved c =
    let kept = kept_in c.args.self.now in
    let middle : ℕ = c.loop-low.high - (c.loop-low.high - c.loop-low.low) / 2 in
    let place = c.place.result in
    let there = place_kept kept middle place (entry_kept (entries_in c.args.self.now) middle place c.place.ensures) (omega (arith, c.loop-low.invariant.within)) in
    lies_below kept c.requires.rising c.args.at c.loop-low.low c.loop-low.high middle c.loop-low.invariant place.at (omega arith) there (omega (arith, c.if-place-at.false))

pub returns-clause-count : goal.returns-clause-count
returns-clause-count c =
    let kept = kept_in c.args.self.now in
    let l = c.loop-low in
    let last : l.high ≡ l.low = omega (arith, c.loop-low-test.false, l.invariant.above, l.invariant.below) in
    let place = c.place-2.result in
    count_found kept c.args.at l.low place (entry_kept (entries_in c.args.self.now) l.low place c.place-2.ensures) (subst (λ high. LiesFrom kept c.args.at l.low high) last l.invariant)
