use Rattle.shared_lemmas.proofs.Common.{ℕ, ◌≡◌, ◌∙◌, ◌+◌, ◌-◌, ◌/◌, ◌^◌, ◌<◌, ◌≤◌, ap, arith, subst}
use Rattle.std.specs.Int.{bit_at}
use Rattle.max_score.specs.Private.Walking.{HasMet}
use Rattle.max_score.proofs.Marks.{moved_on, next_inside, none_ahead, none_left}
use Rattle.max_score.proofs.Walks.{gone_on}
use Rattle.max_score.proofs.walk.walk_marked.Goals as goal
use lib.Count.{count_trailing_zeros}

pub overflow_add-doc : goal.overflow_add-doc
overflow_add-doc c =
    let next = next_inside c.args.marks (c.marked.doc - c.args.from) c.marked.ahead c.marked.invariant.left c.ranges.marks.fits c.marked.auto.ahead-fits.fits (omega (arith, c.marked-test.true)) in
    record { fits = omega (arith, next, c.marked.invariant.reached, c.requires.within, c.ranges.docs.fits) }

pub consider-requires-clause-inside : goal.consider-requires-clause-inside
consider-requires-clause-inside c = λ k d inside.
    let next = next_inside c.args.marks (c.marked.doc - c.args.from) c.marked.ahead c.marked.invariant.left c.ranges.marks.fits c.marked.auto.ahead-fits.fits (omega (arith, c.marked-test.true)) in
    omega (arith, next, c.marked.invariant.reached, c.requires.within, c.requires.covers k d inside)

pub overflow_add-doc-in-marked-2 : goal.overflow_add-doc-in-marked-2
overflow_add-doc-in-marked-2 c =
    let next = next_inside c.args.marks (c.marked.doc - c.args.from) c.marked.ahead c.marked.invariant.left c.ranges.marks.fits c.marked.auto.ahead-fits.fits (omega (arith, c.marked-test.true)) in
    record { fits = omega (arith, next, c.marked.invariant.reached, c.requires.within, c.ranges.docs.fits) }

pub marked-preserved : goal.marked-preserved
marked-preserved c =
    let place = c.marked.doc - c.args.from in
    let some : 0 < c.marked.ahead = omega (arith, c.marked-test.true) in
    let gap = count_trailing_zeros 64 c.marked.ahead in
    let next : place + gap < 64 = next_inside c.args.marks place c.marked.ahead c.marked.invariant.left c.ranges.marks.fits c.marked.auto.ahead-fits.fits some in
    let reached = c.marked.invariant.reached in
    let walking = c.marked.invariant.walking in
    let none : (i : ℕ) → c.marked.doc ≤ c.args.from + i → c.args.from + i < c.marked.doc + gap → bit_at c.args.marks i ≡ 0 =
    λ i low high. let e : place + (i - place) ≡ i = omega (arith, low, reached) in
    subst (λ n. bit_at c.args.marks n ≡ 0) e (none_ahead c.args.marks place c.marked.ahead c.marked.invariant.left c.ranges.marks.fits c.marked.auto.ahead-fits.fits some (i - place) (omega (arith, low, high, reached))) in
    let met = gone_on c.args.docs c.args.lists.now c.requires.bounded c.args.from c.marked.doc (c.marked.doc + gap) c.args.best.now.k c.args.marks c.marked.best walking.met walking.k reached (omega arith) (omega (arith, next, reached))
    c.requires.unmarked none in
    let sum : c.marked.doc + gap + 1 ≡ c.marked.doc + (gap + 1) = omega arith in
    let later : place + gap + 1 ≡ c.marked.doc + (gap + 1) - c.args.from = omega (arith, reached) in
    record {
      walking = record {
        met = subst (λ d. HasMet c.args.docs c.args.lists.now d c.consider.new.best) sum (c.consider.ensures.met c.args.docs (omega (arith, next, reached, c.requires.within)) met);
        room = c.consider.ensures.room;
        k = c.consider.ensures.k ∙ walking.k;
        inside = omega (arith, next, reached, c.requires.within);
      };
      reached = omega (arith, reached);
      within = omega (arith, next, reached);
      left = moved_on c.args.marks place c.marked.ahead c.marked.invariant.left gap ∙ ap (λ n. c.args.marks / 2 ^ n) later;
    }

pub returns-clause-met : goal.returns-clause-met
returns-clause-met c =
    let place = c.marked.doc - c.args.from in
    let reached = c.marked.invariant.reached in
    let within = c.marked.invariant.within in
    let walking = c.marked.invariant.walking in
    gone_on c.args.docs c.args.lists.now c.requires.bounded c.args.from c.marked.doc (c.args.from + 64) c.args.best.now.k c.args.marks c.marked.best walking.met walking.k reached (omega arith) (omega arith) c.requires.unmarked
    (λ i low high. let e : place + (i - place) ≡ i = omega (arith, low, reached) in
    subst (λ n. bit_at c.args.marks n ≡ 0) e (none_left c.args.marks place c.marked.ahead c.marked.invariant.left (omega (arith, c.marked-test.false)) (i - place)))
