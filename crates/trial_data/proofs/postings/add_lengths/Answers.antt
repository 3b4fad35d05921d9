use Rattle.shared_lemmas.proofs.Common.{ℕ, ◌<◌, length, sym, subst, arith, All}
use Rattle.jass_base.specs.Postings.{docs_of}
use Rattle.trial_data.proofs.Lengths.{below_at, sum_within}
use Rattle.trial_data.proofs.postings.add_lengths.Goals as goal

pub bounds-lengths-posting : goal.bounds-lengths-posting
bounds-lengths-posting c =
    omega (arith, below_at (length c.args.lengths.now) c.args.postings.now c.loop-posting.posting-index c.loop-posting-test.true c.requires.below)

pub overflow_add-lengths : goal.overflow_add-lengths
overflow_add-lengths c =
    let below = subst (λ (n : ℕ). All (λ doc. doc < n) (docs_of c.args.postings.now)) (sym c.loop-posting.invariant.long) c.requires.below in
    let within = sum_within c.loop-posting.lengths _ c.args.postings.now c.loop-posting.posting-index c.loop-posting-test.true below c.loop-posting.invariant.rest in
    omega (arith, within, c.requires.fits)

pub bounds-lengths-posting-in-loop-posting : goal.bounds-lengths-posting-in-loop-posting
bounds-lengths-posting-in-loop-posting c =
    omega (arith, below_at (length c.args.lengths.now) c.args.postings.now c.loop-posting.posting-index c.loop-posting-test.true c.requires.below)
