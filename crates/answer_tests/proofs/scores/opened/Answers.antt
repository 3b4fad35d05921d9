use Rattle.answer_tests.proofs.Rising.{most_at_first}
use Rattle.answer_tests.proofs.scores.opened.Goals as goal

pub invariant_of-result : goal.invariant_of-result
invariant_of-result g c =
    (c.promised-scores.ensures.docs, (c.promised-scores.ensures.promise, (c.promised-scores.ensures.stand, most_at_first c.args.docs _ c.promised-scores.ensures.scores)))
