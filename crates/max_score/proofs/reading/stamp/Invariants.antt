use Rattle.std.proofs.Common.{◌≡◌, drop}
use Rattle.max_score.specs.Private.Stamping.{stamped}
use Rattle.max_score.proofs.reading.stamp.Given as goal

abbrev pub invariant-loop-doc : goal.invariant-loop-doc
invariant-loop-doc l = stamped l.impact (drop l.doc-index l.docs) l.impacts ≡ stamped l.impact l.docs l.fn.impacts
