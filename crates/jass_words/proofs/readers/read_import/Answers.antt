use Rattle.shared_lemmas.proofs.Common.{sym, subst}
use Rattle.weights.specs.Quantizing.{IsImpactWidth}
use Rattle.jass_words.proofs.Limits.{width_within}
use Rattle.jass_words.proofs.readers.read_import.Goals as goal

pub invariant_of-result-clause-width : goal.invariant_of-result-clause-width
invariant_of-result-clause-width c = subst IsImpactWidth (sym c.unwrap_or-in-Ok.ensures) (width_within _ _ c.in-Ok.options c.in-Ok.ensures.options)
