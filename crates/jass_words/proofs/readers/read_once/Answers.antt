use Rattle.shared_lemmas.proofs.Common.{inl, inr, refl}
use Rattle.jass_words.proofs.readers.read_once.Goals as goal

pub returns-in_default-budget_at : goal.returns-in_default-budget_at
returns-in_default-budget_at c = inr (
  c.in-Some.ciff.now,
  c.in-Some.ensures.says,
  inr (c.in-Some-number_at.k, c.in-Some-number_at.ensures.says, inl (c.in_default-budget_at.ensures.says, refl)),
)

pub returns-in-Err : goal.returns-in-Err
returns-in-Err c = inr (
  c.in-Some.ciff.now,
  c.in-Some.ensures.says,
  inr (c.in-Some-number_at.k, c.in-Some-number_at.ensures.says, inr (c.in-Some-budget_at.budget, c.in-Some-budget_at.ensures.says, c.in-Err.ensures.fault)),
)
