use Rattle.shared_lemmas.proofs.Common.{inl, inr, refl}
use Rattle.jass_words.specs.declared.names.Name.TheVariants as names
use Rattle.jass_words.specs.Words.{texts}
use Rattle.jass_words.specs.Private.Reading.{ReadsAs}
use Rattle.jass_words.proofs.Faults.{passed_on}
use Rattle.jass_words.proofs.readers.read_trial.Goals as goal

pub returns-in_default-number_at-3 : goal.returns-in_default-number_at-3
returns-in_default-number_at-3 c = inr (
  c.in-Some.seed,
  c.in-Some.ensures.says,
  inr (c.in-Some-number_at.docs, c.in-Some-number_at.ensures.says, inr (c.in-Some-number_at-2.terms, c.in-Some-number_at-2.ensures.says, inl (c.in_default-number_at-3.ensures.says, refl))),
)

pub returns-in_err-read_end : goal.returns-in_err-read_end
returns-in_err-read_end c = passed_on (ReadsAs names.Trial (texts c.args.words.now)) c.from_residual.result c.in_err-read_end.field-0.0 c.from_residual.ensures.1 (inr (
  c.in-Some.seed,
  c.in-Some.ensures.says,
  inr (
    c.in-Some-number_at.docs,
    c.in-Some-number_at.ensures.says,
    inr (c.in-Some-number_at-2.terms, c.in-Some-number_at-2.ensures.says, inr (c.in-Some-number_at-3.queries, c.in-Some-number_at-3.ensures.says, c.in_err-read_end.ensures.fault)),
  ),
))
