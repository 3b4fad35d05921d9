-- A settled answer is kept, and one of the two grades of a pair says so where the other says that it isn't.
use Rattle.std.proofs.Common.{◌≡◌, refl}
use Rattle.jass_base.specs.declared.answer.Grade.{Grade}
use Rattle.jass_base.specs.declared.answer.Grade.TheVariants.{Final, Set, Open}
use Rattle.ranking_model.specs.Finality.{IsGradeOf}
use Rattle.ranking_model.proofs.Promises.{settled_is_kept}
use Rattle.ranking_model.proofs.laws.the_grade_is_one.Goals as goal

one : (settled kept : Type 0) (first second : Grade) → IsGradeOf settled kept first → IsGradeOf settled kept second → first ≡ second
one settled kept Final Final a b = refl
one settled kept Final Set a b = absurd (b.1 a)
one settled kept Final Open a b = absurd (b.0 a)
one settled kept Set Final a b = absurd (a.1 b)
one settled kept Set Set a b = refl
one settled kept Set Open a b = absurd (b.1 a.0)
one settled kept Open Final a b = absurd (a.0 b)
one settled kept Open Set a b = absurd (a.1 b.0)
one settled kept Open Open a b = refl

pub returns-clause-one : goal.returns-clause-one
returns-clause-one c = λ scores k bound. one _ _

pub returns-clause-kept : goal.returns-clause-kept
returns-clause-kept c = settled_is_kept

pub returns-clause-one_within : goal.returns-clause-one_within
returns-clause-one_within c = λ scores limits k. one _ _
