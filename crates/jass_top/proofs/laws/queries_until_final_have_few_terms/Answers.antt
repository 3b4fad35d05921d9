use Rattle.jass_top.proofs.ManyTerms.{found_until, many_until, only_until, refused_until}
use Rattle.jass_top.proofs.laws.queries_until_final_have_few_terms.Goals as goal

pub returns-clause-found : goal.returns-clause-found
returns-clause-found c = found_until

pub returns-clause-only : goal.returns-clause-only
returns-clause-only c = only_until

pub returns-clause-many : goal.returns-clause-many
returns-clause-many c = many_until

pub returns-clause-refused : goal.returns-clause-refused
returns-clause-refused c = λ name other mode terms content number at is. refused_until name mode terms content other number at is
