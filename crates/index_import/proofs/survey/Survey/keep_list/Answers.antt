-- A list without postings is passed over, another one is kept.
use Rattle.shared_lemmas.proofs.Common.{arith, inl, inr, nat_tests, refl}
use Rattle.index_import.proofs.survey.Survey.keep_list.Goals as goal

pub returns-then-is_empty-clause-lists : goal.returns-then-is_empty-clause-lists
returns-then-is_empty-clause-lists c = inl (grind (arith, nat_tests), refl)

pub returns-clause-lists : goal.returns-clause-lists
returns-clause-lists c =
    let e = c.new-entry.ensures in
    inr (c.new-entry.result.0, record { term = e.term; placed = e.at; count = e.count; most = e.most; kept = e.kept }, c.in_ok-push.ensures.items)
