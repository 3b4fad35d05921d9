use Rattle.std.proofs.Common.{◌≡◌, None, subst}
use Rattle.std.specs.List.{find}
use Rattle.jass_top.specs.QueryJudging.{has_many, with_lines}
use Rattle.jass_top.specs.Private.SearchRuns.{asked_of}
use Rattle.jass_top.proofs.ManyTerms.{all_may_stop, none_found}
use Rattle.jass_top.proofs.queries_input.queries_until.Goals as goal

pub returns-in-None-clause-few_terms : goal.returns-in-None-clause-few_terms
returns-in-None-clause-few_terms g c =
    let had = c.in-Ok.ensures.accepted in
    all_may_stop c.args.until c.in-Ok.queries had.input _ had.holds
    (subst (λ queries. find has_many (with_lines c.args.bytes.now (asked_of queries)) ≡ None) c.as_slice.ensures (none_found _ c.in-None.ensures))
