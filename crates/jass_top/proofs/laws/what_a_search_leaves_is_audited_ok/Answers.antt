use Rattle.jass_top.proofs.AuditedSearch.{accepted, can_be_audited, ok}
use Rattle.jass_top.proofs.laws.what_a_search_leaves_is_audited_ok.Goals as goal

pub returns-clause-accepted : goal.returns-clause-accepted
returns-clause-accepted c = λ index queries run reports search mode files held.
    let can = can_be_audited c.index_files_are_judged.ensures.found c.query_files_are_judged.ensures.found c.ids_of_a_query_file_are_columns.ensures c.terms_of_a_query_file_can_be_asked.ensures index queries run reports search mode files held in
    (_, accepted c.a_search_is_audited_with_yes.ensures.read c.a_search_is_audited_with_yes.ensures.yes c.an_audit_has_one_verdict.ensures index queries run reports search mode files held can)

pub returns-clause-ok : goal.returns-clause-ok
returns-clause-ok c = λ index queries run reports search mode files held inputs input output judged is.
    let can = can_be_audited c.index_files_are_judged.ensures.found c.query_files_are_judged.ensures.found c.ids_of_a_query_file_are_columns.ensures c.terms_of_a_query_file_can_be_asked.ensures index queries run reports search mode files held in
    ok c.a_search_is_audited_with_yes.ensures.read c.a_search_is_audited_with_yes.ensures.yes c.an_audit_has_one_verdict.ensures index queries run reports search mode files held can inputs output judged is
