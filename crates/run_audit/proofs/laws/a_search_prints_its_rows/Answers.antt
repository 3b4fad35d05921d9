use Rattle.std.proofs.Common.{◌≤◌, ◌^◌, ℕ, length, sym, subst}
use Rattle.index_model.proofs.WellFormed.{well_formed}
use Rattle.index_model.specs.Flat.{numbered_flat}
use Rattle.ranking_model.specs.Plan.{plan_of}
use Rattle.run_audit.proofs.AsPrinted.{search_printed}
use Rattle.run_audit.proofs.Gathered.{flat_is_long}
use Rattle.run_audit.proofs.laws.a_search_prints_its_rows.Goals as goal

pub returns : goal.returns
returns c file queries search view asked =
    let docs = length file.index.names in
    let flat = numbered_flat file.index in
    search_printed file view search asked.tag asked.few c.each_budget_has_its_prefix.ensures.many c.a_plan_has_the_segments_of_its_postings.ensures.docs
    (λ terms are times n. c.scores_stay_small.ensures.scores n (plan_of docs flat terms)
    (c.plans_are_small.ensures docs flat terms (c.the_flat_list_is_flat.ensures.numbers file.index (well_formed file.index view.index)) are times (subst (λ (n : ℕ). n ≤ 2 ^ 29) (sym (flat_is_long file.index)) view.postings)))
    queries asked.ids asked.terms
