use Rattle.std.proofs.Common.{◌≡◌, List, refl, ap, sym, ◌∙◌, Ok, Result}
use Rattle.trec_run.specs.declared.run_line.RunFault.{RunFault}
use Rattle.trec_run.specs.declared.run_line.RunLine.{RunLine}
use Rattle.trec_run.specs.Runs.{run_of}
use Rattle.index_model.specs.Flat.{numbered_flat}
use Rattle.run_audit.specs.Rows.{search_rows}
use Rattle.run_audit.proofs.laws.a_search_is_audited_with_yes.Goals as goal

same_rows : (rows run : List RunLine) → (let r : Result (List RunLine) RunFault = Ok rows in r) ≡ Ok run → run ≡ rows
same_rows rows run is = cc

pub returns-clause-read : goal.returns-clause-read
returns-clause-read c file queries search view asked =
    let flat = numbered_flat file.index in
    ap run_of (c.a_search_writes_its_rows.ensures file.index.names flat queries search)
    ∙ c.printed_rows_are_read.ensures (search_rows file.index.names flat queries search.k search.budgets search.tag) (c.a_search_prints_its_rows.ensures file queries search view asked)

pub returns-clause-yes : goal.returns-clause-yes
returns-clause-yes c file queries search run reports view asked read printed =
    let flat = numbered_flat file.index in
    let rows = search_rows file.index.names flat queries search.k search.budgets search.tag in
    let as_rows = ap run_of (c.a_search_writes_its_rows.ensures file.index.names flat queries search) ∙ c.printed_rows_are_read.ensures rows (c.a_search_prints_its_rows.ensures file queries search view asked) in
    record { text = reports; printed = printed; judged = (refl, same_rows rows run (sym as_rows ∙ read)) }
