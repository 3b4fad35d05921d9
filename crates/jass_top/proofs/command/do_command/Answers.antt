use Rattle.std.proofs.Common.{◌≡◌, List, sym, subst}
use Rattle.jass_words.specs.Grants.{granted}
use Rattle.jass_top.proofs.Below.{Budget, Command, command_data}
use Rattle.jass_top.specs.Commands.{meaning_of}
use Rattle.jass_top.specs.Private.Causes.{Runs}
use Rattle.jass_top.specs.SearchMeaning.{search_meaning, search_until, search_within}
use Rattle.jass_top.specs.ShardsMeaning.{shards_meaning}
use Rattle.jass_words.specs.Words.{texts}
use Rattle.jass_top.specs.Worlds.{outer}
use Rattle.jass_top.proofs.command.do_command.Goals as goal

pub returns-in-Rewrite-clause-runs : goal.returns-in-Rewrite-clause-runs
returns-in-Rewrite-clause-runs g c =
    let before = outer g.C.Cabinet g.I.Feed g.O.Sink c.args.files.now c.args.input.now c.args.out.now c.args.steps.now in
    let after = outer g.C.Cabinet g.I.Feed g.O.Sink c.run_rewrite.new.files c.args.input.now c.args.out.now c.args.steps.now in
    subst (λ (command : Command). Runs (meaning_of (command_data command)) before after c.run_rewrite.result) (sym c.in-Rewrite.is) (c.run_rewrite.ensures.runs before)

pub returns-in-Help-clause-runs : goal.returns-in-Help-clause-runs
returns-in-Help-clause-runs g c =
    let before = outer g.C.Cabinet g.I.Feed g.O.Sink c.args.files.now c.args.input.now c.args.out.now c.args.steps.now in
    let after = outer g.C.Cabinet g.I.Feed g.O.Sink c.args.files.now c.args.input.now c.run_help.new.out c.args.steps.now in
    subst (λ (command : Command). Runs (meaning_of (command_data command)) before after c.run_help.result) (sym c.in-Help.is) (c.run_help.ensures before)

pub returns-in-Version-clause-runs : goal.returns-in-Version-clause-runs
returns-in-Version-clause-runs g c =
    let before = outer g.C.Cabinet g.I.Feed g.O.Sink c.args.files.now c.args.input.now c.args.out.now c.args.steps.now in
    let after = outer g.C.Cabinet g.I.Feed g.O.Sink c.args.files.now c.args.input.now c.run_version.new.out c.args.steps.now in
    subst (λ (command : Command). Runs (meaning_of (command_data command)) before after c.run_version.result) (sym c.in-Version.is) (c.run_version.ensures before)

pub returns-in-Import-clause-runs : goal.returns-in-Import-clause-runs
returns-in-Import-clause-runs g c =
    let before = outer g.C.Cabinet g.I.Feed g.O.Sink c.args.files.now c.args.input.now c.args.out.now c.args.steps.now in
    let after = outer g.C.Cabinet g.I.Feed g.O.Sink c.run_import.new.files c.args.input.now c.run_import.new.out c.args.steps.now in
    subst (λ (command : Command). Runs (meaning_of (command_data command)) before after c.run_import.result) (sym c.in-Import.is) (c.run_import.ensures.runs before)

pub returns-in-Check-clause-runs : goal.returns-in-Check-clause-runs
returns-in-Check-clause-runs g c =
    let before = outer g.C.Cabinet g.I.Feed g.O.Sink c.args.files.now c.args.input.now c.args.out.now c.args.steps.now in
    let after = outer g.C.Cabinet g.I.Feed g.O.Sink c.run_check.new.files c.args.input.now c.run_check.new.out c.args.steps.now in
    subst (λ (command : Command). Runs (meaning_of (command_data command)) before after c.run_check.result) (sym c.in-Check.is) (c.run_check.ensures.runs before)

pub returns-in-Export-clause-runs : goal.returns-in-Export-clause-runs
returns-in-Export-clause-runs g c =
    let before = outer g.C.Cabinet g.I.Feed g.O.Sink c.args.files.now c.args.input.now c.args.out.now c.args.steps.now in
    let after = outer g.C.Cabinet g.I.Feed g.O.Sink c.run_export.new.files c.args.input.now c.args.out.now c.run_export.new.steps in
    subst (λ (command : Command). Runs (meaning_of (command_data command)) before after c.run_export.result) (sym c.in-Export.is) (c.run_export.ensures.runs before)

pub returns-in-Migrate-clause-runs : goal.returns-in-Migrate-clause-runs
returns-in-Migrate-clause-runs g c =
    let before = outer g.C.Cabinet g.I.Feed g.O.Sink c.args.files.now c.args.input.now c.args.out.now c.args.steps.now in
    let after = outer g.C.Cabinet g.I.Feed g.O.Sink c.run_migrate.new.files c.args.input.now c.run_migrate.new.out c.args.steps.now in
    subst (λ (command : Command). Runs (meaning_of (command_data command)) before after c.run_migrate.result) (sym c.in-Migrate.is) (c.run_migrate.ensures.runs before)

pub returns-in-Once-clause-runs : goal.returns-in-Once-clause-runs
returns-in-Once-clause-runs g c =
    let before = outer g.C.Cabinet g.I.Feed g.O.Sink c.args.files.now c.args.input.now c.args.out.now c.args.steps.now in
    let after = outer g.C.Cabinet g.I.Feed g.O.Sink c.run_once.new.files c.args.input.now c.run_once.new.out c.run_once.new.steps in
    subst (λ (command : Command). Runs (meaning_of (command_data command)) before after c.run_once.result) (sym c.in-Once.is) (c.run_once.ensures.runs before)

pub returns-in-Search-clause-runs : goal.returns-in-Search-clause-runs
returns-in-Search-clause-runs g c =
    let before = outer g.C.Cabinet g.I.Feed g.O.Sink c.args.files.now c.args.input.now c.args.out.now c.args.steps.now in
    let after = outer g.C.Cabinet g.I.Feed g.O.Sink c.run_search.new.files c.args.input.now c.run_search.new.out c.run_search.new.steps in
    let is : c.as_slice.result.now ≡ granted c.in-Search.budgets = c.as_slice.ensures.items in
    subst (λ (command : Command). Runs (meaning_of (command_data command)) before after c.run_search.result) (sym c.in-Search.is)
    (subst (λ (budgets : List Budget). Runs (search_meaning c.in-Search.index.now c.in-Search.queries.now c.in-Search.run'.now (search_until c.in-Search.until c.in-Search.asked.k budgets c.in-Search.asked.tag.now) c.in-Search.asked.mode) before after c.run_search.result)
    is (c.run_search.ensures.runs before))

pub returns-in-Trial-clause-runs : goal.returns-in-Trial-clause-runs
returns-in-Trial-clause-runs g c =
    let before = outer g.C.Cabinet g.I.Feed g.O.Sink c.args.files.now c.args.input.now c.args.out.now c.args.steps.now in
    let after = outer g.C.Cabinet g.I.Feed g.O.Sink c.args.files.now c.args.input.now c.run_trial.new.out c.run_trial.new.steps in
    subst (λ (command : Command). Runs (meaning_of (command_data command)) before after c.run_trial.result) (sym c.in-Trial.is) (c.run_trial.ensures before)

pub returns-in-Audit-clause-runs : goal.returns-in-Audit-clause-runs
returns-in-Audit-clause-runs g c =
    let before = outer g.C.Cabinet g.I.Feed g.O.Sink c.args.files.now c.args.input.now c.args.out.now c.args.steps.now in
    let after = outer g.C.Cabinet g.I.Feed g.O.Sink c.run_audit_command.new.files c.args.input.now c.run_audit_command.new.out c.run_audit_command.new.steps in
    subst (λ (command : Command). Runs (meaning_of (command_data command)) before after c.run_audit_command.result) (sym c.in-Audit.is) (c.run_audit_command.ensures.runs before)

pub returns-in-Shards-clause-runs : goal.returns-in-Shards-clause-runs
returns-in-Shards-clause-runs g c =
    let before = outer g.C.Cabinet g.I.Feed g.O.Sink c.args.files.now c.args.input.now c.args.out.now c.args.steps.now in
    let after = outer g.C.Cabinet g.I.Feed g.O.Sink c.run_shards.new.files c.args.input.now c.run_shards.new.out c.run_shards.new.steps in
    let shards = c.in-Shards.shards in
    let is : c.as_slice-in-Shards.result.now ≡ granted shards.budgets = c.as_slice-in-Shards.ensures.items in
    subst (λ (command : Command). Runs (meaning_of (command_data command)) before after c.run_shards.result) (sym c.in-Shards.is)
    (subst (λ (budgets : List Budget). Runs (shards_meaning (texts shards.indexes.now) shards.queries.now shards.run.now (search_within shards.asked.k budgets shards.asked.tag.now) shards.asked.mode) before after c.run_shards.result)
    is (c.run_shards.ensures.runs before))

pub returns-in-Exhaust-clause-runs : goal.returns-in-Exhaust-clause-runs
returns-in-Exhaust-clause-runs g c =
    let before = outer g.C.Cabinet g.I.Feed g.O.Sink c.args.files.now c.args.input.now c.args.out.now c.args.steps.now in
    let after = outer g.C.Cabinet g.I.Feed g.O.Sink c.run_exhaust.new.files c.args.input.now c.run_exhaust.new.out c.run_exhaust.new.steps in
    subst (λ (command : Command). Runs (meaning_of (command_data command)) before after c.run_exhaust.result) (sym c.in-Exhaust.is) (c.run_exhaust.ensures.runs before)
