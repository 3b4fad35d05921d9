use Rattle.std.proofs.Common.{ℕ, List, sym, subst}
use Rattle.jass_top.specs.declared.search_stop.SearchOutput.TheVariants.{Run}
use Rattle.jass_top.specs.declared.search_stop.SearchStop.TheVariants.{Unwritten}
use Rattle.jass_top.specs.Private.RunFiles.{WroteFile}
use Rattle.jass_top.specs.SearchMeaning.{search_until}
use Rattle.jass_top.specs.SearchTexts.{search_output}
use Rattle.jass_top.specs.Private.SearchRuns.{asked_of}
use Rattle.jass_top.proofs.RunFiles.{wrote_file}
use Rattle.jass_top.proofs.Untouched.{no_file, no_text, not_stepped}
use Rattle.jass_top.proofs.search_file.write_search.Goals as goal

pub returns-clause-run : goal.returns-clause-run
returns-clause-run g c =
    let text : List ℕ = (search_output (g.S.Source.index c.args.source.now) (search_until c.args.until c.args.k c.args.budgets.now c.args.tag.now) (asked_of c.args.queries)).content in
    subst (λ files. WroteFile g.C.Cabinet.told g.C.Cabinet.write_faults (Unwritten Run) c.args.files.now files c.args.name.now text c.search_behind-searched.result) (sym (c.files-1.given.1 (sym c.search_behind-searched.ensures.same_reference)))
    (wrote_file c.args.files.now c.create.new.self c.search_behind-searched.new.sink.files.now c.args.name.now text c.search_behind-searched.result c.in-Ok-create.ensures.content c.in-Ok-create.ensures.cause.later c.search_behind-searched.ensures.run)

pub returns-in-Err-clause-steps : goal.returns-in-Err-clause-steps
returns-in-Err-clause-steps g c = not_stepped c.args.steps.now (search_output (g.S.Source.index c.args.source.now) (search_until c.args.until c.args.k c.args.budgets.now c.args.tag.now) (asked_of c.args.queries)).steps

pub returns-in-Err-clause-run : goal.returns-in-Err-clause-run
returns-in-Err-clause-run g c = no_file c.args.files.now _ _ (λ is. cc)

pub returns-in-Err-clause-out : goal.returns-in-Err-clause-out
returns-in-Err-clause-out g c = no_text c.args.out.now _ (λ is. cc)

pub returns-in-Err-create-clause-steps : goal.returns-in-Err-create-clause-steps
returns-in-Err-create-clause-steps g c = not_stepped c.args.steps.now (search_output (g.S.Source.index c.args.source.now) (search_until c.args.until c.args.k c.args.budgets.now c.args.tag.now) (asked_of c.args.queries)).steps

pub returns-in-Err-create-clause-out : goal.returns-in-Err-create-clause-out
returns-in-Err-create-clause-out g c = no_text c.args.out.now _ (λ is. cc)

pub returns-clause-steps : goal.returns-clause-steps
returns-clause-steps g c = c.search_behind-searched.ensures.steps

pub returns-clause-out : goal.returns-clause-out
returns-clause-out g c = c.search_behind-searched.ensures.out
