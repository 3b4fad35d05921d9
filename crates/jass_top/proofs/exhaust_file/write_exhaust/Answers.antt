use Rattle.std.proofs.Common.{ℕ, List, sym, subst}
use Rattle.jass_top.specs.declared.search_stop.SearchOutput.TheVariants.{Run}
use Rattle.jass_top.specs.declared.search_stop.SearchStop.TheVariants.{Unwritten}
use Rattle.jass_top.specs.Private.RunFiles.{WroteFile}
use Rattle.jass_top.specs.ExhaustMeaning.{exhaustive_runs, postings_of_queries}
use Rattle.jass_top.specs.Private.SearchRuns.{asked_of}
use Rattle.jass_top.proofs.RunFiles.{wrote_file}
use Rattle.jass_top.proofs.Untouched.{no_text, not_stepped}
use Rattle.jass_top.proofs.exhaust_file.write_exhaust.Goals as goal

pub returns-clause-run : goal.returns-clause-run
returns-clause-run g c =
    let text : List ℕ = exhaustive_runs (g.S.Source.index c.args.source.now) c.args.k c.args.tag.now (asked_of c.args.queries) in
    subst (λ files. WroteFile g.C.Cabinet.told g.C.Cabinet.write_faults (Unwritten Run) c.args.files.now files c.args.name.now text c.exhaust_behind-searched.result) (sym (c.files-1.given.1 (sym c.exhaust_behind-searched.ensures.same_reference)))
    (wrote_file c.args.files.now c.create.new.self c.exhaust_behind-searched.new.sink.files.now c.args.name.now text c.exhaust_behind-searched.result c.in-Ok.ensures.content c.in-Ok.ensures.cause.later c.exhaust_behind-searched.ensures.run)

pub returns-in-Err-clause-steps : goal.returns-in-Err-clause-steps
returns-in-Err-clause-steps g c = not_stepped c.args.steps.now (postings_of_queries (g.S.Source.index c.args.source.now) (asked_of c.args.queries))

pub returns-in-Err-clause-out : goal.returns-in-Err-clause-out
returns-in-Err-clause-out g c = no_text c.args.out.now _ (λ is. cc)

pub returns-clause-steps : goal.returns-clause-steps
returns-clause-steps g c = c.exhaust_behind-searched.ensures.steps

pub returns-clause-out : goal.returns-clause-out
returns-clause-out g c = c.exhaust_behind-searched.ensures.out
