use Rattle.std.proofs.Common.{[], ◌∷◌, refl, ap, subst, inl, inr, ◌∙◌}
use Rattle.jass_top.proofs.Below.{Sets, Rose-earlier}
use Rattle.jass_top.specs.declared.search_stop.SearchStop.TheVariants.{Unwritten}
use Rattle.jass_top.specs.SearchMeaning.{judge_search_until, search_until}
use Rattle.jass_top.specs.SearchTexts.{search_output}
use Rattle.jass_top.specs.Private.SearchRuns.{asked_of}
use Rattle.jass_top.specs.Private.Worlds.{with_files, with_output, with_steps}
use Rattle.jass_top.proofs.Searched.{all_named, exact_for, part_left}
use Rattle.jass_top.proofs.Stopping.{ran_on_both}
use Rattle.jass_top.proofs.search.run_search.Goals as goal

pub returns-in-Ok-clause-runs : goal.returns-in-Ok-clause-runs
returns-in-Ok-clause-runs g c = λ beside.
    let index = c.in_ok-file.file.index in let asked = asked_of c.in_ok-file.found in
    let output = search_output index (search_until c.args.until c.args.asked.k c.args.budgets.now c.args.asked.tag.now) asked in
    ran_on_both refl refl refl refl refl c.in-Ok.ensures.out.rest_stays (record {
      inputs = c.in_ok-file.ensures.accepted.input;
      input = [];
      output = output;
      accepted = c.in_ok-file.ensures.accepted.accepted;
      had = λ feeds. cc;
      exact = exact_for c.a_search_leaves_its_output.ensures.at_stops index (search_until c.args.until c.args.asked.k c.args.budgets.now c.args.asked.tag.now) asked c.in_ok-file.ensures.accepted.input c.is_searchable.ensures (all_named c.args.until c.in_ok-file.found) c.in_ok-file.ensures.accepted.holds;
      left = record {
        content = subst (λ told. Sets told (g.C.Cabinet.told c.write_search.new.files) c.args.run.now output.content) c.in_ok-file.ensures.stays c.in-Ok.ensures.run.content;
        text = c.in-Ok.ensures.out.bytes;
        steps = c.in-Ok.ensures.steps;
      };
    })

pub returns-in-Err-NoMemory-clause-runs : goal.returns-in-Err-NoMemory-clause-runs
returns-in-Err-NoMemory-clause-runs g c = λ beside.
    ran_on_both refl refl refl refl refl c.in-Err-NoMemory.ensures.out.rest_stays (inr (
    part_left c.a_search_leaves_its_output.ensures.at_stops (c.args.index.now ∷ c.args.queries.now ∷ []) (judge_search_until c.args.until c.args.index.now c.args.queries.now c.args.asked.mode) c.args.run.now (search_until c.args.until c.args.asked.k c.args.budgets.now c.args.asked.tag.now)
    c.in_ok-file.file.index (asked_of c.in_ok-file.found) (g.C.Cabinet.told c.open_search.new.files)
    (with_output g.O.Sink c.args.out.now (with_files g.C.Cabinet c.args.files.now (with_steps c.args.steps.now beside))) (with_output g.O.Sink c.write_search.new.out (with_files g.C.Cabinet c.write_search.new.files (with_steps c.write_search.new.steps beside)))
    c.is_searchable.ensures (all_named c.args.until c.in_ok-file.found) c.in_ok-file.ensures.stays c.in_ok-file.ensures.accepted c.in-Err-NoMemory.ensures.run.content c.in-Err-NoMemory.ensures.out.bytes c.in-Err-NoMemory.ensures.steps
    ))

pub returns-in-Err-Unwritten-Run-clause-runs : goal.returns-in-Err-Unwritten-Run-clause-runs
returns-in-Err-Unwritten-Run-clause-runs g c = λ beside. ran_on_both refl refl refl refl refl c.in-Err-Unwritten-Run.ensures.out.rest_stays (
  inr (
    refl,
    Rose-earlier (g.C.Cabinet.write_faults c.args.files.now) (g.C.Cabinet.write_faults c.open_search.new.files) (g.C.Cabinet.write_faults c.write_search.new.files) c.in_ok-file.ensures.others
        (c.in-Err-Unwritten-Run.ensures.run.failed (c.in-Err-Unwritten-Run.field-0-is ∙ ap Unwritten c.in-Err-Unwritten-Run.field-0-0-is)),
  ),
  part_left c.a_search_leaves_its_output.ensures.at_stops (c.args.index.now ∷ c.args.queries.now ∷ []) (judge_search_until c.args.until c.args.index.now c.args.queries.now c.args.asked.mode) c.args.run.now (search_until c.args.until c.args.asked.k c.args.budgets.now c.args.asked.tag.now)
      c.in_ok-file.file.index (asked_of c.in_ok-file.found) (g.C.Cabinet.told c.open_search.new.files)
      (with_output g.O.Sink c.args.out.now (with_files g.C.Cabinet c.args.files.now (with_steps c.args.steps.now beside))) (with_output g.O.Sink c.write_search.new.out (with_files g.C.Cabinet c.write_search.new.files (with_steps c.write_search.new.steps beside)))
      c.is_searchable.ensures (all_named c.args.until c.in_ok-file.found) c.in_ok-file.ensures.stays c.in_ok-file.ensures.accepted c.in-Err-Unwritten-Run.ensures.run.content c.in-Err-Unwritten-Run.ensures.out.bytes c.in-Err-Unwritten-Run.ensures.steps,
)

pub returns-in-Err-Unwritten-Reports-clause-runs : goal.returns-in-Err-Unwritten-Reports-clause-runs
returns-in-Err-Unwritten-Reports-clause-runs g c = λ beside. ran_on_both refl refl refl refl refl c.in-Err-Unwritten-Reports.ensures.out.rest_stays (
  inl (refl, refl, c.in-Err-Unwritten-Reports.ensures.out.failed (c.in-Err-Unwritten-Reports.field-0-is ∙ ap Unwritten c.in-Err-Unwritten-Reports.field-0-0-is)),
  part_left c.a_search_leaves_its_output.ensures.at_stops (c.args.index.now ∷ c.args.queries.now ∷ []) (judge_search_until c.args.until c.args.index.now c.args.queries.now c.args.asked.mode) c.args.run.now (search_until c.args.until c.args.asked.k c.args.budgets.now c.args.asked.tag.now)
      c.in_ok-file.file.index (asked_of c.in_ok-file.found) (g.C.Cabinet.told c.open_search.new.files)
      (with_output g.O.Sink c.args.out.now (with_files g.C.Cabinet c.args.files.now (with_steps c.args.steps.now beside))) (with_output g.O.Sink c.write_search.new.out (with_files g.C.Cabinet c.write_search.new.files (with_steps c.write_search.new.steps beside)))
      c.is_searchable.ensures (all_named c.args.until c.in_ok-file.found) c.in_ok-file.ensures.stays c.in_ok-file.ensures.accepted c.in-Err-Unwritten-Reports.ensures.run.content c.in-Err-Unwritten-Reports.ensures.out.bytes c.in-Err-Unwritten-Reports.ensures.steps,
)
