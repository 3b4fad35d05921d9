use Rattle.std.proofs.Common.{None, refl}
use Rattle.jass_top.proofs.Below.{Tf, Raw, collection_data, collection_index}
use Rattle.jass_top.specs.Judging.{judge_ciff}
use Rattle.jass_top.specs.OnceMeaning.{IsOnceOutput}
use Rattle.jass_top.specs.Private.OnceTexts.{once_index, once_of}
use Rattle.jass_top.specs.Private.Worlds.{with_files, with_output, with_steps}
use Rattle.jass_top.specs.Standing.{OfOutput, TextPart}
use Rattle.jass_top.proofs.Making.{HasRead, carry_answer, made_runs}
use Rattle.jass_top.proofs.once.run_once.Goals as goal

pub returns-clause-runs : goal.returns-clause-runs
returns-clause-runs g c = λ beside.
    let collection = collection_data c.in_ok-collection.collection in
    let IsOutput = IsOnceOutput (once_of c.args.question) in
    let before = with_output g.O.Sink c.args.out.now (with_files g.C.Cabinet c.args.files.now (with_steps c.args.steps.now beside)) in
    let mid = with_output g.O.Sink c.args.out.now (with_files g.C.Cabinet c.read_file.new.files (with_steps c.args.steps.now beside)) in
    let after = with_output g.O.Sink c.ask_collection.new.out (with_files g.C.Cabinet c.read_file.new.files (with_steps c.ask_collection.new.steps beside)) in
    let read : HasRead before mid = record {
      told = c.in_ok-collection.ensures.stays;
      written = refl;
      left = refl;
      steps = refl;
      out_faults = refl;
      feed_faults = refl;
      out_rest = refl;
      read_faults = c.in_ok-collection.ensures.later;
      write_faults = c.in_ok-collection.ensures.others;
    } in
    made_runs c.args.question.ciff.now None IsOutput (OfOutput IsOutput TextPart) (judge_ciff c.args.question.ciff.now) (collection_index Tf Raw) collection (once_index collection) refl before mid after read
    c.in_ok-collection.ensures.accepted (carry_answer before mid after read IsOutput) c.ask_collection.result (c.ask_collection.ensures mid)
