use Rattle.std.proofs.Common.{◌≡◌, Some, refl, sym, ap, ◌∙◌}
use Rattle.std.specs.Option.{option_map}
use Rattle.jass_top.proofs.Below.{command_data}
use Rattle.jass_top.specs.Commands.{meaning_of}
use Rattle.jass_top.specs.Worlds.{outer}
use Rattle.jass_top.proofs.Finished.{StandsSame, finished, taken_after, untouched_after, unwritten}
use Rattle.jass_top.proofs.command.run_command.Goals as goal

pub returns-in-Ok-finish : goal.returns-in-Ok-finish
returns-in-Ok-finish g c =
    let command = command_data c.args.command in
    let before = outer g.C.Cabinet g.I.Feed g.O.Sink c.args.files.now c.args.input.now c.args.out.now c.args.steps.now in
    let mid = outer g.C.Cabinet g.I.Feed g.O.Sink c.do_command.new.files c.do_command.new.input c.do_command.new.out c.do_command.new.steps in
    let after = outer g.C.Cabinet g.I.Feed g.O.Sink c.finish.new.self c.do_command.new.input c.do_command.new.out c.do_command.new.steps in
    let file : (meaning_of command).file ≡ Some c.in-Some.name.now = sym c.written_by-file.ensures ∙ ap (option_map (λ name. name.now)) c.in-Some.is in
    let same : StandsSame mid after = record { told = c.finish.ensures.stays; written = refl; left = refl; steps = refl; out_faults = refl; feed_faults = refl; out_rest = refl } in
    finished command c.in-Some.name.now before mid after file same c.in-Ok.ensures.runs

pub returns-in-Err-finish : goal.returns-in-Err-finish
returns-in-Err-finish g c =
    let command = command_data c.args.command in
    let before = outer g.C.Cabinet g.I.Feed g.O.Sink c.args.files.now c.args.input.now c.args.out.now c.args.steps.now in
    let mid = outer g.C.Cabinet g.I.Feed g.O.Sink c.do_command.new.files c.do_command.new.input c.do_command.new.out c.do_command.new.steps in
    let after = outer g.C.Cabinet g.I.Feed g.O.Sink c.finish.new.self c.do_command.new.input c.do_command.new.out c.do_command.new.steps in
    let file : (meaning_of command).file ≡ Some c.in-Some.name.now = sym c.written_by-file.ensures ∙ ap (option_map (λ name. name.now)) c.in-Some.is in
    let same : StandsSame mid after = record { told = c.finish.ensures.stays; written = refl; left = refl; steps = refl; out_faults = refl; feed_faults = refl; out_rest = refl } in
    record {
      came = unwritten command c.in-Some.name.now before mid after file same c.in-Ok.ensures.runs c.do_command.ensures.later c.in-Err-finish.ensures.cause.failed;
      untouched = untouched_after command c.in-Some.name.now before mid after file same c.in-Ok.ensures.runs;
      taken = taken_after command c.in-Some.name.now before mid after file same c.in-Ok.ensures.runs;
    }
