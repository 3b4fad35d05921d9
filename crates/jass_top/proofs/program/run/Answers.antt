use Rattle.std.proofs.Common.{refl, sym, subst}
use Rattle.jass_top.proofs.Below.{CommandData, texts, command_data}
use Rattle.jass_top.specs.declared.status.Status.{Status}
use Rattle.jass_top.specs.declared.status.Status.TheVariants as status
use Rattle.jass_top.specs.Commands.{meaning_of}
use Rattle.jass_top.specs.Endings.{Ends}
use Rattle.jass_top.specs.Private.Stops.{stop_text}
use Rattle.jass_top.specs.Worlds.{world}
use Rattle.jass_top.proofs.Endings.{ends_done, ends_stopped}
use Rattle.jass_top.proofs.Outputs.{noted}
use Rattle.jass_top.proofs.program.run.Goals as goal

pub returns-in-Err-clause-ends : goal.returns-in-Err-clause-ends
returns-in-Err-clause-ends g c = λ command is. absurd (c.in-Err.ensures.bad_word.none command is)

pub returns-in-Ok-run_command-clause-ends : goal.returns-in-Ok-run_command-clause-ends
returns-in-Ok-run_command-clause-ends g c = λ command said.
    let before = world g.C.Cabinet g.I.Feed g.O.Sink g.E.Sink c.args.files.now c.args.input.now c.args.out.now c.args.notes.now c.args.steps.now in
    let after = world g.C.Cabinet g.I.Feed g.O.Sink g.E.Sink c.run_command.new.files c.run_command.new.input c.run_command.new.out c.args.notes.now c.run_command.new.steps in
    subst (λ (d : CommandData). Ends (meaning_of d) before after status.Done) (c.words_are_one_command.ensures (texts c.args.words.now) (command_data c.in-Ok.command) command c.in-Ok.ensures.command said)
    (ends_done (meaning_of (command_data c.in-Ok.command)) before after c.in-Ok-run_command.ensures refl refl refl)

pub returns-in-Err-run_command-clause-ends : goal.returns-in-Err-run_command-clause-ends
returns-in-Err-run_command-clause-ends g c = λ command said.
    let before = world g.C.Cabinet g.I.Feed g.O.Sink g.E.Sink c.args.files.now c.args.input.now c.args.out.now c.args.notes.now c.args.steps.now in
    let after = world g.C.Cabinet g.I.Feed g.O.Sink g.E.Sink c.run_command.new.files c.run_command.new.input c.run_command.new.out c.put_stop.new.notes c.run_command.new.steps in
    let stop = c.in-Err-run_command.stop in
    subst (λ (d : CommandData). Ends (meaning_of d) before after c.status_of.result) (c.words_are_one_command.ensures (texts c.args.words.now) (command_data c.in-Ok.command) command c.in-Ok.ensures.command said)
    (subst (λ (s : Status). Ends (meaning_of (command_data c.in-Ok.command)) before after s) (sym c.status_of.ensures)
    (ends_stopped (meaning_of (command_data c.in-Ok.command)) before after stop c.in-Err-run_command.ensures
    (noted g.E.Sink.written g.E.Sink.faults g.E.Sink.rest c.args.notes.now c.put_stop.new.notes (stop_text stop) c.put_stop.result c.put_stop.ensures) c.put_stop.ensures.rest_stays))
