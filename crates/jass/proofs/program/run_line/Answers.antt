use Rattle.std.proofs.Common.{inl, List, sym, subst}
use Rattle.std.specs.Prelude.{String}
use Rattle.std.specs.declared.alloc.Global.{Global}
use Rattle.jass_words.specs.Words.{texts}
use Rattle.jass.specs.CommandLine.{AreWords}
use Rattle.jass.proofs.program.run_line.Goals as goal

pub returns : goal.returns
returns g c = inl (record {
  words = texts c.as_slice.result.now;
  ended = c.run-status.result;
  line = subst (λ (words : List (String Global)). AreWords (g.A.Arguments.told c.args.arguments.now) (texts words)) (sym c.as_slice.ensures.value) c.in-Ok.ensures;
  number = c.number-2.ensures;
  command = c.run-status.ensures.command;
  bad = c.run-status.ensures.words;
  ends = c.run-status.ensures.ends;
})
