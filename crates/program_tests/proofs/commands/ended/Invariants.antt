use Rattle.program_tests.proofs.commands.ended.Given as goal

abbrev pub ghosts-ended_by : goal.ghosts-ended_by
ghosts-ended_by g a = record { name = a.blank.name; parts = a.blank.parts }
