use Rattle.jass.proofs.tests.exits.Given as goal

abbrev pub ghosts-exit_by : goal.ghosts-exit_by
ghosts-exit_by a = record { name = a.blank.name; parts = a.blank.parts }
