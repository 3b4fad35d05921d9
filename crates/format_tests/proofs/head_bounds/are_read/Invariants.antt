use Rattle.format_tests.proofs.head_bounds.are_read.Given as goal

abbrev pub ghosts-have_runs : goal.ghosts-have_runs
ghosts-have_runs a = record { name = a.blank.name; parts = a.blank.parts }
