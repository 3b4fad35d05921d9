use Rattle.format_tests.proofs.index_reading.weight.Given as goal

abbrev pub ghosts-weighed : goal.ghosts-weighed
ghosts-weighed a = record { name = a.blank.name; parts = a.blank.parts }
