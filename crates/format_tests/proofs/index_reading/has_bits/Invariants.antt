use Rattle.format_tests.proofs.index_reading.has_bits.Given as goal

abbrev pub ghosts-gives_bits : goal.ghosts-gives_bits
ghosts-gives_bits a = record { name = a.blank.name; parts = a.blank.parts }
