use Rattle.answer_tests.proofs.cursors.check_heads.Given as goal

abbrev pub ghosts-started : goal.ghosts-started
ghosts-started g a = record { name = a.blank.name; parts = a.blank.parts }
