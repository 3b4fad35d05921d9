use Rattle.answer_tests.proofs.desks.answered.Given as goal

abbrev pub ghosts-both_answered : goal.ghosts-both_answered
ghosts-both_answered g a = record { name = a.blank.name; parts = a.blank.parts }
