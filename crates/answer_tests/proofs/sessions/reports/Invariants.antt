use Rattle.answer_tests.proofs.sessions.reports.Given as goal

abbrev pub ghosts-granted : goal.ghosts-granted
ghosts-granted a = record { name = a.blank.name; parts = a.blank.parts }
