use Rattle.format_tests.proofs.exporting.is_exported.Given as goal

abbrev pub ghosts-exports : goal.ghosts-exports
ghosts-exports g a = record { name = a.blank.name; parts = a.blank.parts }
