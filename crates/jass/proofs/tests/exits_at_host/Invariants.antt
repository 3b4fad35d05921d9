use Rattle.jass.proofs.tests.exits_at_host.Given as goal

abbrev pub ghosts-host_exit : goal.ghosts-host_exit
ghosts-host_exit a = record { name = a.blank.name; parts = a.blank.parts }
