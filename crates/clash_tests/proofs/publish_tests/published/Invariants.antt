use Rattle.clash_tests.proofs.publish_tests.published.Given as goal

abbrev pub ghosts-sets : goal.ghosts-sets
ghosts-sets g a = record { name = a.blank.name; parts = a.blank.parts }
