use Rattle.clash_tests.proofs.delta_tests.unchanged_buckets_are_carried.Given as goal

abbrev pub ghosts-runs : goal.ghosts-runs
ghosts-runs g a = record { name = a.blank.name; parts = a.blank.parts }
