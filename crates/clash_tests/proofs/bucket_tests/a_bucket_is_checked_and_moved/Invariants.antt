use Rattle.clash_tests.proofs.bucket_tests.a_bucket_is_checked_and_moved.Given as goal

abbrev pub ghosts-checked : goal.ghosts-checked
ghosts-checked g a = record { name = a.blank.name; parts = a.blank.parts }
