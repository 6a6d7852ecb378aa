use Rattle.book_tests.proofs.version_tests.work_is_given_out_without_testing.Given as goal

abbrev pub ghosts-without_testing : goal.ghosts-without_testing
ghosts-without_testing g a = record { name = a.blank.name; parts = a.blank.parts }
