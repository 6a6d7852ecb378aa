use Rattle.book_tests.proofs.version_tests.what_changed_is_checked.Given as goal

abbrev pub ghosts-what_changed : goal.ghosts-what_changed
ghosts-what_changed g a = record { name = a.blank.name; parts = a.blank.parts }
