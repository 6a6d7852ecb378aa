use Rattle.book_tests.proofs.version_tests.what_stays_is_carried.Given as goal

abbrev pub ghosts-what_stays : goal.ghosts-what_stays
ghosts-what_stays g a = record { name = a.blank.name; parts = a.blank.parts }
