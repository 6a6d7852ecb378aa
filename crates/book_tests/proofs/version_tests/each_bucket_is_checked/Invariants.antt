use Rattle.book_tests.proofs.version_tests.each_bucket_is_checked.Given as goal

abbrev pub ghosts-each_once : goal.ghosts-each_once
ghosts-each_once g a = record { name = a.blank.name; parts = a.blank.parts }
