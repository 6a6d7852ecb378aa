use Rattle.book_tests.proofs.version_tests.a_bucket_is_brought_once.Given as goal

abbrev pub ghosts-each_late : goal.ghosts-each_late
ghosts-each_late g a = record { name = a.blank.name; parts = a.blank.parts }
