use Rattle.book_tests.proofs.version_tests.topics_of_clashes_are_made.Given as goal

abbrev pub ghosts-topics_of_clashes : goal.ghosts-topics_of_clashes
ghosts-topics_of_clashes g a = record { name = a.blank.name; parts = a.blank.parts }
