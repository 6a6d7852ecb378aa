use Rattle.base_tests.proofs.model_tests.steps_are_counted.Given as goal

abbrev pub ghosts-count_two_steps : goal.ghosts-count_two_steps
ghosts-count_two_steps g a = record { name = a.blank.name; parts = a.blank.parts }
