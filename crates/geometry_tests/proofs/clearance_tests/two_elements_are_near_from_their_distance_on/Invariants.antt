use Rattle.geometry_tests.proofs.clearance_tests.two_elements_are_near_from_their_distance_on.Given as goal

abbrev pub ghosts-elements_near : goal.ghosts-elements_near
ghosts-elements_near g a = record { name = a.blank.name; parts = a.blank.parts }
