use Rattle.geometry_tests.proofs.piercing_tests.two_elements_pierce_where_two_of_their_triangles_do.Given as goal

abbrev pub ghosts-elements_pierce : goal.ghosts-elements_pierce
ghosts-elements_pierce g a = record { name = a.blank.name; parts = a.blank.parts }
