use Rattle.clash_check.proofs.version_check.published.Given as goal

abbrev pub ghosts-sets_of : goal.ghosts-sets_of
ghosts-sets_of a = record { name = a.blank.name; parts = a.blank.parts }
