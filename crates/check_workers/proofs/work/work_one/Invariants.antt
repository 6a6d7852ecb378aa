use Rattle.check_workers.proofs.work.work_one.Given as goal

-- the steps are counted against the blank that the call makes
abbrev pub ghosts-set_of : goal.ghosts-set_of
ghosts-set_of g a = record { name = a.blank.name; parts = a.blank.parts }
