use Rattle.server_commands.proofs.one_thread.OneThread.work_one.Given as goal

abbrev pub ghosts-set_of : goal.ghosts-set_of
ghosts-set_of a = record { name = a.blank.name; parts = a.blank.parts }
