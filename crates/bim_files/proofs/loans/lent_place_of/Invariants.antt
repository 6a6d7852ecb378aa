use Rattle.std.proofs.Common.{◌≡◌, take}
use Rattle.bim_files.specs.MemoryFiles.{lent_times}
use Rattle.bim_files.proofs.loans.lent_place_of.Given as goal

abbrev pub invariant-places : goal.invariant-places
invariant-places l = lent_times (take l.place l.lent) l.name ≡ 0
