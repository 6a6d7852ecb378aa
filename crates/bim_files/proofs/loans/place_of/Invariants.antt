use Rattle.std.proofs.Common.{◌≡◌, All, take, false}
use Rattle.bim_files.specs.declared.loans.MemFile.{MemFile}
use Rattle.bim_files.specs.MemoryFiles.{has_name}
use Rattle.bim_files.proofs.loans.place_of.Given as goal

abbrev pub invariant-places : goal.invariant-places
invariant-places l = All (λ (file : MemFile). has_name l.name file ≡ false) (take l.place l.files)
