use Rattle.std.proofs.Common.{◌≡◌, map}
use Rattle.bim_files.specs.MemoryFiles.{held}
use Rattle.bim_files.proofs.sure_files.SureFiles.new.Given as goal

abbrev pub invariant-loop-file : goal.invariant-loop-file
invariant-loop-file l = l.held_files.items ≡ map held l.yielded
