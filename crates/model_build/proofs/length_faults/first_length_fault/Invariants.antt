use Rattle.model_build.specs.LengthFaults.{LengthFault}
use Rattle.model_build.proofs.FirstLengthFault.{NoneBefore}
use Rattle.model_build.proofs.length_faults.first_length_fault.Given as goal

abbrev pub invariant-loop-id : goal.invariant-loop-id
invariant-loop-id l = NoneBefore (LengthFault l.exchange l.scale l.mode) l.ids l.id-index
