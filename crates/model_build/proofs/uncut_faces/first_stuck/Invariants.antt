use Rattle.std.proofs.Common.{take}
use Rattle.ifc_instances.specs.inner.Least.{LeastOf}
use Rattle.model_build.specs.FaultyInstances.{ShownBy}
use Rattle.model_build.specs.inner.Outcomes.{ShowsStuckSet}
use Rattle.model_build.proofs.uncut_faces.first_stuck.Given as goal

abbrev pub invariant-loop-id : goal.invariant-loop-id
invariant-loop-id l = LeastOf (ShownBy (ShowsStuckSet l.exchange l.scale l.mode) (take l.id-index l.ids)) l.least
