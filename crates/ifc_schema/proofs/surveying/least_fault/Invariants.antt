use Rattle.std.proofs.Common.{ℕ, ◌<◌, None}
use Rattle.p21_values.specs.InstancePlaces.{IsPlaceOf}
use Rattle.ifc_schema.specs.Used.{Used}
use Rattle.ifc_schema.specs.Surveys.{UsedFlaw}
use Rattle.ifc_schema.proofs.surveying.least_fault.Given as goal

abbrev pub invariant-loop-at : goal.invariant-loop-at
invariant-loop-at l = (k : ℕ) → k < l.at → (id : ℕ) → IsPlaceOf l.exchange id k → Used l.exchange id → UsedFlaw l.exchange id None
