use Rattle.std.proofs.Common.{subst}
use Rattle.std.specs.Option.{option_copied}
use Rattle.ifc_elements.specs.PointTables.{Tabled}
use Rattle.model_build.proofs.FirstLengthFault.{kept_apart}
use Rattle.model_build.proofs.length_faults.fault_of.Goals as goal

pub returns-in-Some : goal.returns-in-Some
returns-in-Some c = λ f k. kept_apart c.args.scale c.args.mode c.args.instance.now c.in-Some._points.now f (subst (λ o. Tabled c.args.scale c.args.mode c.args.instance.now (option_copied o)) c.in-Some.is c.requires) k
