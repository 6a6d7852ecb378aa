use Rattle.std.proofs.Common.{arith}
use Rattle.std.proofs.lemmas.Int.{to_z-of_z}
use Rattle.bim_model.proofs.Extents.{bounds_push}
use Rattle.bim_model.proofs.geometry.widened.Goals as goal

pub returns : goal.returns
returns c = λ points h. bounds_push points c.args.point c.args.extent _ (grind (arith, to_z-of_z, c.min.ensures.value)) (grind (arith, to_z-of_z, c.min-2.ensures.value)) (grind (arith, to_z-of_z, c.min-3.ensures.value)) (grind (arith, to_z-of_z, c.max.ensures.value)) (grind (arith, to_z-of_z, c.max-2.ensures.value)) (grind (arith, to_z-of_z, c.max-3.ensures.value)) h
