use Rattle.std.proofs.Common.{refl, arith}
use Rattle.placement.specs.Frames.{carried}
use Rattle.ifc_elements.proofs.surface.moved.Goals as goal

pub returns-in_default-place : goal.returns-in_default-place
returns-in_default-place c = (1, carried c.args.frame.now c.args.triangle.now.b, omega arith, refl, c.in_default-place.ensures)

pub returns-in_default-place-2 : goal.returns-in_default-place-2
returns-in_default-place-2 c = (2, carried c.args.frame.now c.args.triangle.now.c, omega arith, refl, c.in_default-place-2.ensures)
