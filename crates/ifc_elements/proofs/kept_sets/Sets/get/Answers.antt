use Rattle.std.proofs.Common.{List, All, sym, subst}
use Rattle.bim_model.specs.declared.geometry.Triangle.{Triangle}
use Rattle.bim_model.specs.Boxes.{corners_of}
use Rattle.bim_model.specs.Models.{IsInReach}
use Rattle.ifc_elements.proofs.kept_sets.Sets.get.Goals as goal

pub returns-in-Some-clause-near : goal.returns-in-Some-clause-near
returns-in-Some-clause-near c =
    subst (λ (ts : List Triangle). All IsInReach (corners_of ts)) (sym c.as_slice.ensures) (c.self.invariant c.args.id c.in-Some.triangles.now (sym c.in-Some.ensures.value))
