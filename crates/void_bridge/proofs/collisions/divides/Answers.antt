use Rattle.std.proofs.Common.{◌∙◌, ap, ℤ, rules, w64, FitsSigned}
use Rattle.std.proofs.lemmas.Int.{to_z-of_z}
use Rattle.exact_arith.proofs.Ranges.{in_64}
use Rattle.ear_cut.specs.PolygonViews.{area}
use Rattle.ear_cut.specs.Registers.{as_spot}
use Rattle.void_bridge.specs.LoopEdges.{are_opposite}
use Rattle.void_bridge.proofs.collisions.divides.Goals as goal

pub returns : goal.returns
returns c =
    let e = c.args.edge in let x = c.area.result in let y = c.area-2.result in
    let f : FitsSigned w64 x = search rules in
    let g : FitsSigned w64 y = search rules in
    c.are_opposite.ensures
    ∙ (ap (λ (t : ℤ). are_opposite t (in_64 y)) (to_z-of_z w64 x f ∙ c.area.ensures)
    ∙ ap (λ (t : ℤ). are_opposite (area c.args.view (as_spot e.a) (as_spot e.b) (as_spot c.args.p)) t) (to_z-of_z w64 y g ∙ c.area-2.ensures))
