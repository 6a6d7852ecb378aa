use Rattle.std.proofs.Common.{ℕ, List, sym, subst}
use Rattle.ifc_elements.specs.Items.{bodies}
use Rattle.ifc_elements.specs.Finding.{Number}
use Rattle.ifc_elements.proofs.BodiesOfShapes.{bodies_kept}
use Rattle.ifc_elements.proofs.shapes.bodies.Goals as goal

pub returns-in-Some-get : goal.returns-in-Some-get
returns-in-Some-get c =
    let world = c.args.exchange.now in
    let all = bodies world c.args.element.now in
    subst (λ (ids : List ℕ). Number world ids all) (sym (c.in_ok-copied.ensures.items_if_clones_equal (λ x y e. e)))
    (bodies_kept world c.args.shapes.now c.args.element.now c.in-Some.id c.in-Some-get.ids.now c.requires (sym c.in-Some.ensures) (sym c.in-Some-get.ensures))
