use Rattle.std.proofs.Common.{ℕ, List, sym, subst}
use Rattle.ifc_elements.specs.Items.{bodies}
use Rattle.ifc_elements.specs.Finding.{Number}
use Rattle.ifc_elements.proofs.TrianglesAdded.{own_counted}
use Rattle.ifc_elements.proofs.surface.own_triangles.Goals as goal

pub returns : goal.returns
returns c = λ listed are.
    let world = c.args.exchange.now in
    let all = bodies world c.args.element.now in
    own_counted world c.args.scale c.args.mode listed c.args.element.now c.bodies_triangles.result
    (c.bodies_triangles.ensures listed all are (subst (λ (ids : List ℕ). Number world ids all) (sym c.deref.ensures.value) c.in_ok-found.ensures))
