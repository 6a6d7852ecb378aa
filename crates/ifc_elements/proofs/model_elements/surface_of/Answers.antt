use Rattle.std.proofs.Common.{◌≡◌, List, length, sum_by, sym, subst}
use Rattle.bim_model.specs.declared.geometry.Triangle.{Triangle}
use Rattle.faceset.specs.FaceSets.{Joined}
use Rattle.ifc_elements.specs.Items.{body_items, item_count}
use Rattle.ifc_elements.specs.Surfaces.{ItemSurface}
use Rattle.ifc_elements.proofs.CasesOfAnswers.{of_none, of_some}
use Rattle.ifc_elements.proofs.ElementsMade.{near_surface, beyond_there}
use Rattle.ifc_elements.proofs.model_elements.surface_of.Goals as goal

pub returns-in_default-2 : goal.returns-in_default-2
returns-in_default-2 c = λ placements listed are t ready. of_none _ _ c.in_ok-own.field-0 c.in_default-2.is (c.in_ok-own.ensures listed t) ready.items

pub returns-in-Some-3 : goal.returns-in-Some-3
returns-in-Some-3 c = λ placements listed are t.
    let world = c.args.exchange.now in
    let items = body_items world c.args.instance.now in
    let own = of_some _ _ c.in_ok-own.field-0 c.in-Some-2.own c.in-Some-2.is (c.in_ok-own.ensures listed t) in
    let lent = subst (λ (ts : List Triangle). Joined (ItemSurface world c.args.scale c.args.mode) items ts) (sym c.deref.ensures.value) own.0 in
    let many = subst (λ (ts : List Triangle). length ts ≡ sum_by (item_count world) items) (sym c.deref.ensures.value) own.1 in
    near_surface world c.args.scale c.args.mode c.args.instance.now c.in-Some.frame c.deref.result.now c.in-Some-3.triangles.items (c.in-Some.ensures.placed world c.args.scale c.args.mode placements are) lent many
    (of_some _ _ c.in_ok-triangles.field-0 c.in-Some-3.triangles c.in-Some-3.is c.in_ok-triangles.ensures)

pub returns : goal.returns
returns c = λ placements listed are t.
    let world = c.args.exchange.now in
    let items = body_items world c.args.instance.now in
    let own = of_some _ _ c.in_ok-own.field-0 c.in-Some-2.own c.in-Some-2.is (c.in_ok-own.ensures listed t) in
    let lent = subst (λ (ts : List Triangle). Joined (ItemSurface world c.args.scale c.args.mode) items ts) (sym c.deref.ensures.value) own.0 in
    beyond_there world c.args.scale c.args.mode c.args.instance.now c.in-Some.frame c.deref.result.now (c.in-Some.ensures.placed world c.args.scale c.args.mode placements are) lent
    (of_none _ _ c.in_ok-triangles.field-0 c.in-None.is c.in_ok-triangles.ensures)
