use Rattle.std.proofs.Common.{ℕ, None, [], ◌∷◌, sym, ◌∙◌}
use Rattle.p21_values.specs.Attributes.{led_to}
use Rattle.faceset.specs.FaceSets.{Joined}
use Rattle.ifc_elements.specs.Sound.{KeptSet, KeptMapped}
use Rattle.model_walk.specs.inner.SurfacePieces.{AddsShown, Carried}
use Rattle.model_walk.specs.inner.Stocked.{AddsPieces}
use Rattle.model_walk.proofs.PiecesAdded.{found_by, mapped_item_shown, set_item_shown}
use Rattle.model_walk.proofs.shape_pieces.add_item.Goals as goal

pub returns-then-is_mapped_item-clause-added : goal.returns-then-is_mapped_item-clause-added
returns-then-is_mapped_item-clause-added c = λ points are.
    let world = c.args.exchange.now in
    let sets = c.args.sets.now in
    let v = c.args.value.now in
    let item = c.in-Some.item in
    let old = c.args.out.now.items in
    let new = c.add_mapped.new.out.items in
    found_by (AddsShown points sets (KeptMapped world c.args.scale c.args.mode item) old new c.args.so_far) (AddsPieces world c.args.scale c.args.mode points sets (led_to world (v ∷ [])) old new c.args.so_far) c.add_mapped.result
    (λ (count : ℕ) h. mapped_item_shown world c.args.scale c.args.mode points sets v item old new c.args.so_far count c.in-Some.ensures (sym c.is_mapped_item.ensures ∙ c.if-is_mapped_item.true) h) (c.add_mapped.ensures.added points are)

pub returns-clause-added : goal.returns-clause-added
returns-clause-added c = λ points are.
    let world = c.args.exchange.now in
    let sets = c.args.sets.now in
    let v = c.args.value.now in
    let item = c.in-Some.item in
    let old = c.args.out.now.items in
    let new = c.add_set.new.out.items in
    found_by (AddsShown points sets (Carried None (Joined (KeptSet world c.args.scale c.args.mode) (led_to world (v ∷ [])))) old new c.args.so_far)
    (AddsPieces world c.args.scale c.args.mode points sets (led_to world (v ∷ [])) old new c.args.so_far) c.add_set.result
    (λ (count : ℕ) h. set_item_shown world c.args.scale c.args.mode points sets v item old new c.args.so_far count c.in-Some.ensures (sym c.is_mapped_item.ensures ∙ c.if-is_mapped_item.false) h)
    (c.add_set.ensures.added c.args.scale c.args.mode points are)
