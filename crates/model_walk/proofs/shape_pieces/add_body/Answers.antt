use Rattle.std.proofs.Common.{ℕ, [], ◌∷◌, flat_map, sym, ◌∙◌}
use Rattle.ifc_elements.specs.Items.{items_of, bodies_among}
use Rattle.model_walk.specs.inner.Stocked.{AddsPieces}
use Rattle.model_walk.proofs.PiecesAdded.{found_by, pieces_none, pieces_of, among_untold, among_other, among_body}
use Rattle.model_walk.proofs.shape_pieces.add_body.Goals as goal

pub returns-in_default-clause-added : goal.returns-in_default-clause-added
returns-in_default-clause-added c = λ points are.
    let world = c.args.exchange.now in
    pieces_none world c.args.scale c.args.mode points c.args.sets.now (flat_map (items_of world) (bodies_among world (c.args.value.now ∷ []))) c.args.out.now.items c.args.so_far (among_untold world c.args.value.now c.in_default.ensures)

pub returns-then-not-is_body_representation-clause-added : goal.returns-then-not-is_body_representation-clause-added
returns-then-not-is_body_representation-clause-added c = λ points are.
    let world = c.args.exchange.now in
    pieces_none world c.args.scale c.args.mode points c.args.sets.now (flat_map (items_of world) (bodies_among world (c.args.value.now ∷ []))) c.args.out.now.items c.args.so_far
    (among_other world c.args.value.now c.in-Some.representation c.in-Some.ensures (sym c.if-not-is_body_representation.true ∙ c.is_body_representation.ensures))

pub returns-clause-added : goal.returns-clause-added
returns-clause-added c = λ points are.
    let world = c.args.exchange.now in
    let sets = c.args.sets.now in
    let r = c.in-Some.representation in
    let all = flat_map (items_of world) (bodies_among world (c.args.value.now ∷ [])) in
    let old = c.args.out.now.items in
    let new = c.add_items.new.out.items in
    found_by (AddsPieces world c.args.scale c.args.mode points sets (items_of world r) old new c.args.so_far) (AddsPieces world c.args.scale c.args.mode points sets all old new c.args.so_far) c.add_items.result
    (λ (count : ℕ) h. pieces_of world c.args.scale c.args.mode points sets (items_of world r) all old new c.args.so_far count
    (among_body world c.args.value.now r c.in-Some.ensures (sym c.if-not-is_body_representation.false ∙ c.is_body_representation.ensures)) h) (c.add_items.ensures.added points are)
