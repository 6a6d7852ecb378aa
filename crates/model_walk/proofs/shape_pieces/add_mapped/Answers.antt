use Rattle.std.proofs.Common.{ℕ, Some, sym}
use Rattle.p21_values.specs.Attributes.{led_to}
use Rattle.faceset.specs.FaceSets.{Joined}
use Rattle.ifc_elements.specs.Sound.{KeptSet, KeptMapped}
use Rattle.model_walk.specs.inner.SurfacePieces.{AddsShown, Carried}
use Rattle.model_walk.proofs.PiecesAdded.{found_by, shown_by, mapped_shown}
use Rattle.model_walk.proofs.shape_pieces.add_mapped.Goals as goal

pub returns-clause-added : goal.returns-clause-added
returns-clause-added c = λ points are.
    let world = c.args.exchange.now in
    let sets = c.args.sets.now in
    let item = c.args.item.now in
    let frame = c.in-Some-operator_frame.frame in
    let values = c.spelled_sets.result in
    let old = c.args.out.now.items in
    let new = c.add_sets.new.out.items in
    found_by (AddsShown points sets (Carried (Some frame) (Joined (KeptSet world c.args.scale c.args.mode) (led_to world values))) old new c.args.so_far)
    (AddsShown points sets (KeptMapped world c.args.scale c.args.mode item) old new c.args.so_far) c.add_sets.result
    (λ (count : ℕ) h. shown_by points sets (Carried (Some frame) (Joined (KeptSet world c.args.scale c.args.mode) (led_to world values))) (KeptMapped world c.args.scale c.args.mode item) old new c.args.so_far count
    (mapped_shown world c.args.scale c.args.mode item c.in-Some.operator frame values (sym c.in-Some.ensures) c.in-Some-operator_frame.ensures.frame c.spelled_sets.ensures) h)
    (c.add_sets.ensures.added c.args.scale c.args.mode points are)
