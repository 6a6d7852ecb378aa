use Rattle.std.proofs.Common.{ℕ, ◌+◌, [], ◌∷◌, sym, subst}
use Rattle.p21_values.specs.Attributes.{led_to}
use Rattle.faceset.specs.FaceSets.{Joined}
use Rattle.ifc_elements.specs.Sound.{KeptSet}
use Rattle.model_walk.specs.inner.SurfacePieces.{AddsShown, Carried}
use Rattle.model_walk.proofs.PiecesAdded.{set_shown}
use Rattle.model_walk.proofs.shape_pieces.add_set.Goals as goal

pub returns-clause-added : goal.returns-clause-added
returns-clause-added c = λ scale mode points are.
    let world = c.args.exchange.now in
    let old = c.args.out.now.items in
    let new = c.push.new.self.items in
    subst (λ (n : ℕ). AddsShown points c.args.sets.now (Carried c.args.operator (Joined (KeptSet world scale mode) (led_to world (c.args.value.now ∷ [])))) old new c.args.so_far (c.args.so_far + n)) (sym c.len-count.ensures)
    (set_shown world scale mode points c.args.sets.now c.args.value.now c.in-Some.id c.in-Some-place_of.at c.in-Some-get.set.now c.args.operator old new c.args.so_far
    (sym c.in-Some.ensures) c.in-Some-place_of.ensures (sym c.in-Some-get.ensures) c.requires.operator c.in_ok-push.ensures.items are)
