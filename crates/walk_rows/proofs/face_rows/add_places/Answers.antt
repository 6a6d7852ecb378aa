use Rattle.std.proofs.Common.{◌++◌, List, Vec, ℕ, Global, take_all, ap, sym, ◌∙◌, arith}
use Rattle.std.proofs.lemmas.List.{append-nil}
use Rattle.walk_rows.proofs.EarRows.{flat}
use Rattle.walk_rows.proofs.RingsRead.{items_of, places_added}
use Rattle.walk_rows.proofs.face_rows.add_places.Goals as goal

pub loop-ring-init : goal.loop-ring-init
loop-ring-init c = sym (append-nil c.args.all.now.items)

pub loop-ring-preserved : goal.loop-ring-preserved
loop-ring-preserved c =
    places_added c.args.all.now.items c.loop-ring.all.items c.extend_from_slice.new.self.items c.deref.result.now c.args.inner.now c.loop-ring.ring-index c.ring-item.result c.loop-ring-test.true c.ring-item.is c.deref.ensures.value
    c.in_ok-extend_from_slice.ensures.items c.loop-ring.invariant

pub returns : goal.returns
returns c =
    c.loop-ring.invariant ∙ ap (λ (vs : List (Vec ℕ Global)). c.args.all.now.items ++ flat (items_of vs)) (take_all c.loop-ring.ring-index c.args.inner.now (omega (arith, c.loop-ring-test.false)))
