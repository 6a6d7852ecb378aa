use Rattle.std.proofs.Common.{subst}
use Rattle.std.proofs.lemmas.Bool.{OnTrue_at}
use Rattle.model_walk.specs.Checked.{Differ}
use Rattle.model_walk.specs.inner.Stocked.{AreDrawn}
use Rattle.model_walk.proofs.WalkMade.{walked}
use Rattle.model_walk.proofs.walking.sketched.Goals as goal

pub returns : goal.returns
returns c =
    let world = c.args.exchange.now in
    let ids = c.in_ok-ids.ids.items in
    let drawn = c.in-Some-2.drawn in
    let stock = c.drawn_of.new.stock in
    let told : AreDrawn world c.args.scale c.args.mode stock c.deref-4.result.now drawn = rw c.in-Some-2.is at c.in_ok-drawn.ensures.drawn in
    let made : AreDrawn world c.args.scale c.args.mode stock ids drawn = subst (λ ns. AreDrawn world c.args.scale c.args.mode stock ns drawn) c.deref-4.ensures.value told in
    let apart : Differ drawn.elements.items = subst Differ c.deref-5.ensures.value (OnTrue_at c.if-not-branch.false c.in_ok-differ.ensures) in
    walked world c.args.mode c.args.scale ids stock drawn c.requires.unit c.requires.tree c.requires.clean c.in_ok-ids.ensures made apart
