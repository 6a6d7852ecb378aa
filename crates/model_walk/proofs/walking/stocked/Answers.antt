use Rattle.std.proofs.Common.{None, replicate, ap, ◌∙◌}
use Rattle.model_walk.specs.inner.PooledSets.{AreReadSets}
use Rattle.model_walk.proofs.WalkMade.{new_stock}
use Rattle.model_walk.proofs.walking.stocked.Goals as goal

pub returns-clause-stock : goal.returns-clause-stock
returns-clause-stock c =
    let world = c.args.exchange.now in
    let sets : AreReadSets world c.args.scale c.args.mode c.in-Some.points c.in-Some-2.sets = rw c.in-Some-2.is at c.in_ok-sets.ensures.sets in
    new_stock world c.args.scale c.args.mode _ sets c.new-2.ensures.items (c.in_ok-shapes.ensures ∙ ap (λ n. replicate n None) c.len.ensures.count)
