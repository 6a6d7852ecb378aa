use Rattle.std.proofs.Common.{rules, ◌+◌, take, Option, ℕ, sym, subst}
use Rattle.ifc_instances.specs.inner.Least.{LeastOf}
use Rattle.model_build.specs.FaultyInstances.{ShownBy}
use Rattle.model_build.specs.inner.Showing.{ItemShows}
use Rattle.model_build.proofs.LeastOfParts.{shown_none, shown_more, shown_all}
use Rattle.model_build.proofs.mapping.least_mapping.Goals as goal

pub loop-id-init : goal.loop-id-init
loop-id-init c = shown_none (ItemShows c.args.exchange.now c.args.scale c.args.mode) c.args.ids.now

pub loop-id-preserved : goal.loop-id-preserved
loop-id-preserved c =
    subst (λ (found : Option ℕ). LeastOf (ShownBy (ItemShows c.args.exchange.now c.args.scale c.args.mode) (take (c.loop-id.id-index + 1) c.args.ids.now)) found) (sym c.lesser-least.ensures)
    (shown_more (ItemShows c.args.exchange.now c.args.scale c.args.mode) c.args.ids.now c.loop-id.id-index c.loop-id.least c.other_mapping.result c.loop-id-test.true c.loop-id.invariant c.other_mapping.ensures)

pub returns : goal.returns
returns c = shown_all (ItemShows c.args.exchange.now c.args.scale c.args.mode) c.args.ids.now c.loop-id.id-index c.loop-id.least (search rules) c.loop-id.invariant
