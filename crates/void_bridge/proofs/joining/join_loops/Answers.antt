use Rattle.std.proofs.Common.{◌≡◌, Some, map, Vec, Global, arith}
use Rattle.std.proofs.lemmas.List.{length-map}
use Rattle.bim_model.specs.declared.geometry.Point.{Point}
use Rattle.void_bridge.specs.Bridges.{joined_of}
use Rattle.void_bridge.proofs.JoinedAreas.{areas_add_up}
use Rattle.void_bridge.proofs.JoinedCounts.{joined_count}
use Rattle.void_bridge.proofs.joining.join_loops.Goals as goal

found : (c : goal.In-Ok-Some) → joined_of c.args.outer.now (map (λ loop. loop.items) c.args.inner.now) ≡ Some c.in-Ok-Some.list.items
found c = rw c.in-Ok-Some.field-0-is at c.in-Ok-Some.ensures

pub returns-in-Ok-Some-clause-areas : goal.returns-in-Ok-Some-clause-areas
returns-in-Ok-Some-clause-areas c = areas_add_up c.args.outer.now (map (λ loop. loop.items) c.args.inner.now) c.in-Ok-Some.list.items (found c)

pub returns-in-Ok-Some-clause-count : goal.returns-in-Ok-Some-clause-count
returns-in-Ok-Some-clause-count c =
    let inner = map (λ loop. loop.items) c.args.inner.now in
    let count = joined_count c.args.outer.now inner c.in-Ok-Some.list.items (found c) in
    let loops = length-map c.args.inner.now (λ (loop : Vec Point Global). loop.items) in
    omega (arith, count, loops)
