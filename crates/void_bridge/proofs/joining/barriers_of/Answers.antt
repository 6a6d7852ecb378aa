use Rattle.std.proofs.Common.{◌≡◌, ◌∙◌, sym, subst, ◌<◌, [], length, Vec, Global, arith}
use Rattle.std.specs.Prelude.{slice_index_or}
use Rattle.std.proofs.lemmas.List.{length-map}
use Rattle.ear_cut.specs.declared.corners.Corner.{Corner}
use Rattle.ear_cut.specs.Corners.{AreInGrid}
use Rattle.void_bridge.specs.LoopEdges.{edges_round}
use Rattle.void_bridge.specs.inner.Barriers.{segments_of}
use Rattle.void_bridge.proofs.LoopsInGrid.{IsSome}
use Rattle.void_bridge.proofs.HolesRead.{items_of, item_at}
use Rattle.void_bridge.proofs.EdgesAdded.{loop_more}
use Rattle.void_bridge.proofs.joining.barriers_of.Goals as goal

-- the loop of this turn
hole_is : (c : goal.After-deref) → c.deref.result.now ≡ slice_index_or (items_of c.args.holes.now) c.loop-hole.hole-index []
hole_is c = c.deref.ensures.value ∙ item_at c.args.holes.now c.loop-hole.hole-index c.hole-item.result c.loop-hole-test.true c.hole-item.is

in_holes : (c : goal.After-deref) → c.loop-hole.hole-index < length (items_of c.args.holes.now)
in_holes c = let n = length-map c.args.holes.now (λ (v : Vec Corner Global). v.items) in omega (arith, c.loop-hole-test.true, n)

pub add_loop-requires-in-loop-hole-clause-some : goal.add_loop-requires-in-loop-hole-clause-some
add_loop-requires-in-loop-hole-clause-some c = subst IsSome (sym (hole_is c)) (c.requires.holes_some c.loop-hole.hole-index [] (in_holes c))

pub add_loop-requires-in-loop-hole-clause-in_grid : goal.add_loop-requires-in-loop-hole-clause-in_grid
add_loop-requires-in-loop-hole-clause-in_grid c = subst AreInGrid (sym (hole_is c)) (c.requires.holes_in c.loop-hole.hole-index [] (in_holes c))

pub loop-hole-preserved : goal.loop-hole-preserved
loop-hole-preserved c =
    let view = c.args.view in let holes = c.args.holes.now in let i = c.loop-hole.hole-index in
    let n = length-map holes (λ (v : Vec Corner Global). v.items) in
    let w : i < length (items_of holes) = omega (arith, c.loop-hole-test.true, n) in
    let e = c.deref.ensures.value ∙ item_at holes i c.hole-item.result c.loop-hole-test.true c.hole-item.is in
    record {
      edges = loop_more view (items_of holes) i (edges_round view c.args.outer.now) (segments_of c.loop-hole.barriers) (segments_of c.add_loop-in-loop-hole.new.barriers) c.deref.result.now w e c.loop-hole.invariant.edges c.in_ok-add_loop-2.ensures.edges;
      framed = c.in_ok-add_loop-2.ensures.framed;
    }
