use Rattle.std.proofs.Common.{◌≡◌, ◌∙◌, ap, ◌+◌, ◌-◌, ◌++◌, ◌∷◌, [], ℕ, arith}
use Rattle.std.proofs.lemmas.Result.{on_ok_weaker}
use Rattle.ear_cut.specs.Registers.{as_spot}
use Rattle.ear_cut.specs.Corners.{nobody}
use Rattle.ear_cut.proofs.Closed.{corner_in_grid}
use Rattle.void_bridge.specs.LoopEdges.{segment}
use Rattle.void_bridge.specs.inner.Barriers.{segments_of}
use Rattle.void_bridge.proofs.EdgesAdded.{spot_at, edge_more, edge_last}
use Rattle.void_bridge.proofs.joining.add_loop.Goals as goal

pub seen-first-requires : goal.seen-first-requires
seen-first-requires c = corner_in_grid c.args.corners.now 0 nobody c.requires.in_grid c.requires.some

pub seen-next-requires : goal.seen-next-requires
seen-next-requires c = corner_in_grid c.args.corners.now c.loop-i.i nobody c.requires.in_grid c.loop-i-test.true

-- the corner before the next
one_back : (i : ℕ) → i ≡ (i + 1) - 1
one_back i = omega arith

pub loop-i-preserved : goal.loop-i-preserved
loop-i-preserved c = record {
  previous_is = c.seen-next.ensures ∙ ap (spot_at c.args.view c.args.corners.now) (one_back c.loop-i.i);
  edges = edge_more c.args.view c.args.corners.now c.loop-i.i (segments_of c.args.barriers.now) (segments_of c.loop-i.barriers) (segments_of c.add_edge.new.barriers) (as_spot c.loop-i.previous) (as_spot c.seen-next.result)
      c.loop-i.auto.i c.loop-i-test.true c.loop-i.invariant.previous_is c.seen-next.ensures c.loop-i.invariant.edges c.in_ok-add_edge.ensures.edges;
  framed = c.in_ok-add_edge.ensures.framed;
}

pub returns-clause-edges : goal.returns-clause-edges
returns-clause-edges c =
    let view = c.args.view in let corners = c.args.corners.now in
    let old = segments_of c.loop-i.barriers in let new = segments_of c.add_edge-2.new.barriers in
    let p = as_spot c.loop-i.previous in let q = as_spot c.seen-first.result in
    on_ok_weaker c.add_edge-2.result
    (λ (h : new ≡ old ++ segment p q ∷ []). edge_last view corners c.loop-i.i (segments_of c.args.barriers.now) old new p q c.requires.some
    (omega (arith, c.loop-i-test.false, c.loop-i.auto.i-end, c.requires.some)) c.loop-i.invariant.previous_is c.seen-first.ensures c.loop-i.invariant.edges h)
    c.add_edge-2.ensures.edges
