use Rattle.std.proofs.Common.{◌≡◌, sym, subst, length, Some, None, below_more, arith}
use Rattle.std.specs.Prelude.{slice_index_or}
use Rattle.ear_cut.specs.Corners.{nobody, InGrid}
use Rattle.ear_cut.proofs.Closed.{turn_in_grid}
use Rattle.ear_cut.proofs.Search.{first_is}
use Rattle.void_bridge.specs.Bridges.{is_free, bridge_from}
use Rattle.void_bridge.specs.inner.Barriers.{segments_of}
use Rattle.void_bridge.proofs.FirstFound.{none_found, some_found}
use Rattle.void_bridge.proofs.FreeBridges.{bridge, bridge_at}
use Rattle.void_bridge.proofs.bridges.bridge_to.Goals as goal

pub first_end-requires-clause-t_in : goal.first_end-requires-clause-t_in
first_end-requires-clause-t_in c = subst InGrid (sym c.turn_at.ensures) (turn_in_grid c.args.current.now c.loop-i.i c.requires.current_in c.loop-i-test.true)

pub loop-i-preserved-then-is_tried : goal.loop-i-preserved-then-is_tried
loop-i-preserved-then-is_tried c =
    below_more (λ m. bridge_from c.args.view (segments_of c.args.barriers.now) c.args.current.now c.args.hole.now c.args.k m ≡ None) c.loop-i.i c.loop-i.invariant
    (c.requires.tried c.loop-i.i c.loop-i-test.true (rw c.if-is_tried.true at c.is_tried.ensures))

pub returns-in-Some-clause-first : goal.returns-in-Some-clause-first
returns-in-Some-clause-first c =
    let view = c.args.view in let edges = segments_of c.args.barriers.now in let current = c.args.current.now in let hole = c.args.hole.now in
    let t = c.turn_at.result in let i = c.loop-i.i in let j = c.in-Some.j in
    some_found (bridge_from view edges current hole c.args.k) (length current) i (bridge c.args.k i j) c.loop-i-test.true
    (bridge_at view edges current hole c.args.k i t (Some j) c.turn_at.ensures (first_is (λ m. is_free view edges t (slice_index_or hole m nobody)) (length hole) (Some j) c.in-Some.ensures))
    c.loop-i.invariant

pub loop-i-preserved : goal.loop-i-preserved
loop-i-preserved c =
    let view = c.args.view in let edges = segments_of c.args.barriers.now in let current = c.args.current.now in let hole = c.args.hole.now in
    let t = c.turn_at.result in let i = c.loop-i.i in
    below_more (λ m. bridge_from view edges current hole c.args.k m ≡ None) i c.loop-i.invariant
    (bridge_at view edges current hole c.args.k i t None c.turn_at.ensures (first_is (λ m. is_free view edges t (slice_index_or hole m nobody)) (length hole) None c.in_default.ensures))

pub returns-clause-first : goal.returns-clause-first
returns-clause-first c =
    none_found (bridge_from c.args.view (segments_of c.args.barriers.now) c.args.current.now c.args.hole.now c.args.k) (length c.args.current.now)
    (λ m h. c.loop-i.invariant m (omega (arith, h, c.loop-i-test.false)))
