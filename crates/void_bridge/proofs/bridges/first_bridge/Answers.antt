use Rattle.std.proofs.Common.{◌≡◌, ◌∙◌, sym, subst, ◌<◌, List, [], length, Some, None, Vec, Global, below_more, arith}
use Rattle.std.specs.Prelude.{slice_index_or}
use Rattle.std.proofs.lemmas.List.{length-map}
use Rattle.ear_cut.specs.declared.corners.Corner.{Corner}
use Rattle.ear_cut.specs.Corners.{AreInGrid}
use Rattle.void_bridge.specs.Bridges.{first_found, bridge_from}
use Rattle.void_bridge.specs.inner.Barriers.{segments_of}
use Rattle.void_bridge.specs.inner.Tried.{IsTried}
use Rattle.void_bridge.proofs.FirstFound.{none_found, some_found}
use Rattle.void_bridge.proofs.FreeBridges.{bridges_at}
use Rattle.void_bridge.proofs.HolesRead.{items_of, item_at}
use Rattle.void_bridge.proofs.bridges.first_bridge.Goals as goal

pub bridge_to-requires-clause-hole_in : goal.bridge_to-requires-clause-hole_in
bridge_to-requires-clause-hole_in c =
    let holes = c.args.holes.now in let k = c.loop-k.k in let n = length-map holes (λ (v : Vec Corner Global). v.items) in
    let w : k < length (items_of holes) = omega (arith, c.loop-k-test.true, n) in
    subst AreInGrid (sym (c.deref.ensures.value ∙ item_at holes k c.index-holes-k.result c.loop-k-test.true c.index-holes-k.is)) (c.requires.holes_in k [] w)

pub bridge_to-requires-clause-tried : goal.bridge_to-requires-clause-tried
bridge_to-requires-clause-tried c =
    let view = c.args.view in let edges = segments_of c.args.barriers.now in let current = c.args.current.now in
    let holes = c.args.holes.now in let k = c.loop-k.k in let n = length-map holes (λ (v : Vec Corner Global). v.items) in
    let w : k < length (items_of holes) = omega (arith, c.loop-k-test.true, n) in
    subst (λ (l : List Corner). IsTried view edges current l k c.args.tried.now) (sym (c.deref.ensures.value ∙ item_at holes k c.index-holes-k.result c.loop-k-test.true c.index-holes-k.is)) (c.requires.tried k w)

pub returns-in-Some-clause-passed : goal.returns-in-Some-clause-passed
returns-in-Some-clause-passed c = λ m h. c.loop-k.invariant m (omega (arith, h, c.in-Some.ensures.within.hole))

pub returns-in-Some-clause-first : goal.returns-in-Some-clause-first
returns-in-Some-clause-first c =
    let view = c.args.view in let edges = segments_of c.args.barriers.now in let current = c.args.current.now in let loops = items_of c.args.holes.now in
    let k = c.loop-k.k in let n = length-map c.args.holes.now (λ (v : Vec Corner Global). v.items) in
    some_found (λ m. first_found (bridge_from view edges current (slice_index_or loops m []) m) 0 (length current)) (length loops) k c.in-Some.bridge (omega (arith, c.loop-k-test.true, n))
    (bridges_at view edges current c.deref.result.now loops k (Some c.in-Some.bridge) (c.deref.ensures.value ∙ item_at c.args.holes.now k c.index-holes-k.result c.loop-k-test.true c.index-holes-k.is) c.in-Some.ensures.first)
    c.loop-k.invariant

pub loop-k-preserved : goal.loop-k-preserved
loop-k-preserved c =
    let view = c.args.view in let edges = segments_of c.args.barriers.now in let current = c.args.current.now in let loops = items_of c.args.holes.now in
    let k = c.loop-k.k in
    below_more (λ m. first_found (bridge_from view edges current (slice_index_or loops m []) m) 0 (length current) ≡ None) k c.loop-k.invariant
    (bridges_at view edges current c.deref.result.now loops k None (c.deref.ensures.value ∙ item_at c.args.holes.now k c.index-holes-k.result c.loop-k-test.true c.index-holes-k.is) c.in_default.ensures.first)

pub returns-clause-first : goal.returns-clause-first
returns-clause-first c =
    let view = c.args.view in let edges = segments_of c.args.barriers.now in let current = c.args.current.now in let loops = items_of c.args.holes.now in
    let n = length-map c.args.holes.now (λ (v : Vec Corner Global). v.items) in
    none_found (λ m. first_found (bridge_from view edges current (slice_index_or loops m []) m) 0 (length current)) (length loops)
    (λ m h. c.loop-k.invariant m (omega (arith, h, n, c.loop-k-test.false)))
