use Rattle.std.proofs.Common.{◌∙◌, ◌+◌, ◌-◌, ap, sym, subst, ℕ, List, length, Some, Vec, Global, All, arith}
use Rattle.std.proofs.lemmas.List.{length-map}
use Rattle.bim_model.specs.declared.geometry.Point.{Point}
use Rattle.ear_cut.specs.declared.corners.Corner.{Corner}
use Rattle.ear_cut.specs.Corners.{AreInGrid}
use Rattle.void_bridge.specs.LoopEdges.{segment, spot_of, all_edges}
use Rattle.void_bridge.specs.Bridges.{bridge_by, joined_at, joined_in}
use Rattle.void_bridge.specs.inner.Barriers.{segments_of}
use Rattle.void_bridge.specs.inner.Tried.{AreTried, ArePassed, WereTried}
use Rattle.void_bridge.proofs.LoopsInGrid.{IsSome, outer_in_grid, outer_some, holes_in_grid, holes_some}
use Rattle.void_bridge.proofs.BridgedEdges.{items_without, to_come, no_more}
use Rattle.void_bridge.proofs.HolesRead.{items_of}
use Rattle.void_bridge.proofs.BridgeLoop.{joining_begun, joining_stuck, joining_ended, joining_bridged, read_bridge, read_first, taken_hole, from_in_grid, to_in_grid, from_spot, to_spot}
use Rattle.void_bridge.proofs.TriedBridges.{nothing_tried, tried_bridged}
use Rattle.void_bridge.proofs.joining.joined_in.Goals as goal

-- ---- before the first bridge
pub barriers_of-requires-clause-outer_some : goal.barriers_of-requires-clause-outer_some
barriers_of-requires-clause-outer_some c = subst IsSome (sym c.deref.ensures.value) (outer_some 0 c.args.outer.now c.in_ok-current.current.items c.in_ok-current.ensures c.requires.outer_is.three)

pub barriers_of-requires-clause-outer_in : goal.barriers_of-requires-clause-outer_in
barriers_of-requires-clause-outer_in c = subst AreInGrid (sym c.deref.ensures.value) (outer_in_grid 0 c.args.outer.now c.in_ok-current.current.items c.in_ok-current.ensures c.requires.outer_is.in_grid)

pub barriers_of-requires-clause-holes_some : goal.barriers_of-requires-clause-holes_some
barriers_of-requires-clause-holes_some c =
    subst (λ (hs : List (Vec Corner Global)). All IsSome (items_of hs)) (sym c.deref-2.ensures.value)
    (holes_some c.args.view (length c.args.outer.now) (items_of c.args.inner.now) (items_of c.in_ok-holes.holes.items) c.in_ok-holes.ensures c.requires.inner_are)

pub barriers_of-requires-clause-holes_in : goal.barriers_of-requires-clause-holes_in
barriers_of-requires-clause-holes_in c =
    subst (λ (hs : List (Vec Corner Global)). All AreInGrid (items_of hs)) (sym c.deref-2.ensures.value)
    (holes_in_grid c.args.view (length c.args.outer.now) (items_of c.args.inner.now) (items_of c.in_ok-holes.holes.items) c.in_ok-holes.ensures c.requires.inner_are)

pub loop-step-init : goal.loop-step-init
loop-step-init c =
    let view = c.args.view in let current = c.in_ok-current.current.items in let holes = c.in_ok-holes.holes.items in
    record {
      framed = c.in_ok-barriers.ensures.framed;
      tried = nothing_tried view (segments_of c.in_ok-barriers.barriers) current (items_of holes) c.new-tried.result.items c.new-tried.ensures.items;
      joining = joining_begun view c.args.outer.now (items_of c.args.inner.now) (length c.args.inner.now - 0) current (items_of holes) (segments_of c.in_ok-barriers.barriers)
          (omega (arith, length-map c.args.inner.now (λ (v : Vec Point Global). v.items))) c.in_ok-current.ensures c.in_ok-holes.ensures c.requires.outer_is.in_grid c.requires.inner_are
          (c.in_ok-barriers.ensures.edges
          ∙ (ap (λ (cs : List Corner). all_edges view cs (items_of c.deref-2.result.now)) c.deref.ensures.value ∙ ap (λ (hs : List (Vec Corner Global)). all_edges view current (items_of hs)) c.deref-2.ensures.value));
    }

-- ---- a bridge
pub first_bridge-requires-clause-tried : goal.first_bridge-requires-clause-tried
first_bridge-requires-clause-tried c =
    let view = c.args.view in let edges = segments_of c.loop-step.barriers in let holes = c.loop-step.holes.items in
    subst (λ (cs : List Corner). AreTried view edges cs (items_of c.deref-in-loop-step-2.result.now) c.deref-in-loop-step-3.result.now) (sym c.deref-in-loop-step.ensures.value)
    (subst (λ (hs : List (Vec Corner Global)). AreTried view edges c.loop-step.current.items (items_of hs) c.deref-in-loop-step-3.result.now) (sym c.deref-in-loop-step-2.ensures.value)
    (subst (λ (ns : List ℕ). AreTried view edges c.loop-step.current.items (items_of holes) ns) (sym c.deref-in-loop-step-3.ensures.value) c.loop-step.invariant.tried))

pub returns-in_default : goal.returns-in_default
returns-in_default c =
    let view = c.args.view in let inner = items_of c.args.inner.now in let n = length c.args.inner.now in let k = c.loop-step.step in
    let edges = segments_of c.loop-step.barriers in
    joining_stuck view (joined_in view c.args.outer.now inner) (n - k) (n - (k + 1)) c.loop-step.current.items (items_of c.loop-step.holes.items) edges
    c.loop-step.invariant.joining (to_come n k c.loop-step-test.true)
    (c.in_default.ensures.first
    ∙ (ap (λ (cs : List Corner). bridge_by view edges cs (items_of c.deref-in-loop-step-2.result.now)) c.deref-in-loop-step.ensures.value
    ∙ ap (λ (hs : List (Vec Corner Global)). bridge_by view edges c.loop-step.current.items (items_of hs)) c.deref-in-loop-step-2.ensures.value))

pub add_bridge-requires-clause-from_in : goal.add_bridge-requires-clause-from_in
add_bridge-requires-clause-from_in c =
    let current = c.loop-step.current.items in let holes = c.loop-step.holes.items in let b = c.in-Some.bridge in
    let w = read_bridge c.deref-in-loop-step.result.now current c.deref-in-loop-step-2.result.now holes b c.deref-in-loop-step.ensures.value c.deref-in-loop-step-2.ensures.value c.in-Some.ensures.within in
    from_in_grid current (items_of holes) b c.index.result.now w c.loop-step.invariant.joining.current_in c.index.ensures

pub add_bridge-requires-clause-to_in : goal.add_bridge-requires-clause-to_in
add_bridge-requires-clause-to_in c =
    let current = c.loop-step.current.items in let holes = c.loop-step.holes.items in let b = c.in-Some.bridge in
    let w = read_bridge c.deref-in-loop-step.result.now current c.deref-in-loop-step-2.result.now holes b c.deref-in-loop-step.ensures.value c.deref-in-loop-step-2.ensures.value c.in-Some.ensures.within in
    to_in_grid current (items_of holes) b c.remove-hole.result.items c.index-in-loop-step.result.now w c.loop-step.invariant.joining.loops_in
    (taken_hole holes current b c.remove-hole.result w c.remove-hole.ensures.value) c.index-in-loop-step.ensures

pub loop-step-preserved : goal.loop-step-preserved
loop-step-preserved c =
    let view = c.args.view in let inner = items_of c.args.inner.now in let n = length c.args.inner.now in let k = c.loop-step.step in
    let current = c.loop-step.current.items in let holes = c.loop-step.holes.items in let b = c.in-Some.bridge in
    let edges = segments_of c.loop-step.barriers in let hole = c.remove-hole.result.items in
    let w = read_bridge c.deref-in-loop-step.result.now current c.deref-in-loop-step-2.result.now holes b c.deref-in-loop-step.ensures.value c.deref-in-loop-step-2.ensures.value c.in-Some.ensures.within in
    let e = taken_hole holes current b c.remove-hole.result w c.remove-hole.ensures.value in
    let passed =
    subst (λ (cs : List Corner). ArePassed view edges cs (items_of holes) b.hole) c.deref-in-loop-step.ensures.value
    (subst (λ (hs : List (Vec Corner Global)). ArePassed view edges c.deref-in-loop-step.result.now (items_of hs) b.hole) c.deref-in-loop-step-2.ensures.value c.in-Some.ensures.passed) in
    let made =
    c.in_ok-current-2.ensures
    ∙ (ap (λ (cs : List Corner). joined_at cs b.from c.deref-in-loop-step-5.result.now b.to) c.deref-in-loop-step-4.ensures.value ∙ ap (λ (cs : List Corner). joined_at current b.from cs b.to) c.deref-in-loop-step-5.ensures.value) in
    let left = ap (λ (hs : List (Vec Corner Global)). items_of hs) c.remove-hole.ensures.items ∙ items_without holes b.hole in
    record {
      framed = c.in_ok-add_bridge.ensures.framed;
      tried = tried_bridged view edges (segments_of c.add_bridge.new.barriers) current (items_of holes) b hole c.in_ok-current-2.current.items (items_of c.remove-hole.new.self.items) c.loop-step.tried.items c.in_ok-tried.tried.items
          (segment (spot_of view c.index.result.now) (spot_of view c.index-in-loop-step.result.now)) (segment (spot_of view c.index-in-loop-step.result.now) (spot_of view c.index.result.now)) (c.len-more.result + 2) w c.loop-step.invariant.tried
          passed e made left (omega (arith, c.len-more.ensures, c.remove-hole.result.ok.0)) c.in_ok-add_bridge.ensures.edges
          (subst (λ (ns : List ℕ). WereTried ns b.from (c.len-more.result + 2) b.hole c.in_ok-tried.tried.items) c.deref-in-loop-step-6.ensures.value c.in_ok-tried.ensures);
      joining = joining_bridged view (joined_in view c.args.outer.now inner) (n - k) (n - (k + 1)) current (items_of holes) edges b hole c.in_ok-current-2.current.items (items_of c.remove-hole.new.self.items) (segments_of c.add_bridge.new.barriers)
          (spot_of view c.index.result.now) (spot_of view c.index-in-loop-step.result.now) c.loop-step.invariant.joining (to_come n k c.loop-step-test.true) w
          (read_first view edges c.deref-in-loop-step.result.now current c.deref-in-loop-step-2.result.now holes (Some b) c.deref-in-loop-step.ensures.value c.deref-in-loop-step-2.ensures.value c.in-Some.ensures.first)
          e
          made left
          (from_spot view current (items_of holes) b c.index.result.now w c.index.ensures)
          (to_spot view current (items_of holes) b hole c.index-in-loop-step.result.now w e c.index-in-loop-step.ensures)
          c.in_ok-add_bridge.ensures.edges;
    }

pub returns : goal.returns
returns c =
    let view = c.args.view in let inner = items_of c.args.inner.now in let n = length c.args.inner.now in let k = c.loop-step.step in
    joining_ended view (joined_in view c.args.outer.now inner) (n - k) c.loop-step.current.items (items_of c.loop-step.holes.items) (segments_of c.loop-step.barriers)
    c.loop-step.invariant.joining (no_more n k c.loop-step-test.false)
