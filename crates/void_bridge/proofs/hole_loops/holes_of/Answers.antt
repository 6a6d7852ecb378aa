use Rattle.std.proofs.Common.{◌≡◌, ◌∙◌, ap, sym, subst, ◌<◌, ◌≤◌, ◌+◌, ℕ, [], List, length, Vec, Global, arith}
use Rattle.std.specs.Prelude.{slice_index_or}
use Rattle.std.proofs.lemmas.List.{length-map, map_push}
use Rattle.bim_model.specs.declared.geometry.Point.{Point}
use Rattle.ear_cut.specs.declared.corners.Corner.{Corner}
use Rattle.void_bridge.specs.HoleLoops.{IsLoop}
use Rattle.void_bridge.proofs.HolesRead.{items_of, item_at, hole_more, next_more, next_within}
use Rattle.void_bridge.proofs.hole_loops.holes_of.Goals as goal

-- the loop of this turn
points_are : (c : goal.After-deref) → c.deref.result.now ≡ slice_index_or (items_of c.args.inner.now) c.loop-points.points-index []
points_are c = c.deref.ensures.value ∙ item_at c.args.inner.now c.loop-points.points-index c.points-item.result c.loop-points-test.true c.points-item.is

in_loops : (c : goal.After-deref) → c.loop-points.points-index < length (items_of c.args.inner.now)
in_loops c = let n = length-map c.args.inner.now (λ (v : Vec Point Global). v.items) in omega (arith, c.loop-points-test.true, n)

is_loop : (c : goal.After-deref) → IsLoop c.deref.result.now
is_loop c = subst IsLoop (sym (points_are c)) (c.requires.loops c.loop-points.points-index [] (in_loops c))

within : (c : goal.After-deref) → c.loop-points.next + length c.deref.result.now ≤ 32768
within c = next_within c.args.first c.loop-points.next (items_of c.args.inner.now) c.loop-points.points-index 32768 c.deref.result.now (in_loops c) (points_are c) c.loop-points.invariant.next_is c.requires.few

pub hole_of-requires-clause-some : goal.hole_of-requires-clause-some
hole_of-requires-clause-some c = omega (arith, (is_loop c).three)

pub hole_of-requires-clause-few : goal.hole_of-requires-clause-few
hole_of-requires-clause-few c = within c

pub hole_of-requires-clause-in_grid : goal.hole_of-requires-clause-in_grid
hole_of-requires-clause-in_grid c = (is_loop c).in_grid

pub overflow_add-next : goal.overflow_add-next
overflow_add-next c =
    let inner = c.args.inner.now in let i = c.loop-points.points-index in
    let n = length-map inner (λ (v : Vec Point Global). v.items) in
    let w : i < length (items_of inner) = omega (arith, c.loop-points-test.true, n) in
    let e = c.deref.ensures.value ∙ item_at inner i c.points-item.result c.loop-points-test.true c.points-item.is in
    let h = next_within c.args.first c.loop-points.next (items_of inner) i 32768 c.deref.result.now w e c.loop-points.invariant.next_is c.requires.few in
    omega (arith, h, c.len.ensures, c.deref.ensures.len)

pub loop-points-preserved : goal.loop-points-preserved
loop-points-preserved c =
    let inner = c.args.inner.now in let i = c.loop-points.points-index in let points = c.deref.result.now in
    let n = length-map inner (λ (v : Vec Point Global). v.items) in
    let w : i < length (items_of inner) = omega (arith, c.loop-points-test.true, n) in
    let e = c.deref.ensures.value ∙ item_at inner i c.points-item.result c.loop-points-test.true c.points-item.is in
    let h = next_more c.args.first c.loop-points.next (items_of inner) i points w e c.loop-points.invariant.next_is in
    let l = c.len.ensures ∙ sym c.deref.ensures.len in
    record {
      next_is = ap (λ (k : ℕ). c.loop-points.next + k) l ∙ h;
      made = hole_more c.args.view c.args.first c.loop-points.next (items_of inner) i (items_of c.loop-points.holes.items) (items_of c.push.new.self.items) points c.in_ok-hole_of.field-0.items w e c.loop-points.invariant.next_is
          c.in_ok-hole_of.ensures c.loop-points.invariant.made (ap (λ (hs : List (Vec Corner Global)). items_of hs) c.in_ok-push.ensures.items ∙ map_push (λ (v : Vec Corner Global). v.items) c.loop-points.holes.items c.in_ok-hole_of.field-0);
    }
