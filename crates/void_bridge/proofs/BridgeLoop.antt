-- What the loop over the bridges keeps: the current list, the loops that are left and the edges that no bridge may meet.
use Rattle.std.proofs.Common.{◌≡◌, ◌∙◌, ap, sym, subst, ℕ, suc, ◌<◌, List, [], ◌∷◌, ◌++◌, length, map, get_or, All, Option, Some, None, Vec, Global, arith}
use Rattle.std.specs.Prelude.{slice_index_or, remove}
use Rattle.std.proofs.lemmas.List.{get_or_default, length-map}
use Rattle.bim_model.specs.declared.geometry.Point.{Point}
use Rattle.bim_model.specs.Points.{IsGridPoint}
use Rattle.ear_cut.specs.declared.polygon_view.View.{View}
use Rattle.ear_cut.specs.declared.corners.Corner.{Corner}
use Rattle.ear_cut.specs.PolygonViews.{Spot}
use Rattle.ear_cut.specs.Corners.{nobody, corners_from, AreInGrid}
use Rattle.ear_cut.proofs.Closed.{corner_in_grid}
use Rattle.void_bridge.specs.declared.bridges.Bridge.{Bridge}
use Rattle.void_bridge.specs.HoleLoops.{loops_from, oriented, AreLoops}
use Rattle.void_bridge.specs.LoopEdges.{Segment, segment, spot_of, all_edges}
use Rattle.void_bridge.specs.Bridges.{bridge_by, IsBridgeIn, joined_at, joined_by, join_by, joined_in}
use Rattle.void_bridge.specs.inner.Barriers.{AreSame}
use Rattle.void_bridge.proofs.HolesRead.{items_of, item_at}
use Rattle.void_bridge.proofs.SameEdges.{same_lists}
use Rattle.void_bridge.proofs.BridgeSteps.{step_on, step_stuck, all_joined}
use Rattle.void_bridge.proofs.BridgedEdges.{first_by, bridged_same}
use Rattle.void_bridge.proofs.LoopsInGrid.{outer_in_grid, holes_in_grid, bridged_in_grid, left_in_grid}

-- what is to come of the whole list from n bridges on
pub record IsJoining (view : View) (whole : Option (List Corner)) (n : ℕ) (current : List Corner) (loops : List (List Corner)) (edges : List Segment) : Type 0 where
  pub current_in : AreInGrid current
  pub loops_in : All AreInGrid loops
  pub same : AreSame edges (all_edges view current loops)
  pub rest : whole ≡ join_by view n current loops

joined_from : (view : View) (outer : List Point) (inner : List (List Point)) (n : ℕ) (current : List Corner) (loops : List (List Corner)) → n ≡ length inner → current ≡ corners_from 0 outer → loops ≡ map (oriented view) (loops_from (length outer) inner)
    → joined_in view outer inner ≡ join_by view n current loops
joined_from view outer inner n current loops e f g =
    sym (ap (λ (m : ℕ). join_by view m current loops) e
    ∙ (ap (λ (cs : List Corner). join_by view (length inner) cs loops) f ∙ ap (λ (ls : List (List Corner)). join_by view (length inner) (corners_from 0 outer) ls) g))

pub joining_begun : (view : View) (outer : List Point) (inner : List (List Point)) (n : ℕ) (current : List Corner) (loops : List (List Corner)) (edges : List Segment) → n ≡ length inner → current ≡ corners_from 0 outer
    → loops ≡ map (oriented view) (loops_from (length outer) inner) → All IsGridPoint outer → AreLoops inner → edges ≡ all_edges view current loops → IsJoining view (joined_in view outer inner) n current loops edges
joining_begun view outer inner n current loops edges e f g h k s = record {
  current_in = outer_in_grid 0 outer current f h;
  loops_in = holes_in_grid view (length outer) inner loops g k;
  same = same_lists edges (all_edges view current loops) s;
  rest = joined_from view outer inner n current loops e f g;
}

-- ---- a bridge
pub joining_stuck : (view : View) (whole : Option (List Corner)) (n m : ℕ) (current : List Corner) (loops : List (List Corner)) (edges : List Segment) → IsJoining view whole n current loops edges → n ≡ suc m → None ≡ bridge_by view edges current loops → whole ≡ None
joining_stuck view whole n m current loops edges j e f = step_stuck view n m current loops whole e (first_by view current loops edges None j.same f) j.rest

pub joining_ended : (view : View) (whole : Option (List Corner)) (n : ℕ) (current : List Corner) (loops : List (List Corner)) (edges : List Segment) → IsJoining view whole n current loops edges → n ≡ 0 → whole ≡ Some current
joining_ended view whole n current loops edges j e = all_joined view n current loops whole e j.rest

-- by the list and the loops as the specification names them
bridged : (view : View) (whole : Option (List Corner)) (n m : ℕ) (current : List Corner) (loops : List (List Corner)) (edges : List Segment) (b : Bridge) (new : List Segment) (p q : Spot) → IsJoining view whole n current loops edges → n ≡ suc m → IsBridgeIn current loops b
    → Some b ≡ bridge_by view edges current loops → p ≡ spot_of view (slice_index_or current b.from nobody) → q ≡ spot_of view (slice_index_or (slice_index_or loops b.hole []) b.to nobody) → new ≡ (edges ++ segment p q ∷ []) ++ segment q p ∷ []
    → IsJoining view whole m (joined_by current loops b) (remove loops b.hole) new
bridged view whole n m current loops edges b new p q j e w f g h k = record {
  current_in = bridged_in_grid current loops b w j.current_in j.loops_in;
  loops_in = left_in_grid loops b.hole j.loops_in;
  same = bridged_same view current loops b edges new p q w g h j.same k;
  rest = step_on view n m current loops b whole e (first_by view current loops edges (Some b) j.same f) j.rest;
}

pub joining_bridged : (view : View) (whole : Option (List Corner)) (n m : ℕ) (current : List Corner) (loops : List (List Corner)) (edges : List Segment) (b : Bridge) (hole made : List Corner) (left : List (List Corner)) (new : List Segment) (p q : Spot)
    → IsJoining view whole n current loops edges → n ≡ suc m → IsBridgeIn current loops b → Some b ≡ bridge_by view edges current loops → hole ≡ slice_index_or loops b.hole [] → made ≡ joined_at current b.from hole b.to → left ≡ remove loops b.hole
    → p ≡ spot_of view (slice_index_or current b.from nobody) → q ≡ spot_of view (slice_index_or hole b.to nobody) → new ≡ (edges ++ segment p q ∷ []) ++ segment q p ∷ [] → IsJoining view whole m made left new
joining_bridged view whole n m current loops edges b hole made left new p q j e w f i l o g h k =
    let x = ap (λ (c : List Corner). spot_of view (slice_index_or c b.to nobody)) i in
    let y = ap (λ (c : List Corner). joined_at current b.from c b.to) i in
    subst (λ (ls : List (List Corner)). IsJoining view whole m made ls new) (sym o)
    (subst (λ (cs : List Corner). IsJoining view whole m cs (remove loops b.hole) new) (sym (l ∙ y))
    (bridged view whole n m current loops edges b new p q j e w f g (h ∙ x) k))

-- ---- what the code reads: the list, the loops and the corners by its own values
pub read_bridge : (cs ds : List Corner) (hs ks : List (Vec Corner Global)) (b : Bridge) → cs ≡ ds → hs ≡ ks → IsBridgeIn cs (items_of hs) b → IsBridgeIn ds (items_of ks) b
read_bridge cs ds hs ks b e f w =
    subst (λ (l : List Corner). IsBridgeIn l (items_of ks) b) e (subst (λ (l : List (Vec Corner Global)). IsBridgeIn cs (items_of l) b) f w)

pub read_first : (view : View) (edges : List Segment) (cs ds : List Corner) (hs ks : List (Vec Corner Global)) (found : Option Bridge) → cs ≡ ds → hs ≡ ks → found ≡ bridge_by view edges cs (items_of hs) → found ≡ bridge_by view edges ds (items_of ks)
read_first view edges cs ds hs ks found e f g =
    g ∙ (ap (λ (l : List Corner). bridge_by view edges l (items_of hs)) e ∙ ap (λ (l : List (Vec Corner Global)). bridge_by view edges ds (items_of l)) f)

pub taken_hole : (holes : List (Vec Corner Global)) (current : List Corner) (b : Bridge) (hole : Vec Corner Global) → IsBridgeIn current (items_of holes) b → hole ≡ get_or holes b.hole hole → hole.items ≡ slice_index_or (items_of holes) b.hole []
taken_hole holes current b hole w e =
    let n = length-map holes (λ (v : Vec Corner Global). v.items) in
    item_at holes b.hole hole (omega (arith, w.hole, n)) e

pub from_in_grid : (current : List Corner) (loops : List (List Corner)) (b : Bridge) (p : Corner) → IsBridgeIn current loops b → AreInGrid current → p ≡ slice_index_or current b.from p → IsGridPoint p.point
from_in_grid current loops b p w h e = subst (λ (q : Corner). IsGridPoint q.point) (sym e) (corner_in_grid current b.from p h w.from)

to_within : (current : List Corner) (loops : List (List Corner)) (b : Bridge) (hole : List Corner) → IsBridgeIn current loops b → hole ≡ slice_index_or loops b.hole [] → b.to < length hole
to_within current loops b hole w e = subst (λ (l : List Corner). b.to < length l) (sym e) w.to

pub to_in_grid : (current : List Corner) (loops : List (List Corner)) (b : Bridge) (hole : List Corner) (q : Corner) → IsBridgeIn current loops b → All AreInGrid loops → hole ≡ slice_index_or loops b.hole [] → q ≡ slice_index_or hole b.to q → IsGridPoint q.point
to_in_grid current loops b hole q w h e f =
    subst (λ (p : Corner). IsGridPoint p.point) (sym f) (corner_in_grid hole b.to q (subst AreInGrid (sym e) (h b.hole [] w.hole)) (to_within current loops b hole w e))

pub from_spot : (view : View) (current : List Corner) (loops : List (List Corner)) (b : Bridge) (p : Corner) → IsBridgeIn current loops b → p ≡ slice_index_or current b.from p → spot_of view p ≡ spot_of view (slice_index_or current b.from nobody)
from_spot view current loops b p w e = ap (spot_of view) (e ∙ get_or_default current b.from p nobody w.from)

pub to_spot : (view : View) (current : List Corner) (loops : List (List Corner)) (b : Bridge) (hole : List Corner) (q : Corner) → IsBridgeIn current loops b → hole ≡ slice_index_or loops b.hole [] → q ≡ slice_index_or hole b.to q → spot_of view q ≡ spot_of view (slice_index_or hole b.to nobody)
to_spot view current loops b hole q w e f = ap (spot_of view) (f ∙ get_or_default hole b.to q nobody (to_within current loops b hole w e))
