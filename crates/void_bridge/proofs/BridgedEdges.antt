-- What no bridge may meet, and the loops that are left, as the code keeps them from bridge to bridge.
use Rattle.std.proofs.Common.{◌≡◌, ◌∙◌, ap, sym, ℕ, suc, ◌+◌, ◌-◌, ◌<◌, ◌≤◌, Bool, ◌||◌, List, [], ◌∷◌, ◌++◌, append_assoc, map, take, drop, Option, Vec, Global, arith}
use Rattle.std.specs.Prelude.{slice_index_or, remove}
use Rattle.std.specs.List.{list_any}
use Rattle.std.proofs.lemmas.List.{map-append, take-map, drop-map}
use Rattle.std.proofs.lemmas.List.Folds.{list_any-append}
use Rattle.ear_cut.specs.declared.polygon_view.View.{View}
use Rattle.ear_cut.specs.declared.corners.Corner.{Corner}
use Rattle.ear_cut.specs.PolygonViews.{Spot}
use Rattle.ear_cut.specs.Corners.{nobody}
use Rattle.void_bridge.specs.declared.bridges.Bridge.{Bridge}
use Rattle.void_bridge.specs.LoopEdges.{Segment, segment, spot_of, all_edges}
use Rattle.void_bridge.specs.Bridges.{bridge_by, first_bridge, IsBridgeIn, joined_by}
use Rattle.void_bridge.specs.inner.Barriers.{AreSame}
use Rattle.void_bridge.proofs.SameEdges.{edges_joined, bridge_alike}
use Rattle.void_bridge.proofs.HolesRead.{items_of}

-- the first bridge by the edges that are kept
pub first_by : (view : View) (current : List Corner) (loops : List (List Corner)) (edges : List Segment) (found : Option Bridge) → AreSame edges (all_edges view current loops) → found ≡ bridge_by view edges current loops → found ≡ first_bridge view current loops
unfolding first_bridge
first_by view current loops edges found s e = e ∙ bridge_alike view edges (all_edges view current loops) current loops s

-- the edges that are kept, once the bridge is added there and back
pub bridged_same : (view : View) (current : List Corner) (loops : List (List Corner)) (b : Bridge) (old new : List Segment) (p q : Spot) → IsBridgeIn current loops b
    → p ≡ spot_of view (slice_index_or current b.from nobody) → q ≡ spot_of view (slice_index_or (slice_index_or loops b.hole []) b.to nobody)
    → AreSame old (all_edges view current loops) → new ≡ (old ++ segment p q ∷ []) ++ segment q p ∷ [] → AreSame new (all_edges view (joined_by current loops b) (remove loops b.hole))
bridged_same view current loops b old new p q w e f s k = λ test.
    let x = spot_of view (slice_index_or current b.from nobody) in
    let y = spot_of view (slice_index_or (slice_index_or loops b.hole []) b.to nobody) in
    let all = all_edges view current loops in
    ap (list_any test) (k ∙ (append_assoc old (segment p q ∷ []) (segment q p ∷ [])
    ∙ (ap (λ (t : Spot). old ++ segment t q ∷ segment q t ∷ []) e ∙ ap (λ (t : Spot). old ++ segment x t ∷ segment t x ∷ []) f)))
    ∙ (list_any-append test old (segment x y ∷ segment y x ∷ [])
    ∙ (ap (λ (b : Bool). b || list_any test (segment x y ∷ segment y x ∷ [])) (s test)
    ∙ (sym (list_any-append test all (segment x y ∷ segment y x ∷ [])) ∙ sym (edges_joined view current loops b w test))))

-- the loops that are left
pub items_without : {X : Type 0} (vs : List (Vec X Global)) (k : ℕ) → items_of (remove vs k) ≡ remove (items_of vs) k
items_without {X} vs k =
    map-append (λ (v : Vec X Global). v.items) (take k vs) (drop (suc k) vs)
    ∙ (ap (λ (l : List (List X)). l ++ map (λ (v : Vec X Global). v.items) (drop (suc k) vs)) (sym (take-map (λ (v : Vec X Global). v.items) k vs))
    ∙ ap (λ (l : List (List X)). take k (items_of vs) ++ l) (sym (drop-map (λ (v : Vec X Global). v.items) (suc k) vs)))

-- bridges that are still to come, one of them now
pub to_come : (n k : ℕ) → k < n → n - k ≡ suc (n - (k + 1))
to_come n k h = omega (arith, h)

pub no_more : (n k : ℕ) → n ≤ k → n - k ≡ 0
no_more n k h = omega (arith, h)
