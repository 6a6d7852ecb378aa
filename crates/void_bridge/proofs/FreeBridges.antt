-- Whether a bridge is free, by the spots of its corners, and the first one that is.
use Rattle.std.proofs.Common.{◌≡◌, ◌∙◌, ap, sym, refl, ℕ, Bool, true, false, not, ◌&&◌, ◌||◌, cond, List, length, [], Option}
use Rattle.std.specs.Prelude.{slice_index_or}
use Rattle.std.specs.List.{list_any}
use Rattle.std.specs.Option.{option_map}
use Rattle.ear_cut.specs.declared.polygon_view.View.{View}
use Rattle.ear_cut.specs.declared.corners.Corner.{Corner}
use Rattle.ear_cut.specs.declared.corners.Turn.{Turn}
use Rattle.ear_cut.specs.PolygonViews.{Spot, same_spot}
use Rattle.ear_cut.specs.Corners.{nobody, turn_at}
use Rattle.ear_cut.specs.Removal.{first_from}
use Rattle.void_bridge.specs.declared.bridges.Bridge.{Bridge}
use Rattle.void_bridge.specs.LoopEdges.{Segment, segment, spot_of, collide}
use Rattle.void_bridge.specs.Bridges.{leads_inside, is_free, first_found, bridge_from}

-- the three things that make a bridge free
abbrev frees : Bool → Bool → Bool → Bool
frees same inside blocked = not same && (inside && not blocked)

frees_same : (s i b : Bool) → s ≡ true → false ≡ frees s i b
frees_same true i b e = refl
frees_same false i b e = absurd (cc e)

frees_outside : (s i b : Bool) → i ≡ false → false ≡ frees s i b
frees_outside true i b e = refl
frees_outside false true b e = absurd (cc e)
frees_outside false false b e = refl

frees_inside : (s i b r : Bool) → s ≡ false → i ≡ true → r ≡ not b → r ≡ frees s i b
frees_inside true i b r e f g = absurd (cc e)
frees_inside false true b r e f g = g
frees_inside false false b r e f g = absurd (cc f)

-- by the spots of the corners
free_at : (view : View) (edges : List Segment) (t : Turn) (c : Corner) (p a b d : Spot) → a ≡ spot_of view t.before → b ≡ spot_of view t.corner → d ≡ spot_of view t.after → p ≡ spot_of view c
    → frees (same_spot b p) (leads_inside view a b d p) (list_any (collide view (segment b p)) edges) ≡ is_free view edges t c
unfolding is_free
free_at view edges t c p a b d e f g h =
    ap (λ (s : Spot). frees (same_spot b p) (leads_inside view s b d p) (list_any (collide view (segment b p)) edges)) e
    ∙ (ap (λ (s : Spot). frees (same_spot s p) (leads_inside view (spot_of view t.before) s d p) (list_any (collide view (segment s p)) edges)) f
    ∙ (ap (λ (s : Spot). frees (same_spot (spot_of view t.corner) p) (leads_inside view (spot_of view t.before) (spot_of view t.corner) s p) (list_any (collide view (segment (spot_of view t.corner) p)) edges)) g
    ∙ ap (λ (s : Spot). frees (same_spot (spot_of view t.corner) s) (leads_inside view (spot_of view t.before) (spot_of view t.corner) (spot_of view t.after) s) (list_any (collide view (segment (spot_of view t.corner) s)) edges)) h))

pub ends_are_one : (view : View) (edges : List Segment) (t : Turn) (c : Corner) (p b : Spot) → b ≡ spot_of view t.corner → p ≡ spot_of view c → same_spot b p ≡ true → false ≡ is_free view edges t c
ends_are_one view edges t c p b f h e =
    let a = spot_of view t.before in let d = spot_of view t.after in
    frees_same (same_spot b p) (leads_inside view a b d p) (list_any (collide view (segment b p)) edges) e ∙ free_at view edges t c p a b d refl f refl h

pub leads_outside : (view : View) (edges : List Segment) (t : Turn) (c : Corner) (p a b d : Spot) → a ≡ spot_of view t.before → b ≡ spot_of view t.corner → d ≡ spot_of view t.after → p ≡ spot_of view c → leads_inside view a b d p ≡ false → false ≡ is_free view edges t c
leads_outside view edges t c p a b d e f g h i =
    frees_outside (same_spot b p) (leads_inside view a b d p) (list_any (collide view (segment b p)) edges) i ∙ free_at view edges t c p a b d e f g h

pub free_unless_blocked : (view : View) (edges : List Segment) (t : Turn) (c : Corner) (p a b d : Spot) (blocked : Bool) → a ≡ spot_of view t.before → b ≡ spot_of view t.corner → d ≡ spot_of view t.after → p ≡ spot_of view c
    → same_spot b p ≡ false → leads_inside view a b d p ≡ true → blocked ≡ list_any (collide view (segment b p)) edges → not blocked ≡ is_free view edges t c
free_unless_blocked view edges t c p a b d blocked e f g h s i k =
    frees_inside (same_spot b p) (leads_inside view a b d p) (list_any (collide view (segment b p)) edges) (not blocked) s i (ap not k) ∙ free_at view edges t c p a b d e f g h

-- the bridge to the k-th loop from the i-th corner, by what is found for the corner's turn
abbrev pub bridge : ℕ → ℕ → ℕ → Bridge
bridge k i j = record { hole = k; from = i; to = j }

pub bridge_at : (view : View) (edges : List Segment) (current loop : List Corner) (k i : ℕ) (t : Turn) (found : Option ℕ) → t ≡ turn_at current i
    → found ≡ first_from (λ j. is_free view edges t (slice_index_or loop j nobody)) 0 (length loop) → bridge_from view edges current loop k i ≡ option_map (bridge k i) found
bridge_at view edges current loop k i t found e f =
    sym (ap (option_map (bridge k i)) (f ∙ ap (λ (u : Turn). first_from (λ j. is_free view edges u (slice_index_or loop j nobody)) 0 (length loop)) e))

-- the loop that is asked is the k-th
pub bridges_at : (view : View) (edges : List Segment) (current loop : List Corner) (loops : List (List Corner)) (k : ℕ) (found : Option Bridge) → loop ≡ slice_index_or loops k []
    → found ≡ first_found (bridge_from view edges current loop k) 0 (length current) → first_found (bridge_from view edges current (slice_index_or loops k []) k) 0 (length current) ≡ found
bridges_at view edges current loop loops k found e f =
    sym (f ∙ ap (λ (l : List Corner). first_found (bridge_from view edges current l k) 0 (length current)) e)

-- ---- a way into the angle at a corner, by whether the corner turns left and by what the way is left of
abbrev inside : Bool → Bool → Bool → Bool
inside turns x y = cond turns (x && y) (x || y)

pub turns_both : (t x y r : Bool) → t ≡ true → x ≡ true → r ≡ y → r ≡ inside t x y
turns_both true true y r e f g = g
turns_both true false y r e f g = absurd (cc f)
turns_both false x y r e f g = absurd (cc e)

pub turns_outside : (t x y : Bool) → t ≡ true → x ≡ false → false ≡ inside t x y
turns_outside true true y e f = absurd (cc f)
turns_outside true false y e f = refl
turns_outside false x y e f = absurd (cc e)

pub bends_inside : (t x y : Bool) → t ≡ false → x ≡ true → true ≡ inside t x y
bends_inside true x y e f = absurd (cc e)
bends_inside false true y e f = refl
bends_inside false false y e f = absurd (cc f)

pub bends_other : (t x y r : Bool) → t ≡ false → x ≡ false → r ≡ y → r ≡ inside t x y
bends_other true x y r e f g = absurd (cc e)
bends_other false true y r e f g = absurd (cc f)
bends_other false false y r e f g = g
