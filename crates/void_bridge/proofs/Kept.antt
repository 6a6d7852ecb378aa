-- What is found first, and what each bridge keeps up to the joined list.
use Rattle.std.proofs.Common.{◌≡◌, refl, subst, ℕ, zero, suc, ◌+◌, ◌<◌, ◌≤◌, List, [], length, Option, Some, None, arith}
use Rattle.std.specs.Prelude.{slice_index_or, remove}
use Rattle.std.specs.Option.{option_map, option_and_then}
use Rattle.std.proofs.lemmas.List.{nil_from_length}
use Rattle.std.proofs.lemmas.List.Edits.{length-remove}
use Rattle.ear_cut.specs.declared.polygon_view.View.{View}
use Rattle.ear_cut.specs.declared.corners.Corner.{Corner}
use Rattle.ear_cut.specs.Corners.{nobody, turn_at}
use Rattle.ear_cut.specs.Removal.{first_from}
use Rattle.ear_cut.proofs.AreaSum.{found_within}
use Rattle.void_bridge.specs.declared.bridges.Bridge.{Bridge}
use Rattle.void_bridge.specs.LoopEdges.{Segment, all_edges}
use Rattle.void_bridge.specs.Bridges.{is_free, or_found, first_found, bridge_from, bridge_by, first_bridge, IsBridgeIn, joined_by, join_by}

-- ---- what is found first
either_found : {A : Type 0} (P : A → Type 0) (a b : Option A) (r : A) → (a ≡ Some r → P r) → (b ≡ Some r → P r) → or_found a b ≡ Some r → P r
either_found P (Some x) b r f g h = f h
either_found P None b r f g h = g h

found_by : {A : Type 0} (P : A → Type 0) (find : ℕ → Option A) (i n : ℕ) (r : A) → ((k : ℕ) → i ≤ k → k < i + n → find k ≡ Some r → P r) → first_found find i n ≡ Some r → P r
found_by P find i zero r f h = absurd (cc h)
found_by P find i (suc n) r f h =
    either_found P (find i) (first_found find (i + 1) n) r (f i (omega arith) (omega arith))
    (λ e. found_by P find (i + 1) n r (λ k l m. f k (omega arith) (omega arith)) e) h

abbrev bridge : ℕ → ℕ → ℕ → Bridge
bridge k i j = record { hole = k; from = i; to = j }

by_ends : (P : Bridge → Type 0) (k i : ℕ) (o : Option ℕ) (b : Bridge) → ((j : ℕ) → o ≡ Some j → P (bridge k i j)) → option_map (bridge k i) o ≡ Some b → P b
by_ends P k i None b f h = absurd (cc h)
by_ends P k i (Some j) b f h = let e : bridge k i j ≡ b = cc h in subst P e (f j refl)

from_zero : (i n : ℕ) → i < 0 + n → i < n
from_zero i n h = omega (arith, h)

-- the first bridge leads from a corner of the list to a corner of a loop
pub bridge_in : (view : View) (edges : List Segment) (current : List Corner) (loops : List (List Corner)) (b : Bridge) → bridge_by view edges current loops ≡ Some b → IsBridgeIn current loops b
bridge_in view edges current loops b h =
    found_by (IsBridgeIn current loops) (λ k. first_found (bridge_from view edges current (slice_index_or loops k []) k) 0 (length current)) 0 (length loops) b
    (λ k l m e. found_by (IsBridgeIn current loops) (bridge_from view edges current (slice_index_or loops k []) k) 0 (length current) b
    (λ i n o f. by_ends (IsBridgeIn current loops) k i (first_from (λ j. is_free view edges (turn_at current i) (slice_index_or (slice_index_or loops k []) j nobody)) 0 (length (slice_index_or loops k []))) b
    (λ j g. record {
      hole = from_zero k (length loops) m;
      from = from_zero i (length current) o;
      to = from_zero j (length (slice_index_or loops k [])) (found_within (λ j. is_free view edges (turn_at current i) (slice_index_or (slice_index_or loops k []) j nobody)) 0 (length (slice_index_or loops k [])) j g);
    }) f) e) h

-- ---- from bridge to bridge
after_bridge : (P : List Corner → Type 0) (view : View) (n : ℕ) (current : List Corner) (loops : List (List Corner)) (o : Option Bridge) (list : List Corner)
    → ((b : Bridge) → o ≡ Some b → join_by view n (joined_by current loops b) (remove loops b.hole) ≡ Some list → P list)
    → option_and_then (λ b. join_by view n (joined_by current loops b) (remove loops b.hole)) o ≡ Some list → P list
after_bridge P view n current loops None list f h = absurd (cc h)
after_bridge P view n current loops (Some b) list f h = f b refl h

-- what holds of a list and the loops that are left, and is kept by each bridge, holds of the joined list
pub joined_keeps : (P : List Corner → List (List Corner) → Type 0)
    → ((current : List Corner) (loops : List (List Corner)) (b : Bridge) → IsBridgeIn current loops b → P current loops → P (joined_by current loops b) (remove loops b.hole))
    → (view : View) (n : ℕ) (current : List Corner) (loops : List (List Corner)) (list : List Corner) → length loops ≡ n → P current loops → join_by view n current loops ≡ Some list → P list []
unfolding join_by first_bridge
joined_keeps P step view zero current loops list m p h =
    let e : current ≡ list = cc h in
    subst (λ (l : List Corner). P l []) e (subst (λ (ls : List (List Corner)). P current ls) (nil_from_length loops m) p)
joined_keeps P step view (suc n) current loops list m p h =
    after_bridge (λ (l : List Corner). P l []) view n current loops (bridge_by view (all_edges view current loops) current loops) list
    (λ b f g.
    let w = bridge_in view (all_edges view current loops) current loops b f in
    let l = length-remove loops b.hole w.hole in
    joined_keeps P step view n (joined_by current loops b) (remove loops b.hole) list (one_less _ _ n l m) (step current loops b w p) g) h
  where
    one_less : (a b n : ℕ) → a + 1 ≡ b → b ≡ suc n → a ≡ n
    one_less a b n e f = omega (arith, e, f)
