-- The first of faces by rising number that can't be cut is the least.
use Rattle.std.proofs.Common.{◌≡◌, ℕ, ◌<◌, ◌≤◌, Bool, true, false, List, length, take, get_or, take_all, filter_map, Option, Some, None, Contains, Result, Ok, Err, IfOk, MatchOption, sym, ◌∙◌, subst, arith}
use Rattle.std.specs.Bool.{MatchBool}
use Rattle.std.specs.List.{All}
use Rattle.std.specs.List.Sorted.{IsStrictlyIncreasing}
use Rattle.std.proofs.lemmas.List.{get_or-take, length-take}
use Rattle.std.proofs.lemmas.List.Elements.{All-contains, Contains-get_or}
use Rattle.std.proofs.lemmas.Option.{same_Some}
use Rattle.p21_values.specs.declared.value.Value21.{Value21}
use Rattle.p21_values.specs.declared.value.Instance.{Instance}
use Rattle.bim_model.specs.declared.geometry.Point.{Point}
use Rattle.p21_values.specs.InstanceLookup.{look}
use Rattle.p21_values.specs.Values.{reference_of}
use Rattle.faceset.specs.FacePolygons.{face_points}
use Rattle.faceset.specs.FaceSets.{IsStuck, IsOutlined, IsCorner, all_corners, face_ids, is_polygonal, numbering, HasStuck, HasUnbridged}
use Rattle.p21_values.specs.Attributes.{listed}
use Rattle.ifc_instances.specs.inner.Least.{IsLeast, LeastOf}
use Rattle.ifc_instances.proofs.Rising.{before}
use Rattle.faceset.specs.inner.Cuts.{HasMisnamed}
use Rattle.faceset.specs.inner.FaceNumbers.{HaveSame, IsFaceSuch, IsApartFace, IsStuckIn}
use Rattle.faceset.proofs.Zips.{zip_at}
use Rattle.faceset.proofs.Unique.{named_well}
use Rattle.faceset.proofs.Loops.{all_cornered}

pub first_least : (P : ℕ → Type 0) (ids : List ℕ) (i : ℕ) → IsStrictlyIncreasing ids → i < length ids → All (λ k. P k → ⊥) (take i ids) → P (get_or ids i 0) → IsLeast (λ id. Contains ids id × P id) (get_or ids i 0)
first_least P ids i rises lt none h = record {
  here = (Contains-get_or ids i 0 lt, h);
  lower = λ k low p.
      let c = p.0 in
      let b = before ids i k rises lt c low in
      let e : get_or (take i ids) c.0 k ≡ k = get_or-take i ids c.0 k b ∙ c.2 in
      All-contains (λ n. P n → ⊥) (take i ids) k none (c.0, shorter ids i c.0 b c.1, e) p.1;
}
  where
    shorter : (ids : List ℕ) (i j : ℕ) → j < i → j < length ids → j < length (take i ids)
    shorter ids i j b l = let t = length-take i ids in grind arith

pub none_at_all : (P : ℕ → Type 0) (ids : List ℕ) (i : ℕ) → length ids ≤ i → All (λ k. P k → ⊥) (take i ids) → LeastOf (λ id. Contains ids id × P id) None
none_at_all P ids i le none = λ id p. All-contains (λ k. P k → ⊥) ids id (subst (All (λ k. P k → ⊥)) (take_all i ids le) none) p.0 p.1

-- One face.

-- what holds of a face by the points of its set
abbrev pub OfFace : Type 1
OfFace = Option (List Value21) → List Point → Instance → Type 0

pub is_such : (Is : OfFace) (world : List Instance) (numbers : Option (List Value21)) (points : List Point) (id : ℕ) (face : Instance) → Some face ≡ look world id → Is numbers points face → IsFaceSuch Is world numbers points id
is_such Is world numbers points id face found is = record { face = face; found = sym found; such = is }

pub not_such : (Is : OfFace) (world : List Instance) (numbers : Option (List Value21)) (points : List Point) (id : ℕ) (face : Instance) → Some face ≡ look world id → (Is numbers points face → ⊥) → IsFaceSuch Is world numbers points id → ⊥
not_such Is world numbers points id face found well h = well (subst (Is numbers points) (same_Some h.face face (sym h.found ∙ sym found)) h.such)

-- a face that isn't ready isn't stuck
pub unready_unstuck : (numbers : Option (List Value21)) (points : List Point) (face : Instance) → (IsOutlined face → HasMisnamed numbers points face) → IsStuck numbers points face → ⊥
unready_unstuck numbers points face unready stuck =
    let bad = unready stuck.outlined in
    let corners = all_cornered numbers points face stuck.outer stuck.inner stuck.are_loops in
    let corner = zip_at (IsCorner numbers points) (all_corners face) (face_points stuck.outer stuck.inner) bad.0 bad.1 bad.2 bad.3 corners in
    named_well numbers (length points) bad.1 corner.1.place corner.1.names bad.4

-- Of a set.

set_in : (world : List Instance) (points : List Point) (set : Instance) (ids : List ℕ) → HaveSame ids (filter_map reference_of (listed set 2)) → (id : ℕ) → HasStuck world points set id → IsStuckIn world (numbering set) points ids id
unfolding face_ids
set_in world points set ids same id h = (same.from id h.listed, record { face = h.face; found = h.found; such = h.such })

set_out : (world : List Instance) (points : List Point) (set : Instance) (ids : List ℕ) → is_polygonal set ≡ true → HaveSame ids (filter_map reference_of (listed set 2)) → (id : ℕ) → IsStuckIn world (numbering set) points ids id
    → HasStuck world points set id
unfolding face_ids
set_out world points set ids polygonal same id h = record { polygonal = polygonal; listed = same.to id h.0; face = h.1.face; found = h.1.found; such = h.1.such }

set_least : (world : List Instance) (points : List Point) (set : Instance) (ids : List ℕ) (found : Option ℕ) → is_polygonal set ≡ true → HaveSame ids (filter_map reference_of (listed set 2))
    → LeastOf (IsStuckIn world (numbering set) points ids) found
    → MatchOption found ((id : ℕ) → HasStuck world points set id → ⊥) (λ id. HasStuck world points set id × ((k : ℕ) → k < id → HasStuck world points set k → ⊥))
set_least world points set ids None polygonal same h = λ id s. h id (set_in world points set ids same id s)
set_least world points set ids (Some a) polygonal same h = (set_out world points set ids polygonal same a h.here, λ k lt s. h.lower k lt (set_in world points set ids same k s))

pub set_least_in : {E : Type 0} (world : List Instance) (points : List Point) (set : Instance) (numbers : Option (List Value21)) (values : List Value21) (ids : List ℕ) (r : Result (Option ℕ) E) → is_polygonal set ≡ true
    → numbers ≡ numbering set → values ≡ listed set 2 → HaveSame ids (filter_map reference_of values)
    → IfOk r (LeastOf (IsStuckIn world numbers points ids))
    → IfOk r (λ found. MatchOption found ((id : ℕ) → HasStuck world points set id → ⊥) (λ id. HasStuck world points set id × ((k : ℕ) → k < id → HasStuck world points set k → ⊥)))
set_least_in world points set numbers values ids (Err e) polygonal named all same h = h
set_least_in world points set numbers values ids (Ok found) polygonal named all same h =
    set_least world points set ids found polygonal (subst (λ (vs : List Value21). HaveSame ids (filter_map reference_of vs)) all same)
    (subst (λ (o : Option (List Value21)). LeastOf (IsStuckIn world o points ids) found) named h)

-- A face whose loops can't be joined.

pub unbridged_told : {E : Type 0} (world : List Instance) (points : List Point) (set : Instance) (id : ℕ) (numbers : Option (List Value21)) (r : Result Bool E) → is_polygonal set ≡ true → numbers ≡ numbering set
    → Contains (filter_map reference_of (listed set 2)) id
    → IfOk r (λ apart. MatchBool apart (IsApartFace world numbers points id) (IsApartFace world numbers points id → ⊥))
    → IfOk r (λ found. MatchBool found (HasUnbridged world points set id) (HasUnbridged world points set id → ⊥))
unfolding face_ids
unbridged_told world points set id numbers (Err e) polygonal same named h = h
unbridged_told world points set id numbers (Ok true) polygonal same named h =
    let f = subst (λ (n : Option (List Value21)). IsApartFace world n points id) same h in
    record { polygonal = polygonal; listed = named; face = f.face; found = f.found; such = f.such }
unbridged_told world points set id numbers (Ok false) polygonal same named h = λ u.
    h (subst (λ (n : Option (List Value21)). IsApartFace world n points id) (sym same) (record { face = u.face; found = u.found; such = u.such }))

pub unnamed_bridged : (world : List Instance) (points : List Point) (set : Instance) (id : ℕ) → (is_polygonal set ≡ true → Contains (filter_map reference_of (listed set 2)) id → ⊥) → HasUnbridged world points set id → ⊥
unfolding face_ids
unnamed_bridged world points set id none u = none u.polygonal u.listed
