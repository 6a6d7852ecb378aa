-- The triangles that are kept of sets.
use Rattle.std.proofs.Common.{◌≡◌, ℕ, ◌<◌, ◌⊎◌, inl, inr, zero, suc, pos, List, [], ◌∷◌, ◌++◌, length, get_or, Option, Some, None, Result, Ok, Err, Vec, Global, Contains, sym, ap, ◌∙◌, subst, arith}
use Rattle.std.specs.declared.alloc.AllocError.{AllocError}
use Rattle.std.specs.Prelude.{IfOk, OnOk, OnErr}
use Rattle.std.specs.Option.{MatchOption, IfSome, option_and_then}
use Rattle.std.specs.List.{All}
use Rattle.std.proofs.lemmas.List.Elements.{Contains-append_cases}
use Rattle.std.proofs.lemmas.Option.{same_Some}
use Rattle.bim_model.specs.Boxes.{corners_of}
use Rattle.bim_model.specs.Models.{IsInReach}
use Rattle.bim_model.specs.declared.upload.Mode.{Mode}
use Rattle.bim_model.specs.declared.geometry.Point.{Point}
use Rattle.bim_model.specs.declared.geometry.Triangle.{Triangle}
use Rattle.p21_values.specs.declared.value.Value21.{Value21}
use Rattle.p21_values.specs.declared.value.Instance.{Instance}
use Rattle.p21_values.specs.InstanceLookup.{look}
use Rattle.ifc_units.specs.declared.scale.Scale.{Scale}
use Rattle.ifc_units.specs.Lengths.{IsPoint, ArePoints}
use Rattle.ifc_units.proofs.PointFacts.{point_near, one_points}
use Rattle.p21_values.specs.Attributes.{listed, reference_at}
use Rattle.faceset.specs.FaceSets.{points_of, listed_in, spelled_points, SetTriangles, IsSound, HasStuck, triangle_count}
use Rattle.faceset.proofs.Held.{set_holds}
use Rattle.faceset.proofs.Zips.{zip_all}
use Rattle.placement.proofs.Walking.{same_or}
use Rattle.ifc_elements.specs.Finding.{Finds}
use Rattle.ifc_elements.specs.PointTables.{ListsPoints}
use Rattle.ifc_elements.specs.Surfaces.{SetPoints}
use Rattle.ifc_elements.specs.Sound.{IsSoundSet, IsKept, IsUncutSet, AreSets, AllNear, Puts, set_in}

-- Of one set.

spelled_there : (world : List Instance) (set i : Instance) (list : ℕ) → reference_at set 0 ≡ Some list → look world list ≡ Some i → spelled_points world set ≡ listed i 0
unfolding points_of
spelled_there world set i list refers found =
    let e : points_of world set ≡ Some i = ap (option_and_then (look world)) refers ∙ found in
    ap (λ o. listed_in o) e

-- the points of the list that a set refers to are its own
pub set_points : (world : List Instance) (scale : Scale) (mode : Mode) (set : Instance) (list : ℕ) (points : List Point) → reference_at set 0 ≡ Some list → ListsPoints world scale mode list points
    → SetPoints world scale mode set points
set_points world scale mode set list points refers l = subst (λ vs. ArePoints scale mode vs points) (sym (spelled_there world set l.instance list refers l.found)) l.holds.are

-- where there are no such points the set isn't sound
pub unlisted : (world : List Instance) (scale : Scale) (mode : Mode) (set : Instance) (list : ℕ) → ((points : List Point) → ListsPoints world scale mode list points → ⊥) → reference_at set 0 ≡ Some list
    → IsSoundSet world scale mode set → ⊥
unlisted world scale mode set list h refers s =
    let same : s.list ≡ list = (let e = s.refers in cc) in
    h s.points (subst (λ n. ListsPoints world scale mode n s.points) same s.listed)

points_near : (scale : Scale) (mode : Mode) (vs : List Value21) (points : List Point) → ArePoints scale mode vs points → All IsInReach points
points_near scale mode vs points are = zip_all (IsPoint scale mode) IsInReach (point_near scale mode) vs points are

origin_near : IsInReach (record { x = pos 0; y = pos 0; z = pos 0 })
origin_near = record { x_low = search arith; x_high = search arith; y_low = search arith; y_high = search arith; z_low = search arith; z_high = search arith }

-- what is made of a set
pub made_there : (world : List Instance) (scale : Scale) (mode : Mode) (set : Instance) (list : ℕ) (points : List Point) (r : Result (Option (Vec Triangle Global)) AllocError) → reference_at set 0 ≡ Some list
    → ListsPoints world scale mode list points
    → IfOk r (λ made. MatchOption made (IsSound world points set → (id : ℕ) × HasStuck world points set id) (λ triangles. SetTriangles world points set triangles.items))
    → IfOk r (λ made. IfSome made (λ triangles. length triangles.items ≡ triangle_count world set))
    → IfOk r (λ made. MatchOption made (IsUncutSet world scale mode set) (λ triangles. IsKept world scale mode triangles.items set))
made_there world scale mode set list points (Err e) refers l triangles count = triangles
made_there world scale mode set list points (Ok None) refers l triangles count = λ sound.
    let same : sound.list ≡ list = (let e = sound.refers in cc) in
    let there = subst (λ n. ListsPoints world scale mode n sound.points) same sound.listed in
    let points_same : points ≡ sound.points = one_points scale mode (spelled_points world set) points sound.points (set_points world scale mode set list points refers l) (set_points world scale mode set list sound.points refers there) in
    subst (λ ps. (id : ℕ) × HasStuck world ps set id) points_same (triangles (subst (λ ps. IsSound world ps set) (sym points_same) sound.sound))
made_there world scale mode set list points (Ok (Some made)) refers l triangles count = record {
  surface = record { points = points; are_points = set_points world scale mode set list points refers l; are_triangles = triangles };
  near = set_holds IsInReach origin_near world points set made.items (points_near scale mode (spelled_points world set) points (set_points world scale mode set list points refers l)) triangles;
  count = count;
}

-- Of sets, one after another.

-- triangles of those, or the new ones
put_cases : (old new : ℕ → Option (List Triangle)) (id : ℕ) (f : List Triangle) → Puts old new id f → (other : ℕ) (g : List Triangle) → new other ≡ Some g → ((other ≡ id) × (f ≡ g)) ⊎ (old other ≡ Some g)
put_cases old new id f p other g e = elim (same_or other id) [
  | inl s ↦ inl (s, same_Some f g (sym p.here ∙ ap new (sym s) ∙ e))
  | inr n ↦ inr (sym (p.others other n) ∙ e)
]

near_more : (old new : List (ℕ × List Triangle)) (id : ℕ) (f : List Triangle) → Puts (set_in old) (set_in new) id f → All IsInReach (corners_of f) → AllNear old → AllNear new
near_more old new id f p here all other g e = elim (put_cases (set_in old) (set_in new) id f p other g e) [
  | inl q ↦ subst (λ ts. All IsInReach (corners_of ts)) q.1 here
  | inr b ↦ all other g b
]

near_same : (old new : List (ℕ × List Triangle)) → ((other : ℕ) → set_in new other ≡ set_in old other) → AllNear old → AllNear new
near_same old new same all id triangles e = all id triangles (sym (same id) ∙ e)

pub near_put : {E : Type 0} (old new : List (ℕ × List Triangle)) (id : ℕ) (f : List Triangle) (r : Result (Unit {0}) E) → OnOk r (Puts (set_in old) (set_in new) id f) → OnErr r ((other : ℕ) → set_in new other ≡ set_in old other)
    → All IsInReach (corners_of f) → AllNear old → AllNear new
near_put old new id f (Ok u) puts same here all = near_more old new id f puts here all
near_put old new id f (Err e) puts same here all = near_same old new same all

only : (k id : ℕ) → Contains (k ∷ []) id → id ≡ k
only k id c = first c.0 c.1 c.2
  where
    first : (at : ℕ) → at < 1 → get_or (k ∷ []) at id ≡ id → id ≡ k
    first zero lt e = sym e
    first (suc at) lt e = absurd (omega (arith, lt))

pub sets_more : (world : List Instance) (scale : Scale) (mode : Mode) (listed : List ℕ) (old new : List (ℕ × List Triangle)) (id : ℕ) (set : Instance) (f : List Triangle) → look world id ≡ Some set
    → IsKept world scale mode f set → Puts (set_in old) (set_in new) id f → AreSets world scale mode listed old → AreSets world scale mode (listed ++ id ∷ []) new
sets_more world scale mode listed old new id set f found kept p are = record {
  sound = λ other g e. elim (put_cases (set_in old) (set_in new) id f p other g e) [
    | inl q ↦ subst (λ n. Finds world n (IsKept world scale mode g)) (sym q.0) (record { instance = set; found = found; holds = subst (λ ts. IsKept world scale mode ts set) q.1 kept })
    | inr b ↦ are.sound other g b
  ];
  all = λ other c s. elim (same_or other id) [
    | inl e ↦ (f, ap (set_in new) e ∙ p.here)
    | inr n ↦ elim (Contains-append_cases listed (id ∷ []) other c) [
      | inl h ↦ (let old_one = are.all other h s in (old_one.0, p.others other n ∙ old_one.1))
      | inr h ↦ absurd (n (only id other h))
    ]
  ];
}
