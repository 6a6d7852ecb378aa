-- Tables of points: how they grow, and that the points of a number stand at its place.
use Rattle.std.proofs.Common.{◌≡◌, ℕ, List, [], ◌∷◌, ◌++◌, get_or, Option, Some, None, subst}
use Rattle.std.specs.Option.{MatchOption, IsSomeAnd}
use Rattle.std.specs.List.{AllZip, slice_get}
use Rattle.std.proofs.lemmas.Option.{slice_get-get_or}
use Rattle.std.proofs.lemmas.Slice.Zip.{AllZip-left, AllZip-long, all_zipped_more}
use Rattle.bim_model.specs.declared.upload.Mode.{Mode}
use Rattle.bim_model.specs.declared.geometry.Point.{Point}
use Rattle.p21_values.specs.declared.value.Value21.{Value21}
use Rattle.p21_values.specs.declared.value.Instance.{Instance}
use Rattle.p21_values.specs.InstanceLookup.{look}
use Rattle.p21_values.specs.InstancePlaces.{IsPlaceOf}
use Rattle.p21_values.proofs.PlaceLemmas.{found_at, some_instance, same_instance}
use Rattle.ifc_units.specs.declared.scale.Scale.{Scale}
use Rattle.ifc_units.specs.Lengths.{ArePoints, PointsRefused, Fails}
use Rattle.ifc_units.specs.declared.length_error.LengthError.{LengthError}
use Rattle.ifc_units.specs.declared.length_error.LengthError.TheVariants as error
use Rattle.ifc_units.proofs.PointFacts.{points_apart}
use Rattle.ifc_elements.specs.PointTables.{IsListOf, Tabled, IsTable, kept_at, ListsPoints}

-- what stands at one place of both
pub zipped_at : {A B : Type 0} (R : A → B → Type 0) (xs : List A) (ys : List B) (k : ℕ) (x : A) (y : B) → AllZip R xs ys → slice_get xs k ≡ Some x → slice_get ys k ≡ Some y → R x y
zipped_at R xs ys k x y h e f =
    let m = AllZip-left R xs ys h k in
    let n : MatchOption (Some x) (Unit {0}) (λ z. IsSomeAnd (slice_get ys k) (R z)) = subst (λ o. MatchOption o (Unit {0}) (λ z. IsSomeAnd (slice_get ys k) (R z))) e m in
    subst (λ o. IsSomeAnd o (R x)) f n

-- what a table has at the place of a number
pub at_place : (world : List Instance) (table : List (Option (List Point))) (scale : Scale) (mode : Mode) (id at : ℕ) (d : Instance) → IsPlaceOf world id at → IsTable world scale mode table
    → Tabled scale mode (get_or world at d) (kept_at table at)
at_place world table scale mode id at d p h =
    let i = get_or world at d in
    let there : slice_get world at ≡ Some i = slice_get-get_or world at d p.within in
    let long = AllZip-long (Tabled scale mode) world table h in
    let kept = get_or table at None in
    let here : slice_get table at ≡ Some kept = slice_get-get_or table at None (rw long p.within) in
    rw here (zipped_at (Tabled scale mode) world table at i kept h there here)

told : (world : List Instance) (scale : Scale) (mode : Mode) (id : ℕ) (i : Instance) (kept : Option (List Point)) → look world id ≡ Some i → Tabled scale mode i kept
    → MatchOption kept ((points : List Point) → ListsPoints world scale mode id points → ⊥) (ListsPoints world scale mode id)
told world scale mode id i None found h = λ points l. h points (subst (λ j. IsListOf scale mode j points) (same_instance world id l.instance i l.found found) l.holds)
told world scale mode id i (Some points) found h = record { instance = i; found = found; holds = h }

-- the points of the list of a number are those at its place
pub points_told : (world : List Instance) (table : List (Option (List Point))) (id at : ℕ) (r : Option (List Point)) → IsPlaceOf world id at → r ≡ kept_at table at
    → (scale : Scale) (mode : Mode) → IsTable world scale mode table → MatchOption r ((points : List Point) → ListsPoints world scale mode id points → ⊥) (ListsPoints world scale mode id)
points_told world table id at r p e scale mode h =
    rw e (told world scale mode id (get_or world at some_instance) (kept_at table at) (found_at world id at some_instance p) (at_place world table scale mode id at some_instance p h))

-- why there are no points says that there are none
pub failed_none : (scale : Scale) (mode : Mode) (vs : List Value21) (e : LengthError) (points : List Point) → Fails (ArePoints scale mode vs) (PointsRefused scale mode vs) e → ArePoints scale mode vs points → ⊥
failed_none scale mode vs error.Unread points h k = h.none points k
failed_none scale mode vs (error.Refused f) points h k = points_apart scale mode vs points f k h

-- one more of a table
pub tabled_more : (scale : Scale) (mode : Mode) (given : List Instance) (old new : List (Option (List Point))) (i : Instance) (kept : Option (List Point)) → Tabled scale mode i kept → new ≡ old ++ kept ∷ []
    → IsTable given scale mode old → IsTable (given ++ i ∷ []) scale mode new
tabled_more scale mode given old new i kept h grown are = rw grown (all_zipped_more (Tabled scale mode) given old i kept are h)
