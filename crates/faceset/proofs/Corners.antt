-- The corners of a face, one more.
use Rattle.std.proofs.Common.{◌≡◌, List, [], ◌∷◌, ◌++◌, Option, subst}
use Rattle.std.specs.List.{All}
use Rattle.std.proofs.lemmas.List.Elements.{All-push, All-get_or}
use Rattle.std.proofs.lemmas.Option.{slice_get_within, get_or_from_slice_get}
use Rattle.p21_values.specs.declared.value.Value21.{Value21}
use Rattle.bim_model.specs.declared.geometry.Point.{Point}
use Rattle.faceset.specs.FaceSets.{IsCorner, AreCorners}
use Rattle.faceset.proofs.Zips.{zip_push}

-- what holds of all points holds of a corner
pub corner_has : (P : Point → Type 0) (numbers : Option (List Value21)) (points : List Point) → All P points → (v : Value21) (p : Point) → IsCorner numbers points v p → P p
corner_has P numbers points all v p is =
    subst P (get_or_from_slice_get points is.place p p is.there) (All-get_or P points is.place p (slice_get_within points is.place p is.there) all)

pub corners_more : (P : Point → Type 0) (numbers : Option (List Value21)) (points : List Point) (indexes : List Value21) (old new : List Point) (v : Value21) (p : Point)
    → All P points → IsCorner numbers points v p → new ≡ old ++ p ∷ []
    → AreCorners numbers points indexes old × All P old → AreCorners numbers points (indexes ++ v ∷ []) new × All P new
corners_more P numbers points indexes old new v p all is grown are =
    rw grown (zip_push (IsCorner numbers points) indexes old v p are.0 is, All-push P old p are.1 (corner_has P numbers points all v p is))
