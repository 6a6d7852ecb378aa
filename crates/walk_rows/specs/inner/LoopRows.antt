-- The loops of faces by the places of their corners. No public contract cites it.
use Rattle.std.specs.Prelude.{ℕ, ◌<◌, ◌≤◌, ◌+◌, List, length, map, All, Option}
use Rattle.std.specs.List.{flat_map, AllZip}
use Rattle.p21_values.specs.declared.value.Value21.{Value21}
use Rattle.p21_values.specs.declared.value.Instance.{Instance}
use Rattle.faceset.specs.FaceSets.{NamesPoint, outline, inner_loops, most_corners}
use Rattle.walk_rows.specs.declared.face_rows.LoopPlaces.{LoopPlaces}

-- each loop has three corners or more, and with those before they are not too many
pub record AreRings (before : ℕ) (rings : List (List ℕ)) : Type 0 where
  pub three : All (λ (ring : List ℕ). 2 < length ring) rings
  pub few : before + length (flat_map (λ (ring : List ℕ). ring) rings) ≤ most_corners

-- the inner loops of a face by places
abbrev pub inner_of : LoopPlaces → List (List ℕ)
inner_of places = map (λ ring. ring.items) places.inner.items

-- the indexes of a face name these of so many points, loop by loop
pub record NamesLoops (names : Option (List Value21)) (count : ℕ) (face : Instance)
    (places : LoopPlaces) : Type 0 where
  pub outer : AllZip (NamesPoint names count) (outline face) places.outer.items
  pub inner : AllZip (AllZip (NamesPoint names count)) (inner_loops face) (inner_of places)

-- the loops have as many corners as they may
pub record HasRings (places : LoopPlaces) : Type 0 where
  pub outer : 2 < length places.outer.items
  pub inner : AreRings (length places.outer.items) (inner_of places)
