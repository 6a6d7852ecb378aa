-- Values that lead to faces.
use Rattle.std.proofs.Common.{◌≡◌, true, false, List, sym, ◌∙◌, subst}
use Rattle.std.specs.List.{All}
use Rattle.p21_values.specs.declared.value.Value21.{Value21}
use Rattle.p21_values.specs.declared.value.Instance.{Instance}
use Rattle.p21_values.specs.Attributes.{listed}
use Rattle.faceset.specs.FaceSets.{is_polygonal}
use Rattle.walk_rows.specs.SetRows.{LeadsToFace, NamesFaces}

-- those of a polygonal set
pub faces_named : (world : List Instance) (set : Instance) (values : List Value21) → values ≡ listed set 2 → All (LeadsToFace world) values → NamesFaces world set
faces_named world set values e all polygonal = subst (λ (vs : List Value21). All (LeadsToFace world) vs) e all

-- a set that isn't polygonal has none
pub none_named : (world : List Instance) (set : Instance) → is_polygonal set ≡ false → NamesFaces world set
none_named world set other polygonal = let e : true ≡ false = sym polygonal ∙ other in absurd (cc)
