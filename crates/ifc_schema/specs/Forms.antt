-- The forms that attributes have.
use Rattle.std.specs.Prelude.{ℕ, ◌==◌, nat_le, Bool, true, false, List, [], ◌∷◌, Option, Some, None}
use Rattle.std.specs.List.{list_any}
use Rattle.ifc_instances.specs.declared.entity.Entity.{Entity}
use Rattle.ifc_instances.specs.declared.entity.Entity.TheVariants as entity
use Rattle.ifc_schema.specs.declared.form.Targets.{Targets}
use Rattle.ifc_schema.specs.declared.form.Targets.TheVariants as targets
use Rattle.ifc_schema.specs.declared.form.Leaf.{Leaf}
use Rattle.ifc_schema.specs.declared.form.Leaf.TheVariants as leaf
use Rattle.ifc_schema.specs.declared.form.Count.{Count}
use Rattle.ifc_schema.specs.declared.form.Count.TheVariants.{Exactly, AtLeast}
use Rattle.ifc_schema.specs.declared.form.Need.{Need}
use Rattle.ifc_schema.specs.declared.form.Need.TheVariants.{Must, OrAbsent, OrMissing}
use Rattle.ifc_instances.specs.Entities.{is_of}

-- a list may have that many items
abbrev pub fits : Count → ℕ → Bool
fits (Exactly n) many = many == n
fits (AtLeast n) many = nat_le n many

-- the entities that are meant
abbrev pub members : Targets → List Entity
members targets.Nothing = []
members (targets.One e) = e ∷ []
members targets.Faces = entity.Face ∷ entity.FaceWithVoids ∷ []
members targets.Items = entity.TriangulatedFaceSet ∷ entity.PolygonalFaceSet ∷ entity.MappedItem ∷ []
members targets.Units = entity.SiUnit ∷ entity.ConvertedUnit ∷ []

-- no target at all
abbrev pub is_nothing : Targets → Bool
is_nothing targets.Nothing = true
is_nothing _ = false

-- An instance with this keyword is one of those that are meant. A complex instance has no keyword, and is none.
abbrev pub holds : Targets → Option (List ℕ) → Bool
holds t None = false
holds t (Some keyword) = list_any (λ e. is_of e keyword) (members t)

-- the entities whose instances are followed from a reference
abbrev pub followed : Leaf → Targets
followed (leaf.Reference t) = t
followed (leaf.AnyReference t) = t
followed _ = targets.Nothing

-- an absent value may stand in place of one of the form
abbrev pub allows_absent : Need → Bool
allows_absent Must = false
allows_absent OrAbsent = true
allows_absent OrMissing = true

-- the instance may lack the attribute
abbrev pub allows_missing : Need → Bool
allows_missing Must = false
allows_missing OrAbsent = false
allows_missing OrMissing = true
