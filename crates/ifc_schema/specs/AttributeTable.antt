-- The attributes that are followed, by rising number, and their forms (IFC4 ADD2 TC1, after the definitions of the entities). An instance may
-- have more attributes than its row names.
use Rattle.std.specs.Prelude.{ℕ, List, [], ◌∷◌, Option, Some, None}
use Rattle.p21_values.specs.declared.value.Instance.{Instance}
use Rattle.ifc_instances.specs.declared.entity.Entity.{Entity}
use Rattle.ifc_instances.specs.declared.entity.Entity.TheVariants as entity
use Rattle.ifc_instances.specs.EntityLookup.{entity_at}
use Rattle.ifc_schema.specs.declared.form.Attribute.{Attribute}
use Rattle.ifc_schema.specs.declared.form.Targets.TheVariants as targets
use Rattle.ifc_schema.specs.declared.form.Leaf.{Leaf}
use Rattle.ifc_schema.specs.declared.form.Leaf.TheVariants as leaf
use Rattle.ifc_schema.specs.declared.form.Count.TheVariants.{Exactly, AtLeast}
use Rattle.ifc_schema.specs.declared.form.Shape.{Shape}
use Rattle.ifc_schema.specs.declared.form.Shape.TheVariants as shape
use Rattle.ifc_schema.specs.declared.form.Need.{Need}
use Rattle.ifc_schema.specs.declared.form.Need.TheVariants.{Must, OrAbsent, OrMissing}
use Rattle.ifc_schema.specs.declared.form.When.{When}
use Rattle.ifc_schema.specs.declared.form.When.TheVariants.{Always, WithBody, WithItems, OfLength}

-- an attribute: its place, when it counts, whether it may be left out, its shape and what stands in it
abbrev pub attribute : ℕ → When → Need → Shape → Leaf → Attribute
attribute at when need shape leaf = record { at = at; when = when; need = need; shape = shape; leaf = leaf }

-- An element has at least 8 attributes: its last row says so.
unfoldable pub row_of : Entity → List Attribute
row_of entity.Project =
    attribute 8 Always OrAbsent shape.One (leaf.Reference (targets.One entity.UnitAssignment)) ∷ []
row_of entity.UnitAssignment =
    attribute 0 Always Must (shape.List (AtLeast 0)) (leaf.AnyReference targets.Units) ∷ []
row_of entity.SiUnit =
    attribute 1 Always Must shape.One leaf.Enumeration ∷
    attribute 2 Always OrAbsent shape.One leaf.Enumeration ∷
    attribute 3 Always Must shape.One leaf.Enumeration ∷ []
row_of entity.ConvertedUnit =
    attribute 1 Always Must shape.One leaf.Enumeration ∷
    attribute 3 OfLength Must shape.One (leaf.Reference (targets.One entity.Measure)) ∷ []
row_of entity.Measure =
    attribute 0 Always Must shape.One leaf.Measure ∷
    attribute 1 Always Must shape.One (leaf.Reference (targets.One entity.SiUnit)) ∷ []
row_of entity.Storey =
    attribute 2 Always OrAbsent shape.One leaf.Text ∷ []
row_of entity.Aggregates =
    attribute 4 Always Must shape.One (leaf.AnyReference targets.Nothing) ∷
    attribute 5 Always Must (shape.List (AtLeast 0)) (leaf.AnyReference targets.Nothing) ∷ []
row_of entity.Containment =
    attribute 4 Always Must (shape.List (AtLeast 0)) (leaf.AnyReference targets.Nothing) ∷
    attribute 5 Always Must shape.One (leaf.AnyReference targets.Nothing) ∷ []
row_of entity.Subject =
    attribute 0 Always Must shape.Identifier leaf.Text ∷
    attribute 2 Always OrAbsent shape.One leaf.Text ∷
    attribute 5 WithBody OrAbsent shape.One (leaf.Reference (targets.One entity.Placement)) ∷
    attribute 6 Always OrAbsent shape.One (leaf.Reference (targets.One entity.ProductShape)) ∷
    attribute 7 Always Must shape.One leaf.Anything ∷ []
row_of entity.ProductShape =
    attribute 2 Always Must (shape.List (AtLeast 0))
    (leaf.AnyReference (targets.One entity.Representation)) ∷ []
row_of entity.Representation =
    attribute 1 Always OrAbsent shape.One leaf.Text ∷
    attribute 3 WithItems Must (shape.List (AtLeast 1)) (leaf.AnyReference targets.Items) ∷ []
row_of entity.Placement =
    attribute 0 Always OrAbsent shape.One (leaf.Reference (targets.One entity.Placement)) ∷
    attribute 1 Always Must shape.One (leaf.Reference (targets.One entity.AxisPlacement)) ∷ []
row_of entity.AxisPlacement =
    attribute 0 Always Must shape.One (leaf.Reference (targets.One entity.Point)) ∷
    attribute 1 Always OrAbsent shape.One (leaf.Reference (targets.One entity.Direction)) ∷
    attribute 2 Always OrAbsent shape.One (leaf.Reference (targets.One entity.Direction)) ∷ []
row_of entity.Point =
    attribute 0 Always Must (shape.List (Exactly 3)) leaf.Number ∷ []
row_of entity.Direction =
    attribute 0 Always Must (shape.List (Exactly 3)) leaf.Number ∷ []
row_of entity.PointList =
    attribute 0 Always Must (shape.Table (AtLeast 1) (Exactly 3)) leaf.Number ∷ []
row_of entity.TriangulatedFaceSet =
    attribute 0 Always Must shape.One (leaf.Reference (targets.One entity.PointList)) ∷
    attribute 3 Always Must (shape.Table (AtLeast 1) (Exactly 3)) leaf.Whole ∷
    attribute 4 Always OrMissing (shape.List (AtLeast 0)) leaf.Whole ∷ []
row_of entity.PolygonalFaceSet =
    attribute 0 Always Must shape.One (leaf.Reference (targets.One entity.PointList)) ∷
    attribute 2 Always Must (shape.List (AtLeast 1)) (leaf.Reference targets.Faces) ∷
    attribute 3 Always OrMissing (shape.List (AtLeast 0)) leaf.Whole ∷ []
row_of entity.Face =
    attribute 0 Always Must (shape.List (AtLeast 3)) leaf.Whole ∷ []
row_of entity.FaceWithVoids =
    attribute 0 Always Must (shape.List (AtLeast 3)) leaf.Whole ∷
    attribute 1 Always Must (shape.Table (AtLeast 1) (AtLeast 3)) leaf.Whole ∷ []
row_of entity.MappedItem =
    attribute 0 Always Must shape.One (leaf.Reference (targets.One entity.RepresentationMap)) ∷
    attribute 1 Always Must shape.One (leaf.AnyReference (targets.One entity.Operator)) ∷ []
row_of entity.RepresentationMap =
    attribute 0 Always Must shape.One (leaf.Reference (targets.One entity.AxisPlacement)) ∷
    attribute 1 Always Must shape.One (leaf.Reference (targets.One entity.Representation)) ∷ []
row_of entity.Operator =
    attribute 0 Always OrMissing shape.One (leaf.Reference (targets.One entity.Direction)) ∷
    attribute 1 Always OrMissing shape.One (leaf.Reference (targets.One entity.Direction)) ∷
    attribute 2 Always Must shape.One (leaf.Reference (targets.One entity.Point)) ∷
    attribute 3 Always OrMissing shape.One leaf.Number ∷
    attribute 4 Always OrMissing shape.One (leaf.Reference (targets.One entity.Direction)) ∷ []

-- the attributes of an entity, where there is one
abbrev pub row_or_none : Option Entity → List Attribute
row_or_none None = []
row_or_none (Some entity) = row_of entity

-- the attributes of an instance that are followed
abbrev pub row_at : Instance → List Attribute
row_at i = row_or_none (entity_at i)
