-- The entities of instances: no two entities share a keyword.
use Rattle.std.proofs.Common.{◌≡◌, ℕ, Bool, true, false, ◌&&◌, ◌||◌, List, [], ◌∷◌, Option, Some, None, codes, refl, ap, ◌∙◌}
use Rattle.std.specs.Str.{bytes_eq}
use Rattle.std.proofs.lemmas.Slice.Eq.{bytes_eq-Decides}
use Rattle.p21_values.specs.declared.value.Instance.{Instance}
use Rattle.ifc_instances.specs.declared.entity.Entity.{Entity}
use Rattle.ifc_instances.specs.declared.entity.Entity.TheVariants as entity
use Rattle.ifc_schema.specs.declared.form.Targets.TheVariants as targets
use Rattle.ifc_instances.specs.Entities.{is_of, entity_of, keywords_of}
use Rattle.ifc_schema.specs.Forms.{holds}
use Rattle.ifc_instances.specs.EntityLookup.{entity_at, is_a, is_keyword_of}
use Rattle.ifc_schema.specs.Surveys.{is_subject}

pub both : (a b : Bool) → (a && b) ≡ true → (a ≡ true) × (b ≡ true)
both true b h = (refl, h)
both false b h = cc

first_true : (b : Bool) → (b || false) ≡ true → b ≡ true
first_true true h = refl
first_true false h = h

-- a keyword that is one of an entity's, where that has one
keyword_is : (X : Entity) (keyword word : List ℕ) → keywords_of X ≡ word ∷ [] → is_of X keyword ≡ true → keyword ≡ word
unfolding is_of
keyword_is X keyword word one h = (bytes_eq-Decides keyword word).0 (first_true (bytes_eq keyword word) (rw one at h))

entity_from : (X : Entity) (word : List ℕ) (keyword : Option (List ℕ)) (i : Instance) → i.keyword ≡ keyword → keywords_of X ≡ word ∷ [] → entity_of word ≡ Some X → is_keyword_of X keyword ≡ true → entity_at i ≡ Some X
entity_from X word None i e one own h = cc
entity_from X word (Some keyword) i e one own h = rw e (ap entity_of (keyword_is X keyword word one h) ∙ own)

pub entity_there : (X : Entity) (word : List ℕ) (i : Instance) → keywords_of X ≡ word ∷ [] → entity_of word ≡ Some X → is_a X i ≡ true → entity_at i ≡ Some X
entity_there X word i one own h = entity_from X word i.keyword i refl one own h

pub is_shape : (i : Instance) → is_a entity.ProductShape i ≡ true → entity_at i ≡ Some entity.ProductShape
unfolding entity_of is_of
is_shape i h = entity_there entity.ProductShape (codes "IFCPRODUCTDEFINITIONSHAPE") i refl refl h

pub is_representation : (i : Instance) → is_a entity.Representation i ≡ true → entity_at i ≡ Some entity.Representation
unfolding entity_of is_of
is_representation i h = entity_there entity.Representation (codes "IFCSHAPEREPRESENTATION") i refl refl h

pub is_placement : (i : Instance) → is_a entity.Placement i ≡ true → entity_at i ≡ Some entity.Placement
unfolding entity_of is_of
is_placement i h = entity_there entity.Placement (codes "IFCLOCALPLACEMENT") i refl refl h

pub is_axis_placement : (i : Instance) → is_a entity.AxisPlacement i ≡ true → entity_at i ≡ Some entity.AxisPlacement
unfolding entity_of is_of
is_axis_placement i h = entity_there entity.AxisPlacement (codes "IFCAXIS2PLACEMENT3D") i refl refl h

pub is_point : (i : Instance) → is_a entity.Point i ≡ true → entity_at i ≡ Some entity.Point
unfolding entity_of is_of
is_point i h = entity_there entity.Point (codes "IFCCARTESIANPOINT") i refl refl h

pub is_direction : (i : Instance) → is_a entity.Direction i ≡ true → entity_at i ≡ Some entity.Direction
unfolding entity_of is_of
is_direction i h = entity_there entity.Direction (codes "IFCDIRECTION") i refl refl h

pub is_point_list : (i : Instance) → is_a entity.PointList i ≡ true → entity_at i ≡ Some entity.PointList
unfolding entity_of is_of
is_point_list i h = entity_there entity.PointList (codes "IFCCARTESIANPOINTLIST3D") i refl refl h

pub is_face_set : (i : Instance) → is_a entity.TriangulatedFaceSet i ≡ true → entity_at i ≡ Some entity.TriangulatedFaceSet
unfolding entity_of is_of
is_face_set i h = entity_there entity.TriangulatedFaceSet (codes "IFCTRIANGULATEDFACESET") i refl refl h

subject_from : (e : Option Entity) → is_subject e ≡ true → e ≡ Some entity.Subject
subject_from None h = cc
subject_from (Some entity.Subject) h = refl
subject_from (Some _) h = cc

pub is_element : (i : Instance) → is_subject (entity_at i) ≡ true → entity_at i ≡ Some entity.Subject
is_element i h = subject_from (entity_at i) h

-- an instance that is one of an entity's is of that entity, and the other way round
pub held_is_a : (X : Entity) (i : Instance) → holds (targets.One X) i.keyword ≡ true → is_a X i ≡ true
held_is_a X i h = from X i.keyword h
  where
    from : (X : Entity) (keyword : Option (List ℕ)) → holds (targets.One X) keyword ≡ true → is_keyword_of X keyword ≡ true
    from X None h = h
    from X (Some keyword) h = first_true (is_of X keyword) h

pub is_a_held : (X : Entity) (i : Instance) → is_a X i ≡ true → holds (targets.One X) i.keyword ≡ true
is_a_held X i h = from X i.keyword h
  where
    from : (X : Entity) (keyword : Option (List ℕ)) → is_keyword_of X keyword ≡ true → holds (targets.One X) keyword ≡ true
    from X None h = h
    from X (Some keyword) h = rw h refl
