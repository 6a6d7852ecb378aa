-- The entities of lists of points and of face sets: no two entities share a keyword.
use Rattle.std.proofs.Common.{◌≡◌, ℕ, Bool, true, false, ◌||◌, List, Option, Some, None, refl, sym, ap, ◌∙◌}
use Rattle.std.proofs.lemmas.Bool.{eqb-true}
use Rattle.ifc_keywords.specs.Codes.{code_at}
use Rattle.p21_values.specs.declared.value.Instance.{Instance}
use Rattle.ifc_instances.specs.declared.entity.Entity.{Entity}
use Rattle.ifc_instances.specs.declared.entity.Entity.TheVariants as entity
use Rattle.ifc_instances.specs.inner.Coded.{has_code, by_code}
use Rattle.ifc_instances.specs.Entities.{is_of}
use Rattle.ifc_instances.specs.EntityLookup.{entity_at, is_a, is_keyword_of}
use Rattle.ifc_instances.proofs.CodedEntities.{is_a_coded, entity_coded}
use Rattle.ifc_schema.specs.declared.form.Targets.TheVariants as targets
use Rattle.ifc_schema.specs.Forms.{holds}
use Rattle.faceset.specs.FaceSets.{is_set, is_polygonal}

entity_by : (X : Entity) (i : Instance) → ((n : ℕ) → has_code X n ≡ true → by_code n ≡ Some X) → is_a X i ≡ true → entity_at i ≡ Some X
entity_by X i f h = sym (entity_coded i.keyword) ∙ f (code_at i.keyword) (is_a_coded X i.keyword ∙ h)

list_coded : (n : ℕ) → has_code entity.PointList n ≡ true → by_code n ≡ Some entity.PointList
unfolding has_code by_code
list_coded n h = ap by_code (eqb-true n 12 h)

triangulated_coded : (n : ℕ) → has_code entity.TriangulatedFaceSet n ≡ true → by_code n ≡ Some entity.TriangulatedFaceSet
unfolding has_code by_code
triangulated_coded n h = ap by_code (eqb-true n 13 h)

polygonal_coded : (n : ℕ) → has_code entity.PolygonalFaceSet n ≡ true → by_code n ≡ Some entity.PolygonalFaceSet
unfolding has_code by_code
polygonal_coded n h = ap by_code (eqb-true n 14 h)

pub list_entity : (i : Instance) → is_a entity.PointList i ≡ true → entity_at i ≡ Some entity.PointList
list_entity i h = entity_by entity.PointList i list_coded h

pub triangulated_entity : (i : Instance) → is_a entity.TriangulatedFaceSet i ≡ true → entity_at i ≡ Some entity.TriangulatedFaceSet
triangulated_entity i h = entity_by entity.TriangulatedFaceSet i triangulated_coded h

pub polygonal_entity : (i : Instance) → is_a entity.PolygonalFaceSet i ≡ true → entity_at i ≡ Some entity.PolygonalFaceSet
polygonal_entity i h = entity_by entity.PolygonalFaceSet i polygonal_coded h

-- a set that isn't polygonal is triangulated
first_of : (a b : Bool) → (a || b) ≡ true → b ≡ false → a ≡ true
first_of true b h e = refl
first_of false b h e = let no : true ≡ false = sym h ∙ e in absurd (cc)

pub triangulated_set : (set : Instance) → is_set set ≡ true → is_polygonal set ≡ false → is_a entity.TriangulatedFaceSet set ≡ true
triangulated_set set h e = first_of (is_a entity.TriangulatedFaceSet set) (is_polygonal set) h e

-- a list of points is no set
pub list_no_set : {A : Type 0} (i : Instance) → is_a entity.PointList i ≡ true → is_set i ≡ true → A
list_no_set {A} i h set = by_kind (is_polygonal i) refl
  where
    by_kind : (b : Bool) → is_polygonal i ≡ b → A
    by_kind true e = let d : Some entity.PointList ≡ Some entity.PolygonalFaceSet = sym (list_entity i h) ∙ polygonal_entity i e in absurd (cc)
    by_kind false e = let d : Some entity.PointList ≡ Some entity.TriangulatedFaceSet = sym (list_entity i h) ∙ triangulated_entity i (triangulated_set i set e) in absurd (cc)

-- Keywords that targets hold.

pub held_one : (e : Entity) (k : Option (List ℕ)) → is_keyword_of e k ≡ true → holds (targets.One e) k ≡ true
held_one e None h = h
held_one e (Some keyword) h = ap (λ (b : Bool). b || false) h

pub held_face : (k : Option (List ℕ)) → (is_keyword_of entity.Face k || is_keyword_of entity.FaceWithVoids k) ≡ true → holds targets.Faces k ≡ true
held_face None h = h
held_face (Some keyword) h = by_either (is_of entity.Face keyword) (is_of entity.FaceWithVoids keyword) h
  where
    by_either : (a b : Bool) → (a || b) ≡ true → (a || (b || false)) ≡ true
    by_either true b h = refl
    by_either false true h = refl
    by_either false false h = h
