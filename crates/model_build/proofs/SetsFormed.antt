-- What sets, faces, mapped items, their maps and their operators have, where all that is used has the form of its row.
use Rattle.std.proofs.Common.{◌≡◌, ℕ, suc, ◌<◌, ◌≤◌, ◌⊎◌, inl, inr, Bool, true, false, ◌||◌, List, [], ◌∷◌, length, map, get_or, Option, Some, None, codes, Contains, refl, sym, ap, subst, arith}
use Rattle.std.specs.List.{slice_get, All, Any}
use Rattle.std.proofs.lemmas.List.{get_or_default}
use Rattle.std.proofs.lemmas.Bool.Decides.{nat_tests}
use Rattle.std.proofs.lemmas.List.Elements.{All-cons}
use Rattle.std.specs.Option.{unwrap_or}
use Rattle.p21_values.specs.declared.value.Value21.{Value21}
use Rattle.p21_values.specs.declared.value.Instance.{Instance}
use Rattle.ifc_instances.specs.declared.entity.Entity.TheVariants as entity
use Rattle.ifc_schema.specs.declared.form.Attribute.{Attribute}
use Rattle.ifc_schema.specs.declared.form.Targets.{Targets}
use Rattle.ifc_schema.specs.declared.form.Targets.TheVariants as targets
use Rattle.ifc_schema.specs.declared.form.Leaf.TheVariants as leaf
use Rattle.ifc_schema.specs.declared.form.Count.{Count}
use Rattle.ifc_schema.specs.declared.form.Count.TheVariants.{AtLeast}
use Rattle.ifc_schema.specs.declared.form.Shape.TheVariants as shape
use Rattle.ifc_schema.specs.declared.form.Need.TheVariants.{Must}
use Rattle.ifc_schema.specs.declared.form.When.TheVariants.{Always, WithItems}
use Rattle.ifc_instances.specs.Entities.{is_of, entity_of}
use Rattle.ifc_schema.specs.Forms.{holds, followed}
use Rattle.ifc_schema.specs.AttributeTable.{row_of, attribute, row_at}
use Rattle.p21_values.specs.Values.{reference_of, items_of}
use Rattle.p21_values.specs.InstanceLookup.{look}
use Rattle.ifc_instances.specs.EntityLookup.{entity_at, is_a, is_keyword_of}
use Rattle.ifc_schema.specs.BodyRepresentations.{applies, is_body}
use Rattle.ifc_schema.specs.Flaws.{LeafFlaw, ListFlaw, ShapeFlaw, InstanceFlaw, bad_unless, target_flaw, wanted_flaw, reference_flaw}
use Rattle.ifc_schema.specs.Used.{Used, IsMapped, LeadsTo, RefersTo, StandsIn}
use Rattle.p21_values.specs.Attributes.{listed, items_in}
use Rattle.faceset.specs.FaceSets.{is_polygonal, is_set, is_face, outline}
use Rattle.ifc_elements.specs.Items.{is_mapped_item, is_item}
use Rattle.model_build.proofs.OneKeyword.{entity_there, is_representation}
use Rattle.model_build.proofs.AttributesFormed.{Shaped, formed_there, At, in_row, attribute_flaw, must_at, at_more, Refers, referred_any, ListOf, list_there, list_more, follows}
use Rattle.model_build.proofs.UsedFormed.{NamesUsed, used_must, listed_there, listed_all, points_used}

-- Keywords.

is_polygonal_set : (i : Instance) → is_polygonal i ≡ true → entity_at i ≡ Some entity.PolygonalFaceSet
unfolding entity_of is_of
is_polygonal_set i h = entity_there entity.PolygonalFaceSet (codes "IFCPOLYGONALFACESET") i refl refl h

is_plain_face : (i : Instance) → is_a entity.Face i ≡ true → entity_at i ≡ Some entity.Face
unfolding entity_of is_of
is_plain_face i h = entity_there entity.Face (codes "IFCINDEXEDPOLYGONALFACE") i refl refl h

is_voided_face : (i : Instance) → is_a entity.FaceWithVoids i ≡ true → entity_at i ≡ Some entity.FaceWithVoids
unfolding entity_of is_of
is_voided_face i h = entity_there entity.FaceWithVoids (codes "IFCINDEXEDPOLYGONALFACEWITHVOIDS") i refl refl h

is_mapped : (i : Instance) → is_mapped_item i ≡ true → entity_at i ≡ Some entity.MappedItem
unfolding entity_of is_of
is_mapped i h = entity_there entity.MappedItem (codes "IFCMAPPEDITEM") i refl refl h

pub is_map : (i : Instance) → is_a entity.RepresentationMap i ≡ true → entity_at i ≡ Some entity.RepresentationMap
unfolding entity_of is_of
is_map i h = entity_there entity.RepresentationMap (codes "IFCREPRESENTATIONMAP") i refl refl h

pub is_transformation : (i : Instance) → is_a entity.Operator i ≡ true → entity_at i ≡ Some entity.Operator
unfolding entity_of is_of
is_transformation i h = entity_there entity.Operator (codes "IFCCARTESIANTRANSFORMATIONOPERATOR3D") i refl refl h

pub either : (a b : Bool) → (a || b) ≡ true → (a ≡ true) ⊎ (b ≡ true)
either true b h = inl refl
either false b h = inr h

two_of : (a b : Bool) → (a || (b || false)) ≡ true → (a || b) ≡ true
two_of true b h = refl
two_of false true h = refl
two_of false false h = h

of_three : (a b c : Bool) → ((a || b) || c) ≡ true → (a || (b || (c || false))) ≡ true
of_three true b c h = refl
of_three false true c h = refl
of_three false false true h = refl
of_three false false false h = h

-- an item that is read is one of those that are followed
pub item_meant : (i : Instance) → is_item i ≡ true → holds targets.Items i.keyword ≡ true
item_meant i h = from i.keyword h
  where
    from : (keyword : Option (List ℕ)) → ((is_keyword_of entity.TriangulatedFaceSet keyword || is_keyword_of entity.PolygonalFaceSet keyword) || is_keyword_of entity.MappedItem keyword) ≡ true → holds targets.Items keyword ≡ true
    from None h = h
    from (Some keyword) h = of_three (is_of entity.TriangulatedFaceSet keyword) (is_of entity.PolygonalFaceSet keyword) (is_of entity.MappedItem keyword) h

pub face_meant : (i : Instance) → holds targets.Faces i.keyword ≡ true → is_face i ≡ true
face_meant i h = from i.keyword h
  where
    from : (keyword : Option (List ℕ)) → holds targets.Faces keyword ≡ true → (is_keyword_of entity.Face keyword || is_keyword_of entity.FaceWithVoids keyword) ≡ true
    from None h = h
    from (Some keyword) h = two_of (is_of entity.Face keyword) (is_of entity.FaceWithVoids keyword) h

-- Lists of references.

-- a value refers to an instance that is one of these
pub record NamesOne (world : List Instance) (t : Targets) (v : Value21) : Type 0 where
  pub to : ℕ
  pub refers : reference_of v ≡ Some to
  pub target : Instance
  pub found : look world to ≡ Some target
  pub meant : holds t target.keyword ≡ true

good : (b : Bool) → None ≡ bad_unless b → b ≡ true
good true h = refl
good false h = cc

names_one : (world : List Instance) (t : Targets) (v : Value21) → LeafFlaw world (leaf.Reference t) v None → NamesOne world t v
names_one world t v h = from world t v (reference_of v) refl h
  where
    led : (world : List Instance) (t : Targets) (v : Value21) (to : ℕ) (o : Option Instance) → reference_of v ≡ Some to → look world to ≡ o → None ≡ target_flaw t to o → NamesOne world t v
    led world t v to None e f h = cc
    led world t v to (Some i) e f h = record { to = to; refers = e; target = i; found = f; meant = good (holds t i.keyword) h }

    from : (world : List Instance) (t : Targets) (v : Value21) (o : Option ℕ) → reference_of v ≡ o → None ≡ reference_flaw (wanted_flaw t world) o → NamesOne world t v
    from world t v None e h = cc
    from world t v (Some to) e h = led world t v to (look world to) e refl h

-- one of the items of a list stands in it
pub stands_in : (count : Count) (list : Value21) (values : List Value21) (to k : ℕ) (d : Value21) → items_of list ≡ Some values → k < length values → reference_of (get_or values k d) ≡ Some to → StandsIn to (shape.List count) list
stands_in count list values to k d items lt refers =
    let any : Any (RefersTo to) values = (k, get_or values k d, lt, get_or_default values k (get_or values k d) d lt, refers) in
    rw items any

-- what a list refers to is used, where it is of the entities that are followed
pub list_used : (world : List Instance) (from : ℕ) (i : Instance) (a : Attribute) (count : Count) (list : Value21) (values : List Value21) (to k : ℕ) (d : Value21) → Used world from → look world from ≡ Some i
    → Contains (row_at i) a → a.shape ≡ shape.List count → applies world false i a.when ≡ true → slice_get i.values a.at ≡ Some list → items_of list ≡ Some values
    → k < length values → reference_of (get_or values k d) ≡ Some to → LeadsTo world (followed a.leaf) to → Used world to
list_used world from i a count list values to k d u e c s w t items lt refers l =
    follows world from to i a list u e c w t (subst (λ sh. StandsIn to sh list) (sym s) (stands_in count list values to k d items lt refers)) l

-- how many items a list has at least
pub listed_least : (i : Instance) (at n : ℕ) (P : Value21 → Type 0) → At i at (ListOf (AtLeast n) P) → n ≤ length (listed i at)
listed_least i at n P h =
    let e = ap length (listed_there i at h.value h.holds.values h.there h.holds.items) in
    let m = h.holds.many in
    grind (arith, nat_tests)

-- Sets.

polygonal_points : (world : List Instance) (id : ℕ) (i : Instance) → Shaped world → Used world id → look world id ≡ Some i → is_polygonal i ≡ true → At i 0 (NamesUsed world entity.PointList)
unfolding row_of
polygonal_points world id i shaped u e is =
    used_must world id i 0 entity.PointList shaped u e (in_row entity.PolygonalFaceSet i (attribute 0 Always Must shape.One (leaf.Reference (targets.One entity.PointList))) (is_polygonal_set i is) (0, omega arith, refl))

-- a set of either kind refers to a list of points
pub set_points : (world : List Instance) (id : ℕ) (i : Instance) → Shaped world → Used world id → look world id ≡ Some i → is_set i ≡ true → At i 0 (NamesUsed world entity.PointList)
set_points world id i shaped u e is = elim (either (is_a entity.TriangulatedFaceSet i) (is_polygonal i) is) [
  | inl t ↦ points_used world id i shaped u e t
  | inr p ↦ polygonal_points world id i shaped u e p
]

-- a value refers to an instance of those that is used
pub record NamesUsedOne (world : List Instance) (t : Targets) (v : Value21) : Type 0 where
  pub one : NamesOne world t v
  pub used : Used world one.to

abbrev faces_attribute : Attribute
faces_attribute = attribute 2 Always Must (shape.List (AtLeast 1)) (leaf.Reference targets.Faces)

faces_there : (world : List Instance) (id : ℕ) (i : Instance) → Shaped world → Used world id → look world id ≡ Some i → Contains (row_at i) faces_attribute → At i 2 (ListOf (AtLeast 1) (NamesOne world targets.Faces))
faces_there world id i shaped u e c =
    let f = formed_there world id i (shaped id u) e in
    let s = shape.List (AtLeast 1) in
    let l = leaf.Reference targets.Faces in
    at_more i 2 (λ v. ShapeFlaw world l s v None) (ListOf (AtLeast 1) (NamesOne world targets.Faces))
    (λ v h. list_more (AtLeast 1) (λ x. LeafFlaw world l x None) (NamesOne world targets.Faces) (names_one world targets.Faces) v (list_there (AtLeast 1) (LeafFlaw world l) v h))
    (must_at world f.mapped i 2 Always s l refl (attribute_flaw world f.mapped i faces_attribute f.formed c))

faces_row : (i : Instance) → is_polygonal i ≡ true → Contains (row_at i) faces_attribute
unfolding row_of
faces_row i is = in_row entity.PolygonalFaceSet i faces_attribute (is_polygonal_set i is) (1, omega arith, refl)

-- a polygonal set refers to one or more faces
pub faces_used : (world : List Instance) (id : ℕ) (i : Instance) → Shaped world → Used world id → look world id ≡ Some i → is_polygonal i ≡ true → All (NamesUsedOne world targets.Faces) (listed i 2)
faces_used world id i shaped u e is =
    let c = faces_row i is in
    let t = faces_there world id i shaped u e c in
    subst (All (NamesUsedOne world targets.Faces)) (sym (listed_there i 2 t.value t.holds.values t.there t.holds.items))
    (λ k d lt. (
    let n = t.holds.each k d lt in
    record {
      one = n;
      used = list_used world id i faces_attribute (AtLeast 1) t.value t.holds.values n.to k d u e c refl refl t.there t.holds.items lt n.refers (record { target = n.target; found = n.found; meant = n.meant });
    }))

pub faces_some : (world : List Instance) (id : ℕ) (i : Instance) → Shaped world → Used world id → look world id ≡ Some i → is_polygonal i ≡ true → 1 ≤ length (listed i 2)
faces_some world id i shaped u e is = listed_least i 2 1 (NamesOne world targets.Faces) (faces_there world id i shaped u e (faces_row i is))

-- a face has three corners or more
pub corners_some : (world : List Instance) (id : ℕ) (i : Instance) → Shaped world → Used world id → look world id ≡ Some i → is_a entity.Face i ≡ true → 3 ≤ length (outline i)
unfolding row_of
corners_some world id i shaped u e is =
    let f = formed_there world id i (shaped id u) e in
    let s = shape.List (AtLeast 3) in
    let l = leaf.Whole in
    let c : Contains (row_at i) (attribute 0 Always Must s l) = in_row entity.Face i (attribute 0 Always Must s l) (is_plain_face i is) (0, omega arith, refl) in
    listed_least i 0 3 (λ x. LeafFlaw world l x None)
    (at_more i 0 (λ v. ShapeFlaw world l s v None) (ListOf (AtLeast 3) (λ x. LeafFlaw world l x None)) (list_there (AtLeast 3) (LeafFlaw world l))
    (must_at world f.mapped i 0 Always s l refl (attribute_flaw world f.mapped i (attribute 0 Always Must s l) f.formed c)))

-- .. also one with voids
pub voided_some : (world : List Instance) (id : ℕ) (i : Instance) → Shaped world → Used world id → look world id ≡ Some i → is_a entity.FaceWithVoids i ≡ true → 3 ≤ length (outline i)
unfolding row_of
voided_some world id i shaped u e is =
    let f = formed_there world id i (shaped id u) e in
    let s = shape.List (AtLeast 3) in
    let l = leaf.Whole in
    let c : Contains (row_at i) (attribute 0 Always Must s l) = in_row entity.FaceWithVoids i (attribute 0 Always Must s l) (is_voided_face i is) (0, omega arith, refl) in
    listed_least i 0 3 (λ x. LeafFlaw world l x None)
    (at_more i 0 (λ v. ShapeFlaw world l s v None) (ListOf (AtLeast 3) (λ x. LeafFlaw world l x None)) (list_there (AtLeast 3) (LeafFlaw world l))
    (must_at world f.mapped i 0 Always s l refl (attribute_flaw world f.mapped i (attribute 0 Always Must s l) f.formed c)))

-- a value is a list of three or more
abbrev Rings : List Instance → Value21 → Type 0
Rings world = ListOf (AtLeast 3) (λ x. LeafFlaw world leaf.Whole x None)

ring_long : (world : List Instance) (v : Value21) → Rings world v → 2 < length (items_in v)
ring_long world v r =
    let e : items_in v ≡ r.values = ap (λ o. unwrap_or o []) r.items in
    let n = ap length e in
    let m = r.many in
    grind (arith, nat_tests)

-- each of its inner loops is such a list
rings_there : (world : List Instance) (id : ℕ) (i : Instance) → Shaped world → Used world id → look world id ≡ Some i → is_a entity.FaceWithVoids i ≡ true → At i 1 (ListOf (AtLeast 1) (Rings world))
unfolding row_of
rings_there world id i shaped u e is =
    let f = formed_there world id i (shaped id u) e in
    let s = shape.Table (AtLeast 1) (AtLeast 3) in
    let l = leaf.Whole in
    let c : Contains (row_at i) (attribute 1 Always Must s l) = in_row entity.FaceWithVoids i (attribute 1 Always Must s l) (is_voided_face i is) (1, omega arith, refl) in
    at_more i 1 (λ v. ShapeFlaw world l s v None) (ListOf (AtLeast 1) (Rings world))
    (λ v h. list_more (AtLeast 1) (λ x. ListFlaw (AtLeast 3) (LeafFlaw world l) x None) (Rings world) (list_there (AtLeast 3) (LeafFlaw world l)) v (list_there (AtLeast 1) (ListFlaw (AtLeast 3) (LeafFlaw world l)) v h))
    (must_at world f.mapped i 1 Always s l refl (attribute_flaw world f.mapped i (attribute 1 Always Must s l) f.formed c))

pub rings_some : (world : List Instance) (id : ℕ) (i : Instance) → Shaped world → Used world id → look world id ≡ Some i → is_a entity.FaceWithVoids i ≡ true → All (λ (loop : List Value21). 2 < length loop) (map items_in (listed i 1))
rings_some world id i shaped u e is =
    all_mapped (listed i 1) (λ k d lt. ring_long world (get_or (listed i 1) k d) (listed_all i 1 (AtLeast 1) (Rings world) (rings_there world id i shaped u e is) k d lt))
  where
    all_mapped : (vs : List Value21) → All (λ v. 2 < length (items_in v)) vs → All (λ (loop : List Value21). 2 < length loop) (map items_in vs)
    all_mapped [] all = λ k d lt. absurd (omega (arith, lt))
    all_mapped (v ∷ vs) all = All-cons (λ (loop : List Value21). 2 < length loop) (items_in v) (map items_in vs) (all 0 v (omega arith)) (all_mapped vs (λ k d lt. all (suc k) d (omega (arith, lt))))

-- Mapped items.

-- a mapped item refers to a map
pub map_used : (world : List Instance) (id : ℕ) (i : Instance) → Shaped world → Used world id → look world id ≡ Some i → is_mapped_item i ≡ true → At i 0 (NamesUsed world entity.RepresentationMap)
unfolding row_of
map_used world id i shaped u e is =
    used_must world id i 0 entity.RepresentationMap shaped u e (in_row entity.MappedItem i (attribute 0 Always Must shape.One (leaf.Reference (targets.One entity.RepresentationMap))) (is_mapped i is) (0, omega arith, refl))

abbrev target_attribute : Attribute
target_attribute = attribute 1 Always Must shape.One (leaf.AnyReference (targets.One entity.Operator))

target_row : (i : Instance) → is_mapped_item i ≡ true → Contains (row_at i) target_attribute
unfolding row_of
target_row i is = in_row entity.MappedItem i target_attribute (is_mapped i is) (1, omega arith, refl)

-- it refers to an instance as its target
pub target_there : (world : List Instance) (id : ℕ) (i : Instance) → Shaped world → Used world id → look world id ≡ Some i → is_mapped_item i ≡ true → At i 1 (Refers world)
target_there world id i shaped u e is =
    let f = formed_there world id i (shaped id u) e in
    let l = leaf.AnyReference (targets.One entity.Operator) in
    at_more i 1 (λ v. ShapeFlaw world l shape.One v None) (Refers world) (referred_any world (targets.One entity.Operator))
    (must_at world f.mapped i 1 Always shape.One l refl (attribute_flaw world f.mapped i target_attribute f.formed (target_row i is)))

-- which is used where it is an operator
pub target_used : (world : List Instance) (id : ℕ) (i : Instance) (v : Value21) (to : ℕ) → Used world id → look world id ≡ Some i → is_mapped_item i ≡ true → slice_get i.values 1 ≡ Some v → reference_of v ≡ Some to
    → LeadsTo world (targets.One entity.Operator) to → Used world to
target_used world id i v to u e is there refers leads = follows world id to i target_attribute v u e (target_row i is) refl there refers leads

-- a map refers to a representation
pub representation_used : (world : List Instance) (id : ℕ) (i : Instance) → Shaped world → Used world id → look world id ≡ Some i → is_a entity.RepresentationMap i ≡ true → At i 1 (NamesUsed world entity.Representation)
unfolding row_of
representation_used world id i shaped u e is =
    used_must world id i 1 entity.Representation shaped u e (in_row entity.RepresentationMap i (attribute 1 Always Must shape.One (leaf.Reference (targets.One entity.Representation))) (is_map i is) (1, omega arith, refl))

-- an operator refers to its origin
pub origin_used : (world : List Instance) (id : ℕ) (i : Instance) → Shaped world → Used world id → look world id ≡ Some i → is_a entity.Operator i ≡ true → At i 2 (NamesUsed world entity.Point)
unfolding row_of
origin_used world id i shaped u e is =
    used_must world id i 2 entity.Point shaped u e (in_row entity.Operator i (attribute 2 Always Must shape.One (leaf.Reference (targets.One entity.Point))) (is_transformation i is) (2, omega arith, refl))

-- Representations.

abbrev pub items_attribute : Attribute
items_attribute = attribute 3 WithItems Must (shape.List (AtLeast 1)) (leaf.AnyReference targets.Items)

pub items_row : (r : Instance) → is_a entity.Representation r ≡ true → Contains (row_at r) items_attribute
unfolding row_of
items_row r is = in_row entity.Representation r items_attribute (is_representation r is) (1, omega arith, refl)

-- a body's items are followed, and those of a representation that is mapped
abbrev pub HasItems : List Instance → ℕ → Instance → Type 0
HasItems world id r = (is_body r ≡ true) ⊎ IsMapped world id

-- such a representation lists one or more items, which are references that lead to instances
pub items_there : (world : List Instance) (id : ℕ) (r : Instance) → Shaped world → Used world id → look world id ≡ Some r → is_a entity.Representation r ≡ true → HasItems world id r → At r 3 (ListOf (AtLeast 1) (Refers world))
items_there world id r shaped u e is has =
    let f = shaped id u in
    let same : f.instance ≡ r = (let g = f.found in cc) in
    let formed : InstanceFlaw world f.mapped r None = subst (λ j. InstanceFlaw world f.mapped j None) same f.flawed in
    let s = shape.List (AtLeast 1) in
    let l = leaf.AnyReference targets.Items in
    let on : applies world f.mapped r WithItems ≡ true = elim has [ inl b ↦ second f.mapped (is_body r) b | inr m ↦ first f.mapped (is_body r) (f.is_mapped.1 m) ] in
    at_more r 3 (λ v. ShapeFlaw world l s v None) (ListOf (AtLeast 1) (Refers world))
    (λ v h. list_more (AtLeast 1) (λ x. LeafFlaw world l x None) (Refers world) (referred_any world targets.Items) v (list_there (AtLeast 1) (LeafFlaw world l) v h))
    (must_at world f.mapped r 3 WithItems s l on (attribute_flaw world f.mapped r items_attribute formed (items_row r is)))
  where
    first : (a b : Bool) → a ≡ true → (a || b) ≡ true
    first true b h = refl
    first false b h = cc

    second : (a b : Bool) → b ≡ true → (a || b) ≡ true
    second true b h = refl
    second false b h = h
