-- A list of points and a set that were read have the form of their rows.
use Rattle.std.proofs.Common.{◌≡◌, ℕ, ◌<◌, ◌≤◌, ◌⊎◌, inl, inr, Bool, true, false, List, [], ◌∷◌, length, Option, Some, None, option_and_then, refl, sym, ap, ◌∙◌, subst, arith}
use Rattle.std.specs.Prelude.{MatchOption}
use Rattle.std.specs.Bool.{⊤, MatchBool}
use Rattle.std.specs.List.{All, slice_get}
use Rattle.std.specs.Option.{unwrap_or}
use Rattle.std.proofs.lemmas.Bool.{le-leb}
use Rattle.std.proofs.lemmas.List.Elements.{All-nil, All-cons, All-weaker}
use Rattle.bim_model.specs.declared.upload.Mode.{Mode}
use Rattle.bim_model.specs.declared.geometry.Point.{Point}
use Rattle.bim_model.specs.declared.geometry.Triangle.{Triangle}
use Rattle.p21_values.specs.declared.value.Value21.{Value21}
use Rattle.p21_values.specs.declared.value.Instance.{Instance}
use Rattle.p21_values.specs.Values.{reference_of, items_of, is_absent}
use Rattle.p21_values.specs.InstanceLookup.{look}
use Rattle.p21_values.specs.Attributes.{listed, led_to, reference_at}
use Rattle.ifc_instances.specs.declared.entity.Entity.{Entity}
use Rattle.ifc_instances.specs.declared.entity.Entity.TheVariants as entity
use Rattle.ifc_instances.specs.EntityLookup.{is_a}
use Rattle.ifc_schema.specs.declared.flaw.Flaw.{Flaw}
use Rattle.ifc_schema.specs.declared.flaw.Flaw.TheVariants.{BadShape}
use Rattle.ifc_schema.specs.declared.form.Attribute.{Attribute}
use Rattle.ifc_schema.specs.declared.form.Targets.{Targets}
use Rattle.ifc_schema.specs.declared.form.Targets.TheVariants as targets
use Rattle.ifc_schema.specs.declared.form.Leaf.{Leaf}
use Rattle.ifc_schema.specs.declared.form.Leaf.TheVariants as leaf
use Rattle.ifc_schema.specs.declared.form.Count.TheVariants.{Exactly, AtLeast}
use Rattle.ifc_schema.specs.declared.form.Shape.{Shape}
use Rattle.ifc_schema.specs.declared.form.Shape.TheVariants as shape
use Rattle.ifc_schema.specs.declared.form.Need.TheVariants.{Must, OrMissing}
use Rattle.ifc_schema.specs.declared.form.When.TheVariants.{Always}
use Rattle.ifc_schema.specs.Forms.{holds}
use Rattle.ifc_schema.specs.AttributeTable.{row_of, attribute, row_or_none}
use Rattle.ifc_schema.specs.Flaws.{LeafFlaw, ListFlaw, ItemsFlaw, ShapeFlaw, PlaceFlaw, AttributeFlaw, InstanceFlaw, bad_unless, target_flaw, wanted_flaw, reference_flaw}
use Rattle.ifc_units.specs.declared.scale.Scale.{Scale}
use Rattle.ifc_units.specs.Lengths.{IsPoint, ArePoints}
use Rattle.faceset.specs.FaceSets.{is_set, is_polygonal, numbering, numbering_place, faces_of, IsCut, IsTriangle, AreTriangles, Joined, SetTriangles}
use Rattle.faceset.proofs.Zips.{zip_length}
use Rattle.walk_rows.specs.SetRows.{HasNumbering, NamesOne, NamesPoints, LeadsToFace, NamesFaces}
use Rattle.model_walk.specs.inner.PooledSets.{HasPoints}
use Rattle.model_walk.proofs.FormsRead.{whole_leaf, rows_formed, points_formed}
use Rattle.model_walk.proofs.SetEntities.{list_entity, triangulated_entity, triangulated_set, polygonal_entity, held_one, held_face}

abbrev no_flaw : Option Flaw
no_flaw = None

-- Lists.

-- an attribute that is a list with items
record Listed (i : Instance) (at : ℕ) : Type 0 where
  value : Value21
  there : slice_get i.values at ≡ Some value
  values : List Value21
  items : items_of value ≡ Some values
  same : listed i at ≡ values

-- the items of an attribute
abbrev pub items_at : Instance → ℕ → List Value21
items_at i at = unwrap_or (option_and_then items_of (slice_get i.values at)) []

pub listed_is : (i : Instance) (at : ℕ) → listed i at ≡ items_at i at
unfolding listed
listed_is i at = refl

some_listed : (i : Instance) (at : ℕ) → 0 < length (listed i at) → Listed i at
some_listed i at some = by_value (slice_get i.values at) refl (subst (λ (vs : List Value21). 0 < length vs) (listed_is i at) some)
  where
    by_items : (v : Value21) → slice_get i.values at ≡ Some v → (o : Option (List Value21)) → items_of v ≡ o → 0 < length (unwrap_or o []) → Listed i at
    by_items v e None f few = absurd (omega (arith, few))
    by_items v e (Some vs) f few = record {
      value = v;
      there = e;
      values = vs;
      items = f;
      same = listed_is i at ∙ (ap (λ (o : Option Value21). unwrap_or (option_and_then items_of o) []) e ∙ ap (λ (o : Option (List Value21)). unwrap_or o []) f);
    }

    by_value : (o : Option Value21) → slice_get i.values at ≡ o → 0 < length (unwrap_or (option_and_then items_of o) []) → Listed i at
    by_value None e few = absurd (omega (arith, few))
    by_value (Some v) e few = by_items v e (items_of v) refl few

-- Attributes.

must_flaw : (world : List Instance) (mapped : Bool) (i : Instance) (at : ℕ) (s : Shape) (l : Leaf) (v : Value21) → slice_get i.values at ≡ Some v → ShapeFlaw world l s v None → AttributeFlaw world mapped i (attribute at Always Must s l) None
must_flaw world mapped i at s l v e h = subst (λ (o : Option Value21). PlaceFlaw world (attribute at Always Must s l) o None) (sym e) h

missing_flaw : (world : List Instance) (mapped : Bool) (i : Instance) (at : ℕ) (s : Shape) (l : Leaf) → MatchOption (slice_get i.values at) ⊤ (λ v. (is_absent v ≡ true) ⊎ ShapeFlaw world l s v None)
    → AttributeFlaw world mapped i (attribute at Always OrMissing s l) None
missing_flaw world mapped i at s l h = by_value (slice_get i.values at) h
  where
    by_absent : (v : Value21) (b : Bool) → (b ≡ true) ⊎ ShapeFlaw world l s v None → MatchBool b (no_flaw ≡ None) (ShapeFlaw world l s v None)
    by_absent v true h = refl
    by_absent v false (inl t) = absurd (cc)
    by_absent v false (inr q) = q

    by_value : (o : Option Value21) → MatchOption o ⊤ (λ v. (is_absent v ≡ true) ⊎ ShapeFlaw world l s v None) → PlaceFlaw world (attribute at Always OrMissing s l) o None
    by_value None h = refl
    by_value (Some v) h = by_absent v (is_absent v) h

abbrev list_attribute : Attribute
list_attribute = attribute 0 Always Must shape.One (leaf.Reference (targets.One entity.PointList))

abbrev points_attribute : Attribute
points_attribute = attribute 0 Always Must (shape.Table (AtLeast 1) (Exactly 3)) leaf.Number

abbrev triangles_attribute : Attribute
triangles_attribute = attribute 3 Always Must (shape.Table (AtLeast 1) (Exactly 3)) leaf.Whole

abbrev faces_attribute : Attribute
faces_attribute = attribute 2 Always Must (shape.List (AtLeast 1)) (leaf.Reference targets.Faces)

abbrev numbers_attribute : ℕ → Attribute
numbers_attribute at = attribute at Always OrMissing (shape.List (AtLeast 0)) leaf.Whole

-- a reference
refers_flaw : (world : List Instance) (wanted : Targets) (v : Value21) (to : ℕ) (i : Instance) → reference_of v ≡ Some to → look world to ≡ Some i → holds wanted i.keyword ≡ true → LeafFlaw world (leaf.Reference wanted) v None
refers_flaw world wanted v to i r f h = sym (ap (reference_flaw (wanted_flaw wanted world)) r ∙ (ap (target_flaw wanted to) f ∙ ap bad_unless h))

value_there : (i : Instance) (at to : ℕ) → reference_at i at ≡ Some to → (v : Value21) × (slice_get i.values at ≡ Some v) × (reference_of v ≡ Some to)
value_there i at to e = by_value (slice_get i.values at) refl e
  where
    by_value : (o : Option Value21) → slice_get i.values at ≡ o → option_and_then reference_of o ≡ Some to → (v : Value21) × (slice_get i.values at ≡ Some v) × (reference_of v ≡ Some to)
    by_value None f r = absurd (cc)
    by_value (Some v) f r = (v, f, r)

list_flaw : (world : List Instance) (mapped : Bool) (set : Instance) (list : ℕ) (i : Instance) → reference_at set 0 ≡ Some list → look world list ≡ Some i → is_a entity.PointList i ≡ true
    → AttributeFlaw world mapped set list_attribute None
list_flaw world mapped set list i refers found kind =
    let v = value_there set 0 list refers in
    must_flaw world mapped set 0 shape.One (leaf.Reference (targets.One entity.PointList)) v.0 v.1 (refers_flaw world (targets.One entity.PointList) v.0 list i v.2 found (held_one entity.PointList i.keyword kind))

-- the numbers of points
items_flaw : (F : Value21 → Option Flaw → Type 0) (least : ℕ) (v : Value21) (vs : List Value21) → items_of v ≡ Some vs → least ≤ length vs → All (λ x. F x None) vs → ListFlaw (AtLeast least) F v None
items_flaw F least v vs e enough all = subst (λ (o : Option (List Value21)). MatchOption o (no_flaw ≡ Some BadShape) (λ xs. ItemsFlaw (AtLeast least) F xs None)) (sym e) (subst (λ (b : Bool). MatchBool b (All (λ x. F x None) vs) (no_flaw ≡ Some BadShape)) (sym (le-leb least (length vs) enough)) all)

numbering_flaw : (world : List Instance) (mapped : Bool) (set : Instance) (count at : ℕ) → numbering_place (is_polygonal set) ≡ at → HasNumbering set → NamesPoints count (numbering set)
    → AttributeFlaw world mapped set (numbers_attribute at) None
unfolding numbering
numbering_flaw world mapped set count at place has names =
    missing_flaw world mapped set at (shape.List (AtLeast 0)) leaf.Whole
    (subst (λ (k : ℕ). MatchOption (slice_get set.values k) ⊤ (λ v. (is_absent v ≡ true) ⊎ ShapeFlaw world leaf.Whole (shape.List (AtLeast 0)) v None)) place
    (by_value (slice_get set.values (numbering_place (is_polygonal set))) has names))
  where
    one : (v : Value21) → NamesOne count v → LeafFlaw world leaf.Whole v None
    one v n = whole_leaf world count v n.0 n.1

    by_value : (o : Option Value21) → MatchOption o ⊤ (λ v. (is_absent v ≡ true) ⊎ ((numbers : List Value21) × (items_of v ≡ Some numbers))) → NamesPoints count (option_and_then items_of o)
        → MatchOption o ⊤ (λ v. (is_absent v ≡ true) ⊎ ShapeFlaw world leaf.Whole (shape.List (AtLeast 0)) v None)
    by_value None h n = tt
    by_value (Some v) (inl absent) n = inl absent
    by_value (Some v) (inr h) n =
        inr (items_flaw (LeafFlaw world leaf.Whole) 0 v h.0 h.1 (omega arith) (All-weaker (NamesOne count) (λ x. LeafFlaw world leaf.Whole x None) one h.0 (subst (NamesPoints count) h.1 n)))

-- Of a list of points.

pub list_formed : (world : List Instance) (scale : Scale) (mode : Mode) (mapped : Bool) (points : List Point) (i : Instance) → HasPoints scale mode points i → InstanceFlaw world mapped i None
unfolding row_of
list_formed world scale mode mapped points i h =
    let F : Attribute → Type 0 = λ (a : Attribute). AttributeFlaw world mapped i a None in
    let some = h.1 in
    let long = zip_length (IsPoint scale mode) (listed i 0) points h.0.are in
    let l = some_listed i 0 (omega (arith, some, long)) in
    let table = points_formed world scale mode l.value l.values points l.items (let e = ap length l.same in omega (arith, some, long, e)) (subst (λ (vs : List Value21). ArePoints scale mode vs points) l.same h.0.are) in
    subst (λ (o : Option Entity). All F (row_or_none o)) (sym (list_entity i h.0.kind))
    (All-cons F points_attribute [] (must_flaw world mapped i 0 (shape.Table (AtLeast 1) (Exactly 3)) leaf.Number l.value l.there table) (All-nil F))

-- Of sets.

triangles_flaw : (world : List Instance) (mapped : Bool) (points : List Point) (set : Instance) (ts : List Triangle) → AreTriangles (numbering set) points (listed set 3) ts → 0 < length ts
    → AttributeFlaw world mapped set triangles_attribute None
triangles_flaw world mapped points set ts are some =
    let long = zip_length (IsTriangle (numbering set) points) (listed set 3) ts are in
    let l = some_listed set 3 (omega (arith, some, long)) in
    let e = ap length l.same in
    must_flaw world mapped set 3 (shape.Table (AtLeast 1) (Exactly 3)) leaf.Whole l.value l.there
    (rows_formed world (numbering set) points l.value l.values ts l.items (omega (arith, some, long, e)) (subst (λ (vs : List Value21). AreTriangles (numbering set) points vs ts) l.same are))

faces_some : (world : List Instance) (names : Option (List Value21)) (points : List Point) (vs : List Value21) (ts : List Triangle) → Joined (IsCut names points) (led_to world vs) ts → 0 < length ts → 0 < length vs
faces_some world names points [] ts j some = absurd (let l = ap length j in omega (arith, l, some))
faces_some world names points (v ∷ vs) ts j some = omega arith

face_leaf : (world : List Instance) (v : Value21) → LeadsToFace world v → LeafFlaw world (leaf.Reference targets.Faces) v None
face_leaf world v h = refers_flaw world targets.Faces v h.to h.face h.refers h.found (held_face h.face.keyword h.kind)

faces_flaw : (world : List Instance) (mapped : Bool) (set : Instance) → 0 < length (listed set 2) → All (LeadsToFace world) (listed set 2)
    → AttributeFlaw world mapped set faces_attribute None
faces_flaw world mapped set some all =
    let l = some_listed set 2 some in
    let e = ap length l.same in
    must_flaw world mapped set 2 (shape.List (AtLeast 1)) (leaf.Reference targets.Faces) l.value l.there
    (items_flaw (LeafFlaw world (leaf.Reference targets.Faces)) 1 l.value l.values l.items (omega (arith, some, e))
    (All-weaker (LeadsToFace world) (λ x. LeafFlaw world (leaf.Reference targets.Faces) x None) (face_leaf world) l.values (subst (All (LeadsToFace world)) l.same all)))

triangulated_formed : (world : List Instance) (mapped : Bool) (points : List Point) (set : Instance) (ts : List Triangle) (list : ℕ) (i : Instance) → is_a entity.TriangulatedFaceSet set ≡ true → is_polygonal set ≡ false
    → reference_at set 0 ≡ Some list → look world list ≡ Some i → is_a entity.PointList i ≡ true → HasNumbering set → NamesPoints (length points) (numbering set) → AreTriangles (numbering set) points (listed set 3) ts → 0 < length ts
    → InstanceFlaw world mapped set None
unfolding row_of
triangulated_formed world mapped points set ts list i kind other refers found listed_kind has names are some =
    let F : Attribute → Type 0 = λ (a : Attribute). AttributeFlaw world mapped set a None in
    subst (λ (o : Option Entity). All F (row_or_none o)) (sym (triangulated_entity set kind))
    (All-cons F list_attribute (triangles_attribute ∷ numbers_attribute 4 ∷ []) (list_flaw world mapped set list i refers found listed_kind)
    (All-cons F triangles_attribute (numbers_attribute 4 ∷ []) (triangles_flaw world mapped points set ts are some)
    (All-cons F (numbers_attribute 4) [] (numbering_flaw world mapped set (length points) 4 (ap numbering_place other) has names) (All-nil F))))

polygonal_formed : (world : List Instance) (mapped : Bool) (points : List Point) (set : Instance) (ts : List Triangle) (list : ℕ) (i : Instance) → is_polygonal set ≡ true
    → reference_at set 0 ≡ Some list → look world list ≡ Some i → is_a entity.PointList i ≡ true → HasNumbering set → NamesPoints (length points) (numbering set) → NamesFaces world set
    → Joined (IsCut (numbering set) points) (led_to world (listed set 2)) ts → 0 < length ts → InstanceFlaw world mapped set None
unfolding row_of
polygonal_formed world mapped points set ts list i kind refers found listed_kind has names faces j some =
    let F : Attribute → Type 0 = λ (a : Attribute). AttributeFlaw world mapped set a None in
    subst (λ (o : Option Entity). All F (row_or_none o)) (sym (polygonal_entity set kind))
    (All-cons F list_attribute (faces_attribute ∷ numbers_attribute 3 ∷ []) (list_flaw world mapped set list i refers found listed_kind)
    (All-cons F faces_attribute (numbers_attribute 3 ∷ []) (faces_flaw world mapped set (faces_some world (numbering set) points (listed set 2) ts j some) (faces kind))
    (All-cons F (numbers_attribute 3) [] (numbering_flaw world mapped set (length points) 3 (ap numbering_place kind) has names) (All-nil F))))

-- the faces of a set are those that its values lead to
faces_led : (world : List Instance) (points : List Point) (set : Instance) (ts : List Triangle) → Joined (IsCut (numbering set) points) (faces_of world set) ts → Joined (IsCut (numbering set) points) (led_to world (listed set 2)) ts
unfolding faces_of
faces_led world points set ts j = j

-- a set whose triangles are told, with one at least
pub set_formed : (world : List Instance) (mapped : Bool) (points : List Point) (set : Instance) (ts : List Triangle) (list : ℕ) (i : Instance) → is_set set ≡ true
    → reference_at set 0 ≡ Some list → look world list ≡ Some i → is_a entity.PointList i ≡ true → HasNumbering set → NamesPoints (length points) (numbering set) → NamesFaces world set
    → SetTriangles world points set ts → 0 < length ts → InstanceFlaw world mapped set None
set_formed world mapped points set ts list i kind refers found listed_kind has names faces are some = by_kind (is_polygonal set) refl are
  where
    by_kind : (b : Bool) → is_polygonal set ≡ b → MatchBool b (Joined (IsCut (numbering set) points) (faces_of world set) ts) (AreTriangles (numbering set) points (listed set 3) ts) → InstanceFlaw world mapped set None
    by_kind true e j = polygonal_formed world mapped points set ts list i e refers found listed_kind has names faces (faces_led world points set ts j) some
    by_kind false e z = triangulated_formed world mapped points set ts list i (triangulated_set set kind e) e refers found listed_kind has names z some
