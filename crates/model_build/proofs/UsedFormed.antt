-- What the instances that are used have, where each has the form of its row.
use Rattle.std.proofs.Common.{◌≡◌, ℕ, ◌<◌, ◌==◌, inl, inr, Bool, true, false, List, [], ◌∷◌, length, Option, Some, None, option_and_then, Contains, refl, sym, ap, ◌∙◌, subst, arith}
use Rattle.std.specs.Option.{unwrap_or}
use Rattle.std.specs.List.{slice_get, list_all, All}
use Rattle.std.proofs.lemmas.Bool.{eqb-true}
use Rattle.std.proofs.lemmas.Bool.Decides.{nat_tests}
use Rattle.p21_values.specs.declared.value.Value21.{Value21}
use Rattle.p21_values.specs.declared.value.Instance.{Instance}
use Rattle.bim_model.specs.Guids.{IsGuid, is_guid_char}
use Rattle.bim_text.specs.TextSpellings.{text_of_spelling}
use Rattle.ifc_instances.specs.declared.entity.Entity.{Entity}
use Rattle.ifc_instances.specs.declared.entity.Entity.TheVariants as entity
use Rattle.ifc_schema.specs.declared.form.Targets.TheVariants as targets
use Rattle.ifc_schema.specs.declared.form.Leaf.TheVariants as leaf
use Rattle.ifc_schema.specs.declared.form.Count.{Count}
use Rattle.ifc_schema.specs.declared.form.Count.TheVariants.{Exactly, AtLeast}
use Rattle.ifc_schema.specs.declared.form.Shape.TheVariants as shape
use Rattle.ifc_schema.specs.declared.form.Need.{Need}
use Rattle.ifc_schema.specs.declared.form.Need.TheVariants.{Must, OrAbsent}
use Rattle.ifc_schema.specs.declared.form.When.{When}
use Rattle.ifc_schema.specs.declared.form.When.TheVariants.{Always, WithBody}
use Rattle.ifc_schema.specs.AttributeWords.{IsNumber, says_guid}
use Rattle.bim_text.specs.Says.{is_guid}
use Rattle.ifc_schema.specs.AttributeTable.{row_of, attribute, row_at}
use Rattle.p21_values.specs.Values.{words_of, reference_of, items_of}
use Rattle.p21_values.specs.InstanceLookup.{look}
use Rattle.ifc_instances.specs.EntityLookup.{entity_at, is_a, some_passes}
use Rattle.ifc_schema.specs.BodyRepresentations.{applies, has_body}
use Rattle.ifc_schema.specs.Flaws.{LeafFlaw, ListFlaw, ShapeFlaw, bad_unless}
use Rattle.ifc_schema.specs.Used.{Used}
use Rattle.ifc_schema.specs.Surveys.{is_subject}
use Rattle.placement.specs.declared.direction.Direction.{Direction}
use Rattle.placement.specs.Directions.{Spelled, coordinates, three_numbers, IsDirection, Directs, HasDirections}
use Rattle.p21_values.specs.Attributes.{listed, reference_at}
use Rattle.faceset.specs.FaceSets.{spelled_triangles, HasThree}
use Rattle.model_build.specs.Stages.{IsUsed}
use Rattle.ifc_elements.specs.ElementTexts.{guid_of}
use Rattle.model_build.proofs.OneKeyword.{is_placement, is_axis_placement, is_point, is_direction, is_point_list, is_face_set, is_element, is_a_held, both}
use Rattle.model_build.proofs.AttributesFormed.{Shaped, Formed, formed_there, At, OrAway, in_row, attribute_flaw, must_at, absent_at, at_more, SpellsNumber, SpellsWhole, RefersToA, number_spelled, whole_spelled, referred, ListOf, list_there, list_more, follows}

-- Values.

-- a value is a list of three values, and it holds of each
pub record ThreeOf (P : Value21 → Type 0) (v : Value21) : Type 0 where
  pub a : Value21
  pub b : Value21
  pub c : Value21
  pub three : items_of v ≡ Some (a ∷ b ∷ c ∷ [])
  pub first : P a
  pub second : P b
  pub third : P c

three_of : (P : Value21 → Type 0) (v : Value21) → ListOf (Exactly 3) P v → ThreeOf P v
three_of P v h = from P v h.values h.items (eqb-true (length h.values) 3 h.many) h.each
  where
    from : (P : Value21 → Type 0) (v : Value21) (xs : List Value21) → items_of v ≡ Some xs → length xs ≡ 3 → All P xs → ThreeOf P v
    from P v [] e n h = absurd (omega arith)
    from P v (a ∷ []) e n h = absurd (omega arith)
    from P v (a ∷ b ∷ []) e n h = absurd (omega arith)
    from P v (a ∷ b ∷ c ∷ []) e n h = record { a = a; b = b; c = c; three = e; first = h 0 a (omega arith); second = h 1 a (omega arith); third = h 2 a (omega arith) }
    from P v (a ∷ b ∷ c ∷ d ∷ xs) e n h = absurd (omega arith)

-- a value refers to an instance of that entity that is used
pub record NamesUsed (world : List Instance) (X : Entity) (v : Value21) : Type 0 where
  pub to : ℕ
  pub refers : reference_of v ≡ Some to
  pub is : IsUsed X world to

-- what a reference that is followed leads to is used
pub one_used : (world : List Instance) (from : ℕ) (i : Instance) (at : ℕ) (w : When) (n : Need) (X : Entity) (v : Value21) → Used world from → look world from ≡ Some i
    → Contains (row_at i) (attribute at w n shape.One (leaf.Reference (targets.One X))) → applies world false i w ≡ true → slice_get i.values at ≡ Some v → (r : RefersToA world X v) → Used world r.to
one_used world from i at w n X v u e c t s r =
    follows world from r.to i (attribute at w n shape.One (leaf.Reference (targets.One X))) v u e c t s r.refers (record { target = r.target; found = r.found; meant = is_a_held X r.target r.is })

used_one : (world : List Instance) (from : ℕ) (i : Instance) (at : ℕ) (w : When) (n : Need) (X : Entity) (v : Value21) → Used world from → look world from ≡ Some i
    → Contains (row_at i) (attribute at w n shape.One (leaf.Reference (targets.One X))) → applies world false i w ≡ true → slice_get i.values at ≡ Some v → RefersToA world X v → NamesUsed world X v
used_one world from i at w n X v u e c t s r = record { to = r.to; refers = r.refers; is = (one_used world from i at w n X v u e c t s r, record { instance = r.target; found = r.found; holds = r.is }) }

-- an attribute that must refer to an instance of that entity
pub used_must : (world : List Instance) (from : ℕ) (i : Instance) (at : ℕ) (X : Entity) → Shaped world → Used world from → look world from ≡ Some i → Contains (row_at i) (attribute at Always Must shape.One (leaf.Reference (targets.One X)))
    → At i at (NamesUsed world X)
used_must world from i at X shaped u e c =
    let f = formed_there world from i (shaped from u) e in
    let r = must_at world f.mapped i at Always shape.One (leaf.Reference (targets.One X)) refl (attribute_flaw world f.mapped i (attribute at Always Must shape.One (leaf.Reference (targets.One X))) f.formed c) in
    record { value = r.value; there = r.there; holds = used_one world from i at Always Must X r.value u e c refl r.there (referred world X r.value r.holds) }

-- one that may be absent
used_absent : (world : List Instance) (from : ℕ) (i : Instance) (at : ℕ) (w : When) (X : Entity) → Shaped world → Used world from → look world from ≡ Some i
    → ((m : Bool) → applies world m i w ≡ true) → Contains (row_at i) (attribute at w OrAbsent shape.One (leaf.Reference (targets.One X)))
    → At i at (OrAway (NamesUsed world X))
used_absent world from i at w X shaped u e t c =
    let f = formed_there world from i (shaped from u) e in
    let r = absent_at world f.mapped i at w shape.One (leaf.Reference (targets.One X)) (t f.mapped) (attribute_flaw world f.mapped i (attribute at w OrAbsent shape.One (leaf.Reference (targets.One X))) f.formed c) in
    record {
      value = r.value;
      there = r.there;
      holds = elim r.holds [ inl a ↦ inl a | inr p ↦ inr (used_one world from i at w OrAbsent X r.value u e c (t false) r.there (referred world X r.value p)) ];
    }

-- the number that an attribute names
pub named_at : (world : List Instance) (i : Instance) (at : ℕ) (X : Entity) → At i at (NamesUsed world X) → (to : ℕ) × (reference_at i at ≡ Some to) × IsUsed X world to
named_at world i at X h = let e = h.there in (h.holds.to, ap (option_and_then reference_of) e ∙ h.holds.refers, h.holds.is)

-- Points and directions.

numbers_from : (world : List Instance) (i : Instance) → Formed world i → Contains (row_at i) (attribute 0 Always Must (shape.List (Exactly 3)) leaf.Number) → At i 0 (ThreeOf SpellsNumber)
numbers_from world i f c =
    at_more i 0 (λ v. ShapeFlaw world leaf.Number (shape.List (Exactly 3)) v None) (ThreeOf SpellsNumber)
    (λ v h. three_of SpellsNumber v (list_more (Exactly 3) (λ x. LeafFlaw world leaf.Number x None) SpellsNumber (number_spelled world) v (list_there (Exactly 3) (LeafFlaw world leaf.Number) v h)))
    (must_at world f.mapped i 0 Always (shape.List (Exactly 3)) leaf.Number refl (attribute_flaw world f.mapped i (attribute 0 Always Must (shape.List (Exactly 3)) leaf.Number) f.formed c))

-- a point has three numbers
pub point_numbers : (world : List Instance) (id : ℕ) (i : Instance) → Shaped world → Used world id → look world id ≡ Some i → is_a entity.Point i ≡ true → At i 0 (ThreeOf SpellsNumber)
unfolding row_of
point_numbers world id i shaped u e is = numbers_from world i (formed_there world id i (shaped id u) e) (in_row entity.Point i (attribute 0 Always Must (shape.List (Exactly 3)) leaf.Number) (is_point i is) (0, omega arith, refl))

-- so has a direction
pub direction_numbers : (world : List Instance) (id : ℕ) (i : Instance) → Shaped world → Used world id → look world id ≡ Some i → is_a entity.Direction i ≡ true → At i 0 (ThreeOf SpellsNumber)
unfolding row_of
direction_numbers world id i shaped u e is =
    numbers_from world i (formed_there world id i (shaped id u) e) (in_row entity.Direction i (attribute 0 Always Must (shape.List (Exactly 3)) leaf.Number) (is_direction i is) (0, omega arith, refl))

-- a list of points is one of one or more such
pub list_numbers : (world : List Instance) (id : ℕ) (i : Instance) → Shaped world → Used world id → look world id ≡ Some i → is_a entity.PointList i ≡ true → At i 0 (ListOf (AtLeast 1) (ThreeOf SpellsNumber))
unfolding row_of
list_numbers world id i shaped u e is =
    let f = formed_there world id i (shaped id u) e in
    let s = shape.Table (AtLeast 1) (Exactly 3) in
    let c : Contains (row_at i) (attribute 0 Always Must s leaf.Number) = in_row entity.PointList i (attribute 0 Always Must s leaf.Number) (is_point_list i is) (0, omega arith, refl) in
    at_more i 0 (λ v. ShapeFlaw world leaf.Number s v None) (ListOf (AtLeast 1) (ThreeOf SpellsNumber))
    (λ v h. list_more (AtLeast 1) (λ x. ListFlaw (Exactly 3) (LeafFlaw world leaf.Number) x None) (ThreeOf SpellsNumber)
    (λ x k. three_of SpellsNumber x (list_more (Exactly 3) (λ y. LeafFlaw world leaf.Number y None) SpellsNumber (number_spelled world) x (list_there (Exactly 3) (LeafFlaw world leaf.Number) x k))) v
    (list_there (AtLeast 1) (ListFlaw (Exactly 3) (LeafFlaw world leaf.Number)) v h))
    (must_at world f.mapped i 0 Always s leaf.Number refl (attribute_flaw world f.mapped i (attribute 0 Always Must s leaf.Number) f.formed c))

-- Placements.

-- an axis placement refers to a point
pub location_used : (world : List Instance) (id : ℕ) (i : Instance) → Shaped world → Used world id → look world id ≡ Some i → is_a entity.AxisPlacement i ≡ true → At i 0 (NamesUsed world entity.Point)
unfolding row_of
location_used world id i shaped u e is =
    used_must world id i 0 entity.Point shaped u e (in_row entity.AxisPlacement i (attribute 0 Always Must shape.One (leaf.Reference (targets.One entity.Point))) (is_axis_placement i is) (0, omega arith, refl))

-- its directions may be absent
pub axis_used : (world : List Instance) (id : ℕ) (i : Instance) → Shaped world → Used world id → look world id ≡ Some i → is_a entity.AxisPlacement i ≡ true → At i 1 (OrAway (NamesUsed world entity.Direction))
unfolding row_of
axis_used world id i shaped u e is =
    used_absent world id i 1 Always entity.Direction shaped u e (λ m. refl) (in_row entity.AxisPlacement i (attribute 1 Always OrAbsent shape.One (leaf.Reference (targets.One entity.Direction))) (is_axis_placement i is) (1, omega arith, refl))

pub reference_used : (world : List Instance) (id : ℕ) (i : Instance) → Shaped world → Used world id → look world id ≡ Some i → is_a entity.AxisPlacement i ≡ true → At i 2 (OrAway (NamesUsed world entity.Direction))
unfolding row_of
reference_used world id i shaped u e is =
    used_absent world id i 2 Always entity.Direction shaped u e (λ m. refl) (in_row entity.AxisPlacement i (attribute 2 Always OrAbsent shape.One (leaf.Reference (targets.One entity.Direction))) (is_axis_placement i is) (2, omega arith, refl))

-- a placement stands in none, or refers to that in which it stands
pub parent_used : (world : List Instance) (id : ℕ) (i : Instance) → Shaped world → Used world id → look world id ≡ Some i → is_a entity.Placement i ≡ true → At i 0 (OrAway (NamesUsed world entity.Placement))
unfolding row_of
parent_used world id i shaped u e is =
    used_absent world id i 0 Always entity.Placement shaped u e (λ m. refl) (in_row entity.Placement i (attribute 0 Always OrAbsent shape.One (leaf.Reference (targets.One entity.Placement))) (is_placement i is) (0, omega arith, refl))

-- it refers to an axis placement
pub axes_used : (world : List Instance) (id : ℕ) (i : Instance) → Shaped world → Used world id → look world id ≡ Some i → is_a entity.Placement i ≡ true → At i 1 (NamesUsed world entity.AxisPlacement)
unfolding row_of
axes_used world id i shaped u e is =
    used_must world id i 1 entity.AxisPlacement shaped u e (in_row entity.Placement i (attribute 1 Always Must shape.One (leaf.Reference (targets.One entity.AxisPlacement))) (is_placement i is) (1, omega arith, refl))

-- three numbers are the coordinates of their instance
pub record Coordinates (i : Instance) : Type 0 where
  pub spelled : Spelled
  pub are : coordinates i ≡ Some spelled
  pub x : IsNumber spelled.x
  pub y : IsNumber spelled.y
  pub z : IsNumber spelled.z

pub coordinates_there : (i : Instance) → At i 0 (ThreeOf SpellsNumber) → Coordinates i
coordinates_there i h =
    let t = h.holds in
    let first = t.first.number in
    let second = t.second.number in
    let third = t.third.number in
    record {
      spelled = record { x = t.first.bytes; y = t.second.bytes; z = t.third.bytes };
      are = ap (λ o. option_and_then three_numbers (option_and_then items_of o)) h.there ∙ ap (option_and_then three_numbers) t.three ∙ rw (first, second, third) refl;
      x = t.first.reads;
      y = t.second.reads;
      z = t.third.reads;
    }

-- a direction that is used can be read
pub direction_there : (world : List Instance) (id : ℕ) → Shaped world → IsUsed entity.Direction world id → (d : Direction) × IsDirection world id d
direction_there world id shaped u =
    let i = u.1.instance in
    let n = coordinates_there i (direction_numbers world id i shaped u.0 u.1.found u.1.holds) in (
      record { x = n.x.0; y = n.y.0; z = n.z.0 },
      record { spelled = n.spelled; numbers = ap (option_and_then coordinates) u.1.found ∙ n.are; x = n.x.1; y = n.y.1; z = n.z.1 },
    )

directs : (world : List Instance) (v : Value21) → Shaped world → OrAway (NamesUsed world entity.Direction) v → (d : Option Direction) × Directs world v d
directs world v shaped (inl a) = (None, a)
directs world v shaped (inr n) = let d = direction_there world n.to shaped n.is in (Some d.0, (n.to, n.refers, d.1))

-- the directions of an axis placement that is used can be read
pub has_directions : (world : List Instance) (id : ℕ) → Shaped world → IsUsed entity.AxisPlacement world id → HasDirections world id
has_directions world id shaped u =
    let i = u.1.instance in
    let first = axis_used world id i shaped u.0 u.1.found u.1.holds in
    let second = reference_used world id i shaped u.0 u.1.found u.1.holds in
    let a = directs world first.value shaped first.holds in
    let b = directs world second.value shaped second.holds in
    record {
      axis = a.0;
      reference = b.0;
      directions = record { instance = i; found = u.1.found; first = first.value; first_there = first.there; first_says = a.1; second = second.value; second_there = second.there; second_says = b.1 };
    }

-- Sets.

-- a set refers to a list of points
pub points_used : (world : List Instance) (id : ℕ) (i : Instance) → Shaped world → Used world id → look world id ≡ Some i → is_a entity.TriangulatedFaceSet i ≡ true → At i 0 (NamesUsed world entity.PointList)
unfolding row_of
points_used world id i shaped u e is =
    used_must world id i 0 entity.PointList shaped u e (in_row entity.TriangulatedFaceSet i (attribute 0 Always Must shape.One (leaf.Reference (targets.One entity.PointList))) (is_face_set i is) (0, omega arith, refl))

-- its triangles are one or more lists of three whole numbers
pub triangles_whole : (world : List Instance) (id : ℕ) (i : Instance) → Shaped world → Used world id → look world id ≡ Some i → is_a entity.TriangulatedFaceSet i ≡ true → At i 3 (ListOf (AtLeast 1) (ThreeOf SpellsWhole))
unfolding row_of
triangles_whole world id i shaped u e is =
    let f = formed_there world id i (shaped id u) e in
    let s = shape.Table (AtLeast 1) (Exactly 3) in
    let c : Contains (row_at i) (attribute 3 Always Must s leaf.Whole) = in_row entity.TriangulatedFaceSet i (attribute 3 Always Must s leaf.Whole) (is_face_set i is) (1, omega arith, refl) in
    at_more i 3 (λ v. ShapeFlaw world leaf.Whole s v None) (ListOf (AtLeast 1) (ThreeOf SpellsWhole))
    (λ v h. list_more (AtLeast 1) (λ x. ListFlaw (Exactly 3) (LeafFlaw world leaf.Whole) x None) (ThreeOf SpellsWhole)
    (λ x k. three_of SpellsWhole x (list_more (Exactly 3) (λ y. LeafFlaw world leaf.Whole y None) SpellsWhole (whole_spelled world) x (list_there (Exactly 3) (LeafFlaw world leaf.Whole) x k))) v
    (list_there (AtLeast 1) (ListFlaw (Exactly 3) (LeafFlaw world leaf.Whole)) v h))
    (must_at world f.mapped i 3 Always s leaf.Whole refl (attribute_flaw world f.mapped i (attribute 3 Always Must s leaf.Whole) f.formed c))

-- the items of a list that is there
pub listed_there : (i : Instance) (at : ℕ) (v : Value21) (vs : List Value21) → slice_get i.values at ≡ Some v → items_of v ≡ Some vs → listed i at ≡ vs
unfolding listed
listed_there i at v vs t e = ap (λ o. unwrap_or (option_and_then items_of o) []) t ∙ ap (λ o. unwrap_or o []) e

-- an attribute is a list: what holds of its items
pub listed_all : (i : Instance) (at : ℕ) (count : Count) (P : Value21 → Type 0) → At i at (ListOf count P) → All P (listed i at)
listed_all i at count P h = subst (All P) (sym (listed_there i at h.value h.holds.values h.there h.holds.items)) h.holds.each

pub listed_some : (i : Instance) (at : ℕ) (P : Value21 → Type 0) → At i at (ListOf (AtLeast 1) P) → 0 < length (listed i at)
listed_some i at P h =
    let e = ap length (listed_there i at h.value h.holds.values h.there h.holds.items) in
    let m = h.holds.many in
    grind (arith, nat_tests)

pub three_values : (world : List Instance) (id : ℕ) (i : Instance) → Shaped world → Used world id → look world id ≡ Some i → is_a entity.TriangulatedFaceSet i ≡ true → All HasThree (spelled_triangles i)
three_values world id i shaped u e is =
    let h = listed_all i 3 (AtLeast 1) (ThreeOf SpellsWhole) (triangles_whole world id i shaped u e is) in
    λ k d lt. (let t = h k d lt in (t.a, t.b, t.c, t.three))

-- Texts.

-- a value is a text that says a global identifier
pub record SpellsGuid (v : Value21) : Type 0 where
  pub words : List ℕ
  pub spelled : words_of v ≡ Some words
  pub guid : IsGuid (text_of_spelling words)

guid_from : (v : Value21) (o : Option (List ℕ)) → words_of v ≡ o → None ≡ bad_unless (some_passes says_guid o) → SpellsGuid v
unfolding says_guid
guid_from v None e h = cc
guid_from v (Some words) e h = record { words = words; spelled = e; guid = says (is_guid (text_of_spelling words)) refl h }
  where
    says : (b : Bool) → is_guid (text_of_spelling words) ≡ b → None ≡ bad_unless b → IsGuid (text_of_spelling words)
    says true e h = let t = both (length (text_of_spelling words) == 22) (list_all is_guid_char (text_of_spelling words)) e in (eqb-true (length (text_of_spelling words)) 22 t.0, t.1)
    says false e h = cc

-- the global identifier of an element
pub element_guid : (world : List Instance) (id : ℕ) (i : Instance) → Shaped world → Used world id → look world id ≡ Some i → is_subject (entity_at i) ≡ true → At i 0 SpellsGuid
unfolding row_of
element_guid world id i shaped u e is =
    let f = formed_there world id i (shaped id u) e in
    let c : Contains (row_at i) (attribute 0 Always Must shape.Identifier leaf.Text) = in_row entity.Subject i (attribute 0 Always Must shape.Identifier leaf.Text) (is_element i is) (0, omega arith, refl) in
    at_more i 0 (λ v. ShapeFlaw world leaf.Text shape.Identifier v None) SpellsGuid (λ v h. guid_from v (words_of v) refl h)
    (must_at world f.mapped i 0 Always shape.Identifier leaf.Text refl (attribute_flaw world f.mapped i (attribute 0 Always Must shape.Identifier leaf.Text) f.formed c))

-- it as a text
pub guid_there : (i : Instance) → At i 0 SpellsGuid → (guid : List ℕ) × (guid_of i ≡ Some guid) × IsGuid guid
guid_there i h = let e = h.there in let s = h.holds.spelled in (text_of_spelling h.holds.words, rw (e, s) refl, h.holds.guid)

-- the placement of an element
pub placement_used : (world : List Instance) (id : ℕ) (i : Instance) → Shaped world → Used world id → look world id ≡ Some i → is_subject (entity_at i) ≡ true → has_body world i ≡ true → At i 5 (OrAway (NamesUsed world entity.Placement))
unfolding row_of
placement_used world id i shaped u e is body =
    used_absent world id i 5 WithBody entity.Placement shaped u e (λ m. body) (in_row entity.Subject i (attribute 5 WithBody OrAbsent shape.One (leaf.Reference (targets.One entity.Placement))) (is_element i is) (2, omega arith, refl))
