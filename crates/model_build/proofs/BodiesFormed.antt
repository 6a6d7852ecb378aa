-- The bodies of elements, where all that is used has the form of its row.
use Rattle.std.proofs.Common.{◌≡◌, ℕ, ◌<◌, inl, inr, Bool, true, List, [], ◌∷◌, length, filter, filter_map, Option, Some, None, option_and_then, Contains, refl, sym, ap, ◌∙◌, subst, arith}
use Rattle.std.proofs.lemmas.Bool.{cases_Bool}
use Rattle.std.specs.List.{slice_get, list_any, All, cons_option}
use Rattle.std.proofs.lemmas.List.Elements.{All-nil, All-cons, All-head, All-tail}
use Rattle.p21_values.specs.declared.value.Value21.{Value21}
use Rattle.p21_values.specs.declared.value.Instance.{Instance}
use Rattle.ifc_instances.specs.declared.entity.Entity.TheVariants as entity
use Rattle.ifc_schema.specs.declared.form.Targets.TheVariants as targets
use Rattle.ifc_schema.specs.declared.form.Leaf.TheVariants as leaf
use Rattle.ifc_schema.specs.declared.form.Count.TheVariants.{AtLeast}
use Rattle.ifc_schema.specs.declared.form.Shape.TheVariants as shape
use Rattle.ifc_schema.specs.declared.form.Need.TheVariants.{Must, OrAbsent}
use Rattle.ifc_schema.specs.declared.form.When.TheVariants.{Always}
use Rattle.ifc_schema.specs.AttributeTable.{row_of, attribute, row_at}
use Rattle.p21_values.specs.Values.{reference_of, items_of}
use Rattle.p21_values.specs.InstanceLookup.{look}
use Rattle.ifc_instances.specs.EntityLookup.{entity_at, is_a, some_passes}
use Rattle.ifc_schema.specs.BodyRepresentations.{target_passes, has_body, is_body, is_body_shape, is_body_representation, lists_body}
use Rattle.ifc_schema.specs.Used.{Used}
use Rattle.ifc_schema.specs.Surveys.{is_subject}
use Rattle.p21_values.specs.Attributes.{target_at, led_to}
use Rattle.ifc_elements.specs.Items.{bodies, listed_by}
use Rattle.model_build.proofs.OneKeyword.{is_shape, is_element, is_a_held, both}
use Rattle.model_build.proofs.AttributesFormed.{in_row}
use Rattle.model_build.proofs.UsedFormed.{one_used, listed_there}
use Rattle.model_build.proofs.SetsFormed.{list_used}

-- a value refers to an instance that passes the test
pub record Passed (world : List Instance) (test : Instance → Bool) (v : Value21) : Type 0 where
  pub to : ℕ
  pub refers : reference_of v ≡ Some to
  pub target : Instance
  pub found : look world to ≡ Some target
  pub passes : test target ≡ true

pub passed : (world : List Instance) (test : Instance → Bool) (v : Value21) → target_passes world test v ≡ true → Passed world test v
passed world test v h = from world test v (reference_of v) refl h
  where
    led : (world : List Instance) (test : Instance → Bool) (v : Value21) (to : ℕ) (o : Option Instance) → reference_of v ≡ Some to → look world to ≡ o → some_passes test o ≡ true → Passed world test v
    led world test v to None e f h = cc
    led world test v to (Some i) e f h = record { to = to; refers = e; target = i; found = f; passes = h }

    from : (world : List Instance) (test : Instance → Bool) (v : Value21) (o : Option ℕ) → reference_of v ≡ o → some_passes test (option_and_then (look world) o) ≡ true → Passed world test v
    from world test v None e h = cc
    from world test v (Some to) e h = led world test v to (look world to) e refl h

some_at : (test : Value21 → Bool) (o : Option Value21) → some_passes test o ≡ true → (v : Value21) × (o ≡ Some v) × (test v ≡ true)
some_at test None h = cc
some_at test (Some v) h = (v, refl, h)

some_list : (test : List Value21 → Bool) (o : Option Value21) → some_passes test (option_and_then items_of o) ≡ true → (v : Value21) × (vs : List Value21) × (o ≡ Some v) × (items_of v ≡ Some vs) × (test vs ≡ true)
some_list test None h = cc
some_list test (Some v) h = from test v (items_of v) refl h
  where
    from : (test : List Value21 → Bool) (v : Value21) (o : Option (List Value21)) → items_of v ≡ o → some_passes test o ≡ true → (w : Value21) × (vs : List Value21) × (Some v ≡ Some w) × (items_of w ≡ Some vs) × (test vs ≡ true)
    from test v None e h = cc
    from test v (Some vs) e h = (v, vs, refl, e, h)

-- the shape of an element that has a body
pub record BodyShape (world : List Instance) (i : Instance) : Type 0 where
  pub value : Value21
  pub there : slice_get i.values 6 ≡ Some value
  pub to : ℕ
  pub refers : reference_of value ≡ Some to
  pub shape : Instance
  pub found : look world to ≡ Some shape
  pub is : is_a entity.ProductShape shape ≡ true
  pub list : Value21
  pub values : List Value21
  pub list_there : slice_get shape.values 2 ≡ Some list
  pub items : items_of list ≡ Some values
  pub lists : lists_body world values ≡ true

pub body_shape : (world : List Instance) (i : Instance) → has_body world i ≡ true → BodyShape world i
unfolding has_body is_body_shape
body_shape world i h =
    let v = some_at (target_passes world (is_body_shape world)) (slice_get i.values 6) h in
    let p = passed world (is_body_shape world) v.0 v.2 in
    let t = both (is_a entity.ProductShape p.target) (some_passes (lists_body world) (option_and_then items_of (slice_get p.target.values 2))) p.passes in
    let l = some_list (lists_body world) (slice_get p.target.values 2) t.1 in
    record { value = v.0; there = v.1; to = p.to; refers = p.refers; shape = p.target; found = p.found; is = t.0; list = l.0; values = l.1; list_there = l.2; items = l.3; lists = l.4 }

-- the bodies of an element are among what its shape lists
pub bodies_are : (world : List Instance) (i : Instance) (s : BodyShape world i) → bodies world i ≡ filter is_body_representation (led_to world s.values)
bodies_are world i s =
    let t : target_at world i 6 ≡ Some s.shape = ap (λ o. option_and_then (look world) (option_and_then reference_of o)) s.there ∙ ap (option_and_then (look world)) s.refers ∙ s.found in
    ap (λ o. filter is_body_representation (led_to world (listed_by o 2))) t ∙ ap (λ vs. filter is_body_representation (led_to world vs)) (listed_there s.shape 2 s.list s.values s.list_there s.items)

-- What references lead to.

-- of what a value leads to that passes the test, P holds
abbrev pub Leads : List Instance → (Instance → Bool) → (Instance → Type 0) → Value21 → Type 0
Leads world test P v = (to : ℕ) (r : Instance) → reference_of v ≡ Some to → look world to ≡ Some r → test r ≡ true → P r

led_look : (world : List Instance) (test : Instance → Bool) (P : Instance → Type 0) (rest : List Instance) (o : Option Instance) → ((r : Instance) → o ≡ Some r → test r ≡ true → P r)
    → All P (filter test rest) → All P (filter test (cons_option o rest))
led_look world test P rest None f h = h
led_look world test P rest (Some r) f h = elim (cases_Bool (test r)) [
  | inl t ↦ rw t (All-cons P r (filter test rest) (f r refl t) h)
  | inr n ↦ rw n h
]

led_step : (world : List Instance) (test : Instance → Bool) (P : Instance → Type 0) (ids : List ℕ) (o : Option ℕ) → ((to : ℕ) (r : Instance) → o ≡ Some to → look world to ≡ Some r → test r ≡ true → P r)
    → All P (filter test (filter_map (look world) ids)) → All P (filter test (filter_map (look world) (cons_option o ids)))
led_step world test P ids None f h = h
led_step world test P ids (Some to) f h = led_look world test P (filter_map (look world) ids) (look world to) (λ r e t. f to r refl e t) h

pub led_all : (world : List Instance) (test : Instance → Bool) (P : Instance → Type 0) (vs : List Value21) → All (Leads world test P) vs → All P (filter test (led_to world vs))
led_all world test P [] h = All-nil P
led_all world test P (v ∷ vs) h =
    led_step world test P (filter_map reference_of vs) (reference_of v) (All-head (Leads world test P) v vs h) (led_all world test P vs (All-tail (Leads world test P) v vs h))

-- the same without a test
abbrev always : Instance → Bool
always r = true

filter_all : (rs : List Instance) → filter always rs ≡ rs
filter_all [] = refl
filter_all (r ∷ rs) = ap (λ xs. r ∷ xs) (filter_all rs)

pub led_each : (world : List Instance) (P : Instance → Type 0) (vs : List Value21) → All (λ v. (to : ℕ) (r : Instance) → reference_of v ≡ Some to → look world to ≡ Some r → P r) vs → All P (led_to world vs)
led_each world P vs h = subst (All P) (filter_all (led_to world vs)) (led_all world always P vs (λ k d lt. λ to r e f t. h k d lt to r e f))

-- what passes is led to
filter_some : (test : Instance → Bool) (r : Instance) (rest : List Instance) → test r ≡ true → 0 < length (filter test (r ∷ rest))
filter_some test r rest t = rw t (omega arith)

filter_on : (test : Instance → Bool) (o : Option Instance) (rest : List Instance) → 0 < length (filter test rest) → 0 < length (filter test (cons_option o rest))
filter_on test None rest h = h
filter_on test (Some r) rest h = elim (cases_Bool (test r)) [ inl t ↦ rw t (omega arith) | inr n ↦ rw n h ]

led_on : (world : List Instance) (test : Instance → Bool) (o : Option ℕ) (ids : List ℕ) → 0 < length (filter test (filter_map (look world) ids)) → 0 < length (filter test (filter_map (look world) (cons_option o ids)))
led_on world test None ids h = h
led_on world test (Some to) ids h = filter_on test (look world to) (filter_map (look world) ids) h

pub led_some : (world : List Instance) (test : Instance → Bool) (vs : List Value21) → list_any (target_passes world test) vs ≡ true → 0 < length (filter test (led_to world vs))
led_some world test [] h = cc
led_some world test (v ∷ vs) h = elim (cases_Bool (target_passes world test v)) [
  | inl t ↦ (
      let p = passed world test v t in
      let e = p.refers in
      let f = p.found in
      rw (e, f) (filter_some test p.target (filter_map (look world) (filter_map reference_of vs)) p.passes))
  | inr n ↦ led_on world test (reference_of v) (filter_map reference_of vs) (led_some world test vs (rw n at h))
]

-- Bodies.

-- an instance that is used, and it holds of it
pub record UsedAs (world : List Instance) (P : Instance → Type 0) (r : Instance) : Type 0 where
  pub id : ℕ
  pub used : Used world id
  pub found : look world id ≡ Some r
  pub holds : P r

abbrev pub IsBody : Instance → Type 0
IsBody r = is_body_representation r ≡ true

-- the shape of an element that is used
pub shape_used : (world : List Instance) (id : ℕ) (i : Instance) → Used world id → look world id ≡ Some i → is_subject (entity_at i) ≡ true → (s : BodyShape world i) → Used world s.to
unfolding row_of
shape_used world id i u e is s =
    one_used world id i 6 Always OrAbsent entity.ProductShape s.value u e
    (in_row entity.Subject i (attribute 6 Always OrAbsent shape.One (leaf.Reference (targets.One entity.ProductShape))) (is_element i is) (3, omega arith, refl)) refl s.there
    (record { to = s.to; refers = s.refers; target = s.shape; found = s.found; is = s.is })

-- Its bodies are used.
pub bodies_used : (world : List Instance) (id : ℕ) (i : Instance) → Used world id → look world id ≡ Some i → is_subject (entity_at i) ≡ true → has_body world i ≡ true → All (UsedAs world IsBody) (bodies world i)
unfolding row_of
bodies_used world id i u e is body =
    let s = body_shape world i body in
    let us = shape_used world id i u e is s in
    let a = attribute 2 Always Must (shape.List (AtLeast 0)) (leaf.AnyReference (targets.One entity.Representation)) in
    let c : Contains (row_at s.shape) a = in_row entity.ProductShape s.shape a (is_shape s.shape s.is) (0, omega arith, refl) in
    subst (All (UsedAs world IsBody)) (sym (bodies_are world i s))
    (led_all world is_body_representation (UsedAs world IsBody) s.values
    (λ k d lt. λ to r f l t. (
    let m = both (is_a entity.Representation r) (is_body r) t in
    record {
      id = to;
      used = list_used world s.to s.shape a (AtLeast 0) s.list s.values to k d us s.found c refl refl s.list_there s.items lt f (record { target = r; found = l; meant = is_a_held entity.Representation r m.0 });
      found = l;
      holds = t;
    })))

-- there is one
pub bodies_some : (world : List Instance) (i : Instance) → has_body world i ≡ true → 0 < length (bodies world i)
bodies_some world i body = let s = body_shape world i body in subst (λ rs. 0 < length rs) (sym (bodies_are world i s)) (led_some world is_body_representation s.values s.lists)
