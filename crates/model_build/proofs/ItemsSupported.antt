-- The items of elements and the sets of mapped items, where all that is used has the form of its row, and nothing is unsupported.
use Rattle.std.proofs.Common.{◌≡◌, ℕ, zero, suc, ◌<◌, ◌≤◌, ◌⊎◌, inl, inr, true, false, List, [], ◌∷◌, length, get_or, flat_map, filter_map, sum_by, Option, Some, None, option_and_then, Contains, refl, sym, ap, ◌∙◌, subst, arith, length-append}
use Rattle.std.proofs.lemmas.Bool.{cases_Bool}
use Rattle.std.specs.List.{All, cons_option}
use Rattle.std.proofs.lemmas.List.Elements.{All-nil, All-head, All-tail, All-append}
use Rattle.std.proofs.lemmas.List.Sums.{sum_by-cons}
use Rattle.bim_model.specs.declared.upload.Mode.{Mode}
use Rattle.p21_values.specs.declared.value.Value21.{Value21}
use Rattle.p21_values.specs.declared.value.Instance.{Instance}
use Rattle.ifc_instances.specs.declared.entity.Entity.TheVariants as entity
use Rattle.ifc_schema.specs.declared.form.Targets.TheVariants as targets
use Rattle.ifc_schema.specs.declared.form.Count.TheVariants.{AtLeast}
use Rattle.p21_values.specs.Values.{reference_of}
use Rattle.p21_values.specs.InstanceLookup.{look}
use Rattle.ifc_instances.specs.EntityLookup.{entity_at, is_a}
use Rattle.ifc_schema.specs.BodyRepresentations.{has_body, is_body, is_body_representation}
use Rattle.ifc_schema.specs.Used.{Used, mapped, IsMapped}
use Rattle.ifc_schema.specs.Surveys.{IsModelElement, is_subject}
use Rattle.ifc_schema.proofs.Listing.{element_used}
use Rattle.ifc_units.specs.declared.scale.Scale.{Scale}
use Rattle.p21_values.specs.Attributes.{listed, reference_at, target_at, led_to}
use Rattle.faceset.specs.FaceSets.{is_set, is_polygonal, is_face, faces_of, outline, inner_loops, all_corners, spelled_triangles, face_count, triangle_count, HasThree, IsOutlined}
use Rattle.ifc_elements.specs.Finding.{Finds}
use Rattle.model_build.specs.Stages.{IsUsed}
use Rattle.ifc_elements.specs.Items.{bodies, spelled_items, items_of, body_items, is_mapped_item, is_item, map_of, listed_by, spelled_sets, mapped_sets, item_count}
use Rattle.model_build.specs.Unsupported.{IsUnsupported}
use Rattle.model_build.specs.Faces.{HasManyCorners}
use Rattle.model_build.proofs.OneKeyword.{is_a_held, both}
use Rattle.model_build.proofs.AttributesFormed.{Shaped, Refers, SpellsWhole}
use Rattle.model_build.proofs.UsedFormed.{ThreeOf, listed_there, listed_some, triangles_whole, three_values}
use Rattle.model_build.proofs.BodiesFormed.{UsedAs, IsBody, led_each, bodies_used, bodies_some}
use Rattle.model_build.proofs.SetsFormed.{either, is_map, item_meant, face_meant, stands_in, list_used, NamesUsedOne, faces_used, faces_some, corners_some, voided_some, rings_some, map_used, target_there, target_used, representation_used, items_attribute, items_row, HasItems, items_there}

-- nothing is unsupported
abbrev pub NoneShown : List Instance → Scale → Mode → Type 0
NoneShown world scale mode = (id : ℕ) → IsUnsupported world scale mode id → ⊥

-- no face that is used has more than a thousand corners
abbrev pub Few : List Instance → Type 0
Few world = (id : ℕ) → Used world id → Finds world id HasManyCorners → ⊥

abbrev pub IsItem : Instance → Type 0
IsItem i = is_item i ≡ true

abbrev pub IsSet : Instance → Type 0
IsSet s = is_set s ≡ true

abbrev pub IsMappedItem : Instance → Type 0
IsMappedItem i = is_mapped_item i ≡ true

-- a value refers to an instance that is used, and it holds of it
pub record Names (world : List Instance) (P : Instance → Type 0) (v : Value21) : Type 0 where
  pub to : ℕ
  pub refers : reference_of v ≡ Some to
  pub target : Instance
  pub found : look world to ≡ Some target
  pub used : Used world to
  pub holds : P target

-- What references lead to.

abbrev LeadsToUsed : List Instance → (Instance → Type 0) → Value21 → Type 0
LeadsToUsed world P v = (to : ℕ) (s : Instance) → reference_of v ≡ Some to → look world to ≡ Some s → UsedAs world P s

name_leads : (world : List Instance) (P : Instance → Type 0) (v : Value21) → Names world P v → LeadsToUsed world P v
name_leads world P v h to s e f =
    let same : h.to ≡ to = (let a = h.refers in cc) in
    let there : h.target ≡ s = (let a = h.refers in let b = h.found in cc) in
    record { id = to; used = subst (Used world) same h.used; found = f; holds = subst P there h.holds }

pub names_led : (world : List Instance) (P : Instance → Type 0) (vs : List Value21) → All (Names world P) vs → All (UsedAs world P) (led_to world vs)
names_led world P vs h = led_each world (UsedAs world P) vs (λ k d lt. name_leads world P (get_or vs k d) (h k d lt))

-- each leads to something, so there are as many
names_many : (world : List Instance) (P : Instance → Type 0) (vs : List Value21) → All (Names world P) vs → length (led_to world vs) ≡ length vs
names_many world P [] h = refl
names_many world P (v ∷ vs) h =
    let r = All-head (Names world P) v vs h in
    let e = r.refers in
    let f = r.found in
    rw (e, f) (ap (λ n. suc n) (names_many world P vs (All-tail (Names world P) v vs h)))

pub sum_some : (f : Instance → ℕ) (P : Instance → Type 0) → ((s : Instance) → P s → 0 < f s) → (ss : List Instance) → All P ss → 0 < length ss → 0 < sum_by f ss
sum_some f P g [] h some = absurd (omega (arith, some))
sum_some f P g (s ∷ ss) h some = let a = g s (All-head P s ss h) in rw (sum_by-cons f s ss) (omega (arith, a))

flat_all : (P Q : Instance → Type 0) (f : Instance → List Instance) → ((r : Instance) → Q r → All P (f r)) → (rs : List Instance) → All Q rs → All P (flat_map f rs)
flat_all P Q f g [] h = All-nil P
flat_all P Q f g (r ∷ rs) h = All-append P (f r) (flat_map f rs) (g r (All-head Q r rs h)) (flat_all P Q f g rs (All-tail Q r rs h))

flat_some : (f : Instance → List Instance) (Q : Instance → Type 0) → ((r : Instance) → Q r → 0 < length (f r)) → (rs : List Instance) → All Q rs → 0 < length rs → 0 < length (flat_map f rs)
flat_some f Q g [] h some = absurd (omega (arith, some))
flat_some f Q g (r ∷ rs) h some = let a = g r (All-head Q r rs h) in let b = length-append (f r) (flat_map f rs) in omega (arith, a, b)

-- what a value refers to is among what the values refer to
pub referred_there : (vs : List Value21) (k : ℕ) (d : Value21) (to : ℕ) → k < length vs → reference_of (get_or vs k d) ≡ Some to → Contains (filter_map reference_of vs) to
referred_there [] k d to lt e = absurd (omega (arith, lt))
referred_there (v ∷ vs) zero d to lt e = rw e (0, omega arith, refl)
referred_there (v ∷ vs) (suc k) d to lt e = later (reference_of v) (filter_map reference_of vs) to (referred_there vs k d to (omega (arith, lt)) e)
  where
    later : (o : Option ℕ) (ids : List ℕ) (to : ℕ) → Contains ids to → Contains (cons_option o ids) to
    later None ids to c = c
    later (Some x) ids to c = (suc c.0, (let m = c.1 in omega (arith, m)), c.2)

-- Items of representations.

-- a representation whose items are read
pub record Opened (world : List Instance) (r : Instance) : Type 0 where
  pub id : ℕ
  pub used : Used world id
  pub found : look world id ≡ Some r
  pub kind : is_a entity.Representation r ≡ true
  pub has : (is_body_representation r ≡ true) ⊎ IsMapped world id

item_is : (world : List Instance) (scale : Scale) (mode : Mode) (r : Instance) (o : Opened world r) (to : ℕ) (target : Instance) → NoneShown world scale mode → Contains (filter_map reference_of (spelled_items r)) to → look world to ≡ Some target → IsItem target
item_is world scale mode r o to target none c found = elim (cases_Bool (is_item target)) [
  | inl t ↦ t
  | inr f ↦ absurd (none to (
    o.id,
    o.used,
    inl (inl (
      elim o.has [ inl b ↦ inl (record { instance = r; found = o.found; holds = b }) | inr m ↦ inr m ],
      record { instance = r; found = o.found; holds = c },
      record { instance = target; found = found; holds = f },
    )),
  ))
]

-- an item of a representation that is mapped isn't mapped itself
set_is : (world : List Instance) (scale : Scale) (mode : Mode) (r : Instance) (o : Opened world r) (to : ℕ) (target : Instance) → NoneShown world scale mode → IsMapped world o.id → Contains (filter_map reference_of (spelled_items r)) to → look world to ≡ Some target
    → IsSet target
set_is world scale mode r o to target none m c found = elim (either (is_set target) (is_mapped_item target) (item_is world scale mode r o to target none c found)) [
  | inl t ↦ t
  | inr f ↦ absurd (none to (
    o.id,
    o.used,
    inl (inr (m, record { instance = r; found = o.found; holds = c }, record { instance = target; found = found; holds = f })),
  ))
]

-- the items of a body are used
pub body_names : (world : List Instance) (scale : Scale) (mode : Mode) (r : Instance) → Shaped world → NoneShown world scale mode → UsedAs world IsBody r → All (Names world IsItem) (spelled_items r)
body_names world scale mode r shaped none b =
    let m = both (is_a entity.Representation r) (is_body r) b.holds in
    let o : Opened world r = record { id = b.id; used = b.used; found = b.found; kind = m.0; has = inl b.holds } in
    let t = items_there world b.id r shaped b.used b.found m.0 (inl m.1) in
    let same : spelled_items r ≡ t.holds.values = listed_there r 3 t.value t.holds.values t.there t.holds.items in
    subst (All (Names world IsItem)) (sym same)
    (λ k d lt. (
    let n = t.holds.each k d lt in
    let c : Contains (filter_map reference_of (spelled_items r)) n.to = subst (λ vs. Contains (filter_map reference_of vs) n.to) (sym same) (referred_there t.holds.values k d n.to lt n.refers) in
    let is = item_is world scale mode r o n.to n.target none c n.found in
    record {
      to = n.to;
      refers = n.refers;
      target = n.target;
      found = n.found;
      used = list_used world b.id r items_attribute (AtLeast 1) t.value t.holds.values n.to k d b.used b.found (items_row r m.0) refl m.1 t.there t.holds.items lt n.refers (record { target = n.target; found = n.found; meant = item_meant n.target is });
      holds = is;
    }))

-- so are those of a representation that is mapped, which are sets
pub mapped_names : (world : List Instance) (scale : Scale) (mode : Mode) (id : ℕ) (r : Instance) → Shaped world → NoneShown world scale mode → Used world id → look world id ≡ Some r → is_a entity.Representation r ≡ true → IsMapped world id
    → All (Names world IsSet) (spelled_items r)
mapped_names world scale mode id r shaped none u found kind m =
    let o : Opened world r = record { id = id; used = u; found = found; kind = kind; has = inr m } in
    let t = items_there world id r shaped u found kind (inr m) in
    let same : spelled_items r ≡ t.holds.values = listed_there r 3 t.value t.holds.values t.there t.holds.items in
    subst (All (Names world IsSet)) (sym same)
    (λ k d lt. (
    let n = t.holds.each k d lt in
    let c : Contains (filter_map reference_of (spelled_items r)) n.to = subst (λ vs. Contains (filter_map reference_of vs) n.to) (sym same) (referred_there t.holds.values k d n.to lt n.refers) in
    let is = item_is world scale mode r o n.to n.target none c n.found in
    record {
      to = n.to;
      refers = n.refers;
      target = n.target;
      found = n.found;
      used = mapped m.by id n.to m.map r m.used m.found m.maps found (record {
        attribute = items_attribute;
        listed = items_row r kind;
        names = record {
          applied = refl;
          value = t.value;
          there = t.there;
          stands = stands_in (AtLeast 1) t.value t.holds.values n.to k d t.holds.items lt n.refers;
          leads = record { target = n.target; found = n.found; meant = item_meant n.target is };
        };
      });
      holds = set_is world scale mode r o n.to n.target none m c n.found;
    }))

some_spelled : (world : List Instance) (id : ℕ) (r : Instance) → Shaped world → Used world id → look world id ≡ Some r → is_a entity.Representation r ≡ true → HasItems world id r → 0 < length (spelled_items r)
some_spelled world id r shaped u found kind has = listed_some r 3 (Refers world) (items_there world id r shaped u found kind has)

-- Mapped items.

-- what a mapped item maps
pub record MapsTo (world : List Instance) (item : Instance) : Type 0 where
  pub id : ℕ
  pub representation : Instance
  pub used : Used world id
  pub found : look world id ≡ Some representation
  pub kind : is_a entity.Representation representation ≡ true
  pub is_mapped : IsMapped world id
  pub spelled : spelled_sets world item ≡ spelled_items representation

pub maps_there : (world : List Instance) (item : Instance) → Shaped world → UsedAs world IsMappedItem item → MapsTo world item
maps_there world item shaped u =
    let a = map_used world u.id item shaped u.used u.found u.holds in
    let m = a.holds.is.1 in
    let b = representation_used world a.holds.to m.instance shaped a.holds.is.0 m.found m.holds in
    let r = b.holds.is.1 in
    let there : map_of world item ≡ Some m.instance = ap (λ o. option_and_then (look world) (option_and_then reference_of o)) a.there ∙ ap (option_and_then (look world)) a.holds.refers ∙ m.found in
    let leads : target_at world m.instance 1 ≡ Some r.instance = ap (λ o. option_and_then (look world) (option_and_then reference_of o)) b.there ∙ ap (option_and_then (look world)) b.holds.refers ∙ r.found in
    record {
      id = b.holds.to;
      representation = r.instance;
      used = b.holds.is.0;
      found = r.found;
      kind = r.holds;
      is_mapped = record {
        by = a.holds.to;
        map = m.instance;
        used = a.holds.is.0;
        found = m.found;
        maps = record {
          map = is_map m.instance m.holds;
          value = b.value;
          there = b.there;
          refers = b.holds.refers;
          leads = record { target = r.instance; found = r.found; meant = is_a_held entity.Representation r.instance r.holds };
        };
      };
      spelled = ap (λ o. listed_by (option_and_then (λ m. target_at world m 1) o) 3) there ∙ ap (λ o. listed_by o 3) leads;
    }

-- the sets that it maps are used
pub sets_named : (world : List Instance) (scale : Scale) (mode : Mode) (item : Instance) → Shaped world → NoneShown world scale mode → UsedAs world IsMappedItem item → All (Names world IsSet) (spelled_sets world item)
sets_named world scale mode item shaped none u =
    let m = maps_there world item shaped u in
    subst (All (Names world IsSet)) (sym m.spelled) (mapped_names world scale mode m.id m.representation shaped none m.used m.found m.kind m.is_mapped)

sets_some : (world : List Instance) (item : Instance) → Shaped world → UsedAs world IsMappedItem item → 0 < length (spelled_sets world item)
sets_some world item shaped u =
    let m = maps_there world item shaped u in
    subst (λ vs. 0 < length vs) (sym m.spelled) (some_spelled world m.id m.representation shaped m.used m.found m.kind (inr m.is_mapped))

-- its target is an operator that is used
pub operator_there : (world : List Instance) (scale : Scale) (mode : Mode) (item : Instance) → Shaped world → NoneShown world scale mode → UsedAs world IsMappedItem item
    → (to : ℕ) × (reference_at item 1 ≡ Some to) × IsUsed entity.Operator world to
operator_there world scale mode item shaped none u =
    let a = target_there world u.id item shaped u.used u.found u.holds in
    let n = a.holds in
    let refers : reference_at item 1 ≡ Some n.to = ap (option_and_then reference_of) a.there ∙ n.refers in
    elim (cases_Bool (is_a entity.Operator n.target)) [
      | inl t ↦ (
        n.to,
        refers,
        (
          target_used world u.id item a.value n.to u.used u.found u.holds a.there n.refers (record { target = n.target; found = n.found; meant = is_a_held entity.Operator n.target t }),
          record { instance = n.target; found = n.found; holds = t },
        ),
      )
      | inr f ↦ absurd (none n.to (
        u.id,
        u.used,
        inr (inl (record { instance = item; found = u.found; holds = (u.holds, refers) }, record { instance = n.target; found = n.found; holds = inl f })),
      ))
    ]

-- Sets.

-- an outline has three corners or more
outline_some : (world : List Instance) → Shaped world → (id : ℕ) (face : Instance) → Used world id → look world id ≡ Some face → is_face face ≡ true → 2 < length (outline face)
outline_some world shaped id face u found is = elim (either (is_a entity.Face face) (is_a entity.FaceWithVoids face) is) [
  | inl plain ↦ (let c = corners_some world id face shaped u found plain in omega (arith, c))
  | inr voided ↦ (let c = voided_some world id face shaped u found voided in omega (arith, c))
]

-- so has each inner loop
loops_some : (world : List Instance) → Shaped world → (id : ℕ) (face : Instance) → Used world id → look world id ≡ Some face → All (λ (loop : List Value21). 2 < length loop) (inner_loops face)
loops_some world shaped id face u found = elim (cases_Bool (is_a entity.FaceWithVoids face)) [
  | inl voided ↦ rw voided (rings_some world id face shaped u found voided)
  | inr plain ↦ rw plain (λ k d lt. absurd (omega (arith, lt)))
]

-- a face has three corners or more in each loop, and at most a thousand in all
pub face_outlined : (world : List Instance) → Shaped world → Few world → (id : ℕ) (face : Instance) → Used world id → look world id ≡ Some face → is_face face ≡ true → IsOutlined face
face_outlined world shaped few id face u found is = record {
  outer = outline_some world shaped id face u found is;
  inner = loops_some world shaped id face u found;
  few = elim (near_or_far (length (all_corners face)) 1000) [
    | inl near ↦ near
    | inr far ↦ absurd (few id u (record { instance = face; found = found; holds = (is, far) }))
  ];
}
  where
    near_or_far : (a b : ℕ) → (a ≤ b) ⊎ (b < a)
    near_or_far a b = grind arith

face_names : (world : List Instance) (v : Value21) → NamesUsedOne world targets.Faces v → Names world (λ f. is_face f ≡ true) v
face_names world v n = record { to = n.one.to; refers = n.one.refers; target = n.one.target; found = n.one.found; used = n.used; holds = face_meant n.one.target n.one.meant }

faces_named : (world : List Instance) (s : Instance) → Shaped world → UsedAs world IsSet s → is_polygonal s ≡ true → All (Names world (λ f. is_face f ≡ true)) (listed s 2)
faces_named world s shaped u is = let h = faces_used world u.id s shaped u.used u.found is in λ k d lt. face_names world (get_or (listed s 2) k d) (h k d lt)

all_more : (P Q : Instance → Type 0) → ((x : Instance) → P x → Q x) → (xs : List Instance) → All P xs → All Q xs
all_more P Q f xs h = λ k d lt. f (get_or xs k d) (h k d lt)

-- so have the faces of a polygonal set that is used
pub faces_outlined : (world : List Instance) (s : Instance) → Shaped world → Few world → UsedAs world IsSet s → is_polygonal s ≡ true → All IsOutlined (faces_of world s)
unfolding faces_of
faces_outlined world s shaped few u is =
    all_more (UsedAs world (λ f. is_face f ≡ true)) IsOutlined (λ f n. face_outlined world shaped few n.id f n.used n.found n.holds) (faces_of world s)
    (names_led world (λ f. is_face f ≡ true) (listed s 2) (faces_named world s shaped u is))

faces_many : (world : List Instance) (s : Instance) → Shaped world → UsedAs world IsSet s → is_polygonal s ≡ true → 0 < length (faces_of world s)
unfolding faces_of
faces_many world s shaped u is =
    let e = names_many world (λ f. is_face f ≡ true) (listed s 2) (faces_named world s shaped u is) in
    let m = faces_some world u.id s shaped u.used u.found is in
    omega (arith, e, m)

triangulated : (world : List Instance) (s : Instance) → UsedAs world IsSet s → is_polygonal s ≡ false → is_a entity.TriangulatedFaceSet s ≡ true
triangulated world s u n = elim (either (is_a entity.TriangulatedFaceSet s) (is_polygonal s) u.holds) [ inl t ↦ t | inr p ↦ absurd (let q = sym n ∙ p in cc) ]

-- the rows of a triangulated one have three values each
pub rows_three : (world : List Instance) (s : Instance) → Shaped world → UsedAs world IsSet s → is_polygonal s ≡ false → All HasThree (spelled_triangles s)
rows_three world s shaped u n = three_values world u.id s shaped u.used u.found (triangulated world s u n)

-- a set has a triangle
pub set_some : (world : List Instance) (s : Instance) → Shaped world → Few world → UsedAs world IsSet s → 0 < triangle_count world s
set_some world s shaped few u = elim (cases_Bool (is_polygonal s)) [
  | inl t ↦ rw t (sum_some face_count IsOutlined (λ f o. (let l = o.outer in omega (arith, l))) (faces_of world s) (faces_outlined world s shaped few u t) (faces_many world s shaped u t))
  | inr n ↦ rw n (listed_some s 3 (ThreeOf SpellsWhole) (triangles_whole world u.id s shaped u.used u.found (triangulated world s u n)))
]

-- so has an item
pub item_some : (world : List Instance) (scale : Scale) (mode : Mode) (i : Instance) → Shaped world → NoneShown world scale mode → Few world → UsedAs world IsItem i → 0 < item_count world i
item_some world scale mode i shaped none few u = elim (cases_Bool (is_mapped_item i)) [
  | inl t ↦ (
      let v : UsedAs world IsMappedItem i = record { id = u.id; used = u.used; found = u.found; holds = t } in
      let names = sets_named world scale mode i shaped none v in
      let many = names_many world IsSet (spelled_sets world i) names in
      let some = sets_some world i shaped v in
      rw t (sum_some (triangle_count world) (UsedAs world IsSet) (λ s w. set_some world s shaped few w) (mapped_sets world i) (names_led world IsSet (spelled_sets world i) names) (omega (arith, many, some))))
  | inr n ↦ rw n (set_some world i shaped few (record { id = u.id; used = u.used; found = u.found; holds = left n u.holds }))
]
  where
    left : is_mapped_item i ≡ false → is_item i ≡ true → is_set i ≡ true
    left n h = elim (either (is_set i) (is_mapped_item i) h) [ inl t ↦ t | inr m ↦ absurd (let q = sym n ∙ m in cc) ]

-- Of an element that has a body.

pub element_is : (world : List Instance) (id : ℕ) → (h : IsModelElement world id) → (is_subject (entity_at h.instance) ≡ true) × (has_body world h.instance ≡ true)
element_is world id h = both (is_subject (entity_at h.instance)) (has_body world h.instance) h.element

pub element_bodies : (world : List Instance) (id : ℕ) (h : IsModelElement world id) → All (UsedAs world IsBody) (bodies world h.instance)
element_bodies world id h = let e = element_is world id h in bodies_used world id h.instance (element_used world id h) h.found e.0 e.1

body_some : (world : List Instance) (scale : Scale) (mode : Mode) (r : Instance) → Shaped world → NoneShown world scale mode → UsedAs world IsBody r → 0 < length (items_of world r)
body_some world scale mode r shaped none b =
    let m = both (is_a entity.Representation r) (is_body r) b.holds in
    let e = names_many world IsItem (spelled_items r) (body_names world scale mode r shaped none b) in
    let some = some_spelled world b.id r shaped b.used b.found m.0 (inl m.1) in
    omega (arith, e, some)

-- it has a triangle
pub element_some : (world : List Instance) (scale : Scale) (mode : Mode) (id : ℕ) → Shaped world → NoneShown world scale mode → Few world → (h : IsModelElement world id)
    → 0 < sum_by (item_count world) (body_items world h.instance)
element_some world scale mode id shaped none few h =
    let e = element_is world id h in
    let bs = element_bodies world id h in
    let rs = bodies world h.instance in
    sum_some (item_count world) (UsedAs world IsItem) (λ i u. item_some world scale mode i shaped none few u) (body_items world h.instance)
    (flat_all (UsedAs world IsItem) (UsedAs world IsBody) (items_of world) (λ r b. names_led world IsItem (spelled_items r) (body_names world scale mode r shaped none b)) rs bs)
    (flat_some (items_of world) (UsedAs world IsBody) (λ r b. body_some world scale mode r shaped none b) rs bs (bodies_some world h.instance e.1))
