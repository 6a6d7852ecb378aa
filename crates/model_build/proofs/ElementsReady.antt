-- What sets and elements have once the stages before their surfaces have found no fault.
use Rattle.std.proofs.Common.{◌≡◌, ℕ, zero, suc, ◌<◌, inl, inr, true, false, List, [], ◌∷◌, length, get_or, Option, Some, None, option_and_then, Contains, refl, sym, ap, ◌∙◌, subst, arith}
use Rattle.std.proofs.lemmas.Bool.{cases_Bool}
use Rattle.std.specs.Bool.{MatchBool}
use Rattle.std.specs.Option.{MatchOption}
use Rattle.std.specs.List.{All, slice_get}
use Rattle.std.proofs.lemmas.List.Elements.{All-nil, All-cons, All-head, All-tail}
use Rattle.std.proofs.lemmas.Slice.Zip.{AllZip-long}
use Rattle.bim_model.specs.declared.upload.Mode.{Mode}
use Rattle.bim_model.specs.declared.upload.UploadFault.{UploadFault}
use Rattle.bim_model.specs.declared.geometry.Point.{Point}
use Rattle.p21_values.specs.declared.value.Value21.{Value21}
use Rattle.p21_values.specs.declared.value.Instance.{Instance}
use Rattle.ifc_instances.specs.declared.entity.Entity.TheVariants as entity
use Rattle.ifc_schema.specs.declared.form.Count.TheVariants.{AtLeast}
use Rattle.p21_values.specs.Values.{reference_of, items_of}
use Rattle.p21_values.specs.InstanceLookup.{look}
use Rattle.ifc_instances.specs.EntityLookup.{entity_at, is_a}
use Rattle.ifc_schema.specs.Used.{Used}
use Rattle.ifc_schema.specs.Surveys.{IsModelElement, used_ids, element_ids, is_subject}
use Rattle.ifc_schema.proofs.Listing.{element_used}
use Rattle.p21_values.proofs.PlaceLemmas.{place_found}
use Rattle.ifc_units.specs.declared.scale.Scale.{Scale}
use Rattle.ifc_units.specs.declared.length_error.GridFault.{GridFault}
use Rattle.ifc_units.specs.Lengths.{IsPoint, ArePoints, PointRefused, PointsRefused, ListRefused}
use Rattle.placement.specs.declared.frame.Frame.{Frame}
use Rattle.placement.specs.Frames.{lengths_of, frame_at}
use Rattle.placement.specs.Operators.{IsOrigin, OperatorFrame}
use Rattle.faceset.specs.FaceSets.{is_set, is_polygonal, points_of, spelled_points, spelled_triangles, faces_of, listed_in, HasThree, IsOutlined}
use Rattle.p21_values.specs.Attributes.{listed, reference_at}
use Rattle.model_build.specs.declared.judged_file.File.{File}
use Rattle.model_build.specs.Stages.{IsUsed}
use Rattle.ifc_elements.specs.PointTables.{IsTable, ListsPoints, kept_at}
use Rattle.model_build.specs.LengthFaults.{LengthFault, told_of}
use Rattle.ifc_elements.specs.Items.{bodies, spelled_items, is_mapped_item, spelled_sets, counted, count_of}
use Rattle.model_build.specs.FaultyInstances.{IsBadSet, IsOblique}
use Rattle.ifc_elements.specs.Sound.{IsSoundSet, ReadySet, ReadyMapped, ReadyItem, ReadyBody}
use Rattle.model_build.specs.inner.Outcomes.{HasChains, IsMeasured, AreReady, AreSound}
use Rattle.ifc_elements.specs.ElementReadiness.{IsStanding, IsReady}
use Rattle.model_build.proofs.AttributesFormed.{Shaped, At, OrAway, SpellsNumber, ListOf}
use Rattle.model_build.proofs.UsedFormed.{ThreeOf, NamesUsed, named_at, point_numbers, list_numbers, listed_there, element_guid, guid_there, placement_used}
use Rattle.model_build.proofs.BodiesFormed.{UsedAs, IsBody}
use Rattle.model_build.proofs.SetsFormed.{either, set_points, origin_used}
use Rattle.model_build.proofs.ItemsSupported.{NoneShown, Few, IsItem, IsSet, IsMappedItem, Names, body_names, sets_named, operator_there, faces_outlined, rows_three, element_is, element_bodies, element_some}
use Rattle.ifc_elements.proofs.TablesOfPoints.{points_told}
use Rattle.model_build.proofs.NumbersReadable.{readable_point, readable_points}

-- Lists of points.

-- all lengths that are used are on the grid, in reach
abbrev pub Measured : List Instance → Scale → Mode → Type 0
Measured world scale mode = (id : ℕ) → Used world id → (fault : UploadFault) → LengthFault world scale mode id fault → ⊥

-- a list of points that is used is one of points on the grid: it can't be that it has none
list_some : (world : List Instance) (scale : Scale) (mode : Mode) (id : ℕ) (i : Instance) → Shaped world → Measured world scale mode → Used world id → look world id ≡ Some i → is_a entity.PointList i ≡ true
    → ((points : List Point) → ListsPoints world scale mode id points → ⊥) → ⊥
list_some world scale mode id i shaped measured u found is none =
    let a : At i 0 (ListOf (AtLeast 1) (ThreeOf SpellsNumber)) = list_numbers world id i shaped u found is in
    let values = a.holds.values in
    readable_points scale mode values a.holds.each
    (λ ps are. none ps (record {
      instance = i;
      found = found;
      holds = record { kind = is; are = subst (λ vs. ArePoints scale mode vs ps) (sym (listed_there i 0 a.value values a.there a.holds.items)) are };
    }))
    (λ f r. measured id u (told_of id f) (
      f,
      refl,
      record {
        instance = i;
        found = found;
        holds = inr (is, refused a.value values f a.there a.holds.items r);
      },
    ))
  where
    refused : (v : Value21) (vs : List Value21) (f : GridFault) → slice_get i.values 0 ≡ Some v → items_of v ≡ Some vs → PointsRefused scale mode vs f → MatchOption (slice_get i.values 0) ⊥ (λ v. ListRefused scale mode v f)
    refused v vs f t e r = rw t (subst (λ o. MatchOption o ⊥ (λ vs. PointsRefused scale mode vs f)) (sym e) r)

-- the table has its points
list_there : (world : List Instance) (table : List (Option (List Point))) (scale : Scale) (mode : Mode) (id : ℕ) (i : Instance) → IsTable world scale mode table → Shaped world → Measured world scale mode → Used world id → look world id ≡ Some i
    → is_a entity.PointList i ≡ true → (points : List Point) × ListsPoints world scale mode id points
list_there world table scale mode id i t shaped measured u found is =
    let p = place_found world id i found in
    from (kept_at table p.at) (points_told world table id p.at (kept_at table p.at) p.place refl scale mode t)
  where
    from : (r : Option (List Point)) → MatchOption r ((points : List Point) → ListsPoints world scale mode id points → ⊥) (ListsPoints world scale mode id) → (points : List Point) × ListsPoints world scale mode id points
    from None h = absurd (list_some world scale mode id i shaped measured u found is h)
    from (Some points) h = (points, h)

-- Sets.

-- no set that is used has an index that counts nothing
abbrev pub Indexed : List Instance → Type 0
Indexed world = (id : ℕ) → Used world id → IsBadSet world id → ⊥

set_rows : (world : List Instance) (s : Instance) → Shaped world → Few world → UsedAs world IsSet s → MatchBool (is_polygonal s) (All IsOutlined (faces_of world s)) (All HasThree (spelled_triangles s))
set_rows world s shaped few u = elim (cases_Bool (is_polygonal s)) [
  | inl t ↦ rw t (faces_outlined world s shaped few u t)
  | inr n ↦ rw n (rows_three world s shaped u n)
]

-- there are as many points as are spelled
points_many : (world : List Instance) (scale : Scale) (mode : Mode) (s : Instance) (list : ℕ) (points : List Point) → reference_at s 0 ≡ Some list → ListsPoints world scale mode list points → length points ≡ length (spelled_points world s)
unfolding points_of
points_many world scale mode s list points refers l =
    let e : points_of world s ≡ Some l.instance = ap (option_and_then (look world)) refers ∙ l.found in
    let long = AllZip-long (IsPoint scale mode) (listed l.instance 0) points l.holds.are in
    let same = ap (λ o. length (listed_in o)) e in
    omega (arith, long, same)

set_sound : (world : List Instance) (table : List (Option (List Point))) (scale : Scale) (mode : Mode) → IsTable world scale mode table → Shaped world → Measured world scale mode → Indexed world → Few world
    → (s : Instance) → UsedAs world IsSet s → IsSoundSet world scale mode s
set_sound world table scale mode t shaped measured indexed few s u =
    let n = named_at world s 0 entity.PointList (set_points world u.id s shaped u.used u.found u.holds) in
    let l = list_there world table scale mode n.0 n.2.1.instance t shaped measured n.2.0 n.2.1.found n.2.1.holds in
    record {
      list = n.0;
      refers = n.1;
      points = l.0;
      listed = l.1;
      sound = record {
        rows = set_rows world s shaped few u;
        indexed = λ bad. indexed u.id u.used (record { instance = s; found = u.found; holds = (u.holds, bad) });
        count = points_many world scale mode s n.0 l.0 n.1 l.1;
      };
    }

-- Operators.

-- all axes that are used lie along the grid's
abbrev pub Squared : List Instance → Type 0
Squared world = (id : ℕ) → Used world id → IsOblique world id → ⊥

-- it can't be that an origin that is used is none
origin_some : (world : List Instance) (scale : Scale) (mode : Mode) (id : ℕ) → Shaped world → Measured world scale mode → IsUsed entity.Operator world id → ((p : Point) → IsOrigin world scale mode id p → ⊥) → ⊥
origin_some world scale mode id shaped measured u none =
    let a = origin_used world id u.1.instance shaped u.0 u.1.found u.1.holds in
    let n = a.holds in
    let i = n.is.1.instance in
    let b = point_numbers world n.to i shaped n.is.0 n.is.1.found n.is.1.holds in
    readable_point scale mode b.value b.holds
    (λ p is. none p (record {
      to = n.to;
      refers = ap (λ o. option_and_then reference_of (option_and_then (λ (j : Instance). slice_get j.values 2) o)) u.1.found ∙ ap (option_and_then reference_of) a.there ∙ n.refers;
      value = b.value;
      there = ap (option_and_then (λ (j : Instance). slice_get j.values 0)) n.is.1.found ∙ b.there;
      is_point = is;
    }))
    (λ f r. measured n.to n.is.0 (told_of n.to f) (
      f,
      refl,
      record {
        instance = i;
        found = n.is.1.found;
        holds = inl (n.is.1.holds, subst (λ o. MatchOption o ⊥ (λ v. PointRefused scale mode v f)) (sym b.there) r);
      },
    ))

frame_some : (world : List Instance) (scale : Scale) (mode : Mode) (id : ℕ) → Shaped world → Measured world scale mode → Squared world → IsUsed entity.Operator world id → ((f : Frame) → OperatorFrame world scale mode id f → ⊥) → ⊥
frame_some world scale mode id shaped measured square u none =
    origin_some world scale mode id shaped measured u
    (λ p is. square id u.0 (inr (
      u.1,
      λ axes has. none (frame_at axes (lengths_of p)) (record { axes = axes; has_axes = has; origin = p; is_origin = is; frame = refl }),
    )))

-- Items. It can't be that one isn't ready.

abbrev Never : Type 0 → Type 0
Never A = A → ⊥

never_all : {X : Type 0} (P : X → Type 0) (xs : List X) → All (λ x. Never (Never (P x))) xs → Never (Never (All P xs))
never_all P [] h none = none (All-nil P)
never_all P (x ∷ xs) h none =
    All-head (λ x. Never (Never (P x))) x xs h
    (λ p. never_all P xs (All-tail (λ x. Never (Never (P x))) x xs h) (λ ps. none (All-cons P x xs p ps)))

set_ready : (world : List Instance) (listed : List ℕ) (v : Value21) → ((id : ℕ) → Used world id → Contains listed id) → Names world IsSet v → ReadySet world listed v
set_ready world listed v all n id refers s found =
    let same : n.to ≡ id = (let a = n.refers in cc) in
    let there : n.target ≡ s = (let a = n.refers in let b = n.found in cc) in
    (subst IsSet there n.holds, subst (Contains listed) same (all n.to n.used))

-- what is known of a file before surfaces are made
pub record Clean (world : List Instance) (scale : Scale) (mode : Mode) (listed : List ℕ) : Type 0 where
  pub shaped : Shaped world
  pub none : NoneShown world scale mode
  pub measured : Measured world scale mode
  pub square : Squared world
  pub all : (id : ℕ) → Used world id → Contains listed id

mapped_ready : (world : List Instance) (scale : Scale) (mode : Mode) (listed : List ℕ) → Clean world scale mode listed → (i : Instance) → UsedAs world IsMappedItem i → Never (Never (ReadyMapped world scale mode listed i))
mapped_ready world scale mode listed c i u none =
    let o = operator_there world scale mode i c.shaped c.none u in
    let names = sets_named world scale mode i c.shaped c.none u in
    frame_some world scale mode o.0 c.shaped c.measured c.square o.2
    (λ f is. none (record {
      operator = o.0;
      refers = o.1;
      frame = f;
      is_frame = is;
      sets = λ k d lt. set_ready world listed (get_or (spelled_sets world i) k d) c.all (names k d lt);
    }))

abbrev ReadyTarget : List Instance → Scale → Mode → List ℕ → ℕ → Instance → Type 0
ReadyTarget world scale mode listed id i = MatchBool (is_mapped_item i) (ReadyMapped world scale mode listed i) ((is_set i ≡ true) × Contains listed id)

target_ready : (world : List Instance) (scale : Scale) (mode : Mode) (listed : List ℕ) → Clean world scale mode listed → (id : ℕ) (i : Instance) → Used world id → look world id ≡ Some i → IsItem i → Never (Never (ReadyTarget world scale mode listed id i))
target_ready world scale mode listed c id i u found is none = elim (cases_Bool (is_mapped_item i)) [
  | inl t ↦ mapped_ready world scale mode listed c i (record { id = id; used = u; found = found; holds = t }) (λ r. none (rw t r))
  | inr n ↦ none (rw n (left n, c.all id u))
]
  where
    left : is_mapped_item i ≡ false → is_set i ≡ true
    left n = elim (either (is_set i) (is_mapped_item i) is) [ inl t ↦ t | inr m ↦ absurd (let q = sym n ∙ m in cc) ]

item_ready : (world : List Instance) (scale : Scale) (mode : Mode) (listed : List ℕ) → Clean world scale mode listed → (v : Value21) → Names world IsItem v → Never (Never (ReadyItem world scale mode listed v))
item_ready world scale mode listed c v n none =
    target_ready world scale mode listed c n.to n.target n.used n.found n.holds
    (λ r. none (λ id refers i found. (
    let same : n.to ≡ id = (let a = n.refers in cc) in
    let there : n.target ≡ i = (let a = n.refers in let b = n.found in cc) in
    subst (λ j. ReadyTarget world scale mode listed id j) there (subst (λ k. ReadyTarget world scale mode listed k n.target) same r))))

body_ready : (world : List Instance) (scale : Scale) (mode : Mode) (listed : List ℕ) → Clean world scale mode listed → (r : Instance) → UsedAs world IsBody r → Never (Never (ReadyBody world scale mode listed r))
body_ready world scale mode listed c r b =
    let names = body_names world scale mode r c.shaped c.none b in
    never_all (ReadyItem world scale mode listed) (spelled_items r) (λ k d lt. item_ready world scale mode listed c (get_or (spelled_items r) k d) (names k d lt))

bodies_ready : (world : List Instance) (scale : Scale) (mode : Mode) (listed : List ℕ) → Clean world scale mode listed → (rs : List Instance) → All (UsedAs world IsBody) rs → Never (Never (All (ReadyBody world scale mode listed) rs))
bodies_ready world scale mode listed c rs bs = never_all (ReadyBody world scale mode listed) rs (λ k d lt. body_ready world scale mode listed c (get_or rs k d) (bs k d lt))

-- Elements.

keyword_there : (i : Instance) → is_subject (entity_at i) ≡ true → (keyword : List ℕ) × (i.keyword ≡ Some keyword)
keyword_there i h = from i.keyword refl
  where
    from : (o : Option (List ℕ)) → i.keyword ≡ o → (keyword : List ℕ) × (i.keyword ≡ Some keyword)
    from None e = absurd (let k = rw e at h in cc)
    from (Some keyword) e = (keyword, e)

standing_there : (world : List Instance) (ids chains : List ℕ) (id : ℕ) (i : Instance) → HasChains world ids chains → Contains ids id → look world id ≡ Some i → At i 5 (OrAway (NamesUsed world entity.Placement)) → IsStanding chains i
standing_there world ids chains id i has c found a = record {
  value = a.value;
  there = a.there;
  names = elim a.holds [
    | inl away ↦ inl away
    | inr n ↦ inr (
      n.to,
      n.refers,
      has.2.all n.to (has.1.all n.to (record {
        element = id;
        of = c;
        names = record { instance = i; found = found; holds = ap (option_and_then reference_of) a.there ∙ n.refers };
      })),
    )
  ];
}

element_ready : (world : List Instance) (scale : Scale) (mode : Mode) (listed ids chains : List ℕ) → Clean world scale mode listed → Few world
    → HasChains world ids chains → (id : ℕ) → Contains ids id → (e : IsModelElement world id) → Never (Never (IsReady world scale mode chains listed e.instance))
element_ready world scale mode listed ids chains k few has id c e none =
    let u = element_used world id e in
    let is = element_is world id e in
    bodies_ready world scale mode listed k (bodies world e.instance) (element_bodies world id e)
    (λ items. none (record {
      guid = guid_there e.instance (element_guid world id e.instance k.shaped u e.found is.0);
      class = keyword_there e.instance is.0;
      standing = standing_there world ids chains id e.instance has c e.found (placement_used world id e.instance k.shaped u e.found is.0 is.1);
      items = items;
      some = element_some world scale mode id k.shaped k.none few e;
    }))

-- Of a file that is measured.

clean : (file : File) → IsMeasured file → Clean file.exchange file.scale file.mode (used_ids file.survey)
clean file h =
    let s = h.supported.opened.surveyed in
    record {
      shaped = s.shaped;
      none = h.supported.supported;
      measured = λ id u f. h.measured id (s.used.all id u) f;
      square = λ id u. h.supported.square id (s.used.all id u);
      all = s.used.all;
    }

few_there : (file : File) → IsMeasured file → Few file.exchange
few_there file h id u f = let c = h.supported.opened.surveyed.used.all id u in h.few (c.0, id, c.1, c.2, f)

-- the sets that are used are sound
pub sets_sound : (file : File) (table : List (Option (List Point))) → IsTable file.exchange file.scale file.mode table → IsMeasured file → AreSound file.exchange file.scale file.mode (used_ids file.survey)
sets_sound file table t h id c s found is =
    let k = clean file h in
    set_sound file.exchange table file.scale file.mode t k.shaped k.measured (λ n u. h.supported.indexed n (k.all n u)) (few_there file h) s
    (record { id = id; used = h.supported.opened.surveyed.used.each id c; found = found; holds = is })

-- it can't be that an element isn't ready
pub elements_ready : (file : File) → IsMeasured file → AreReady file.exchange file.scale file.mode file.chains (used_ids file.survey) (element_ids file.survey)
elements_ready file h id c none =
    let e = h.supported.opened.surveyed.elements.each id c in
    element_ready file.exchange file.scale file.mode (used_ids file.survey) (element_ids file.survey) file.chains (clean file h) (few_there file h) h.supported.opened.has_chains id c e
    (λ r. none (record { instance = e.instance; found = e.found; holds = r }))

pub count_some : (world : List Instance) (scale : Scale) (mode : Mode) (placements listed ids : List ℕ) → AreReady world scale mode placements listed ids → (id : ℕ) → Contains ids id → 0 < count_of world id
count_some world scale mode placements listed ids ready id c =
    never_less (count_of world id) (λ none. ready id c (λ r. none (subst (λ o. 0 < counted world o) (sym r.found) r.holds.some)))
  where
    never_less : (n : ℕ) → Never (Never (0 < n)) → 0 < n
    never_less zero h = absurd (h (λ l. omega (arith, l)))
    never_less (suc n) h = omega arith
