-- What a walk that gives elements says of a file: no stage has a fault, and the elements in their order are its model.
use Rattle.std.proofs.Common.{◌≡◌, ℕ, zero, suc, ◌<◌, ◌≤◌, ◌⊎◌, inl, inr, Bool, true, false, ◌||◌, ℤ, pos, List, [], ◌∷◌, length, filter_map, get_or, Option, Some, None, option_and_then, Contains, IsPermutation, refl, sym, ap, ◌∙◌, subst, arith}
use Rattle.std.specs.Bool.{IsTrue}
use Rattle.std.specs.Prelude.{drop}
use Rattle.std.specs.List.{All, AllZip, slice_get, cons_option}
use Rattle.std.specs.List.Sorted.{IsStrictlyIncreasing}
use Rattle.std.proofs.lemmas.Slice.Zip.{AllZip-long}
use Rattle.std.proofs.lemmas.List.Kept.{AllPairs-from_increasing}
use Rattle.bim_model.specs.declared.upload.Mode.{Mode}
use Rattle.bim_model.specs.declared.element.Element.{Element}
use Rattle.bim_model.specs.declared.geometry.Point.{Point}
use Rattle.bim_model.specs.Models.{IsModel}
use Rattle.p21_values.specs.declared.value.Value21.{Value21}
use Rattle.p21_values.specs.declared.value.Instance.{Instance}
use Rattle.p21_values.specs.Values.{reference_of, is_absent}
use Rattle.p21_values.specs.InstanceLookup.{look}
use Rattle.p21_values.specs.Attributes.{reference_at, referred_at, value_at}
use Rattle.p21_values.proofs.ValueLemmas.{one, refers_absent}
use Rattle.p21_values.proofs.PlaceLemmas.{same_instance}
use Rattle.ifc_instances.specs.declared.entity.Entity.TheVariants as entity
use Rattle.ifc_instances.specs.EntityLookup.{is_a, some_passes}
use Rattle.ifc_schema.specs.BodyRepresentations.{is_body, is_body_representation}
use Rattle.ifc_schema.specs.Used.{Used, IsMapped}
use Rattle.ifc_schema.specs.declared.form.Targets.TheVariants as targets
use Rattle.ifc_schema.specs.Forms.{holds}
use Rattle.ifc_schema.specs.Surveys.{UsedFlaw, IsModelElement, Lists}
use Rattle.ifc_schema.proofs.Apart.{used_apart}
use Rattle.ifc_units.specs.declared.scale.Scale.{Scale}
use Rattle.ifc_units.specs.Lengths.{IsPoint}
use Rattle.placement.specs.declared.frame.Frame.{Frame}
use Rattle.placement.specs.Directions.{HasAxes}
use Rattle.placement.specs.Chains.{Ends, here, above}
use Rattle.placement.specs.Placed.{FrameOf, outermost, within, AxisFrame}
use Rattle.faceset.specs.FaceSets.{is_set}
use Rattle.ifc_elements.specs.Finding.{Finds}
use Rattle.ifc_elements.specs.Items.{spelled_items, is_item, is_mapped_item}
use Rattle.ifc_elements.specs.ElementReadiness.{IsNearElement}
use Rattle.ifc_elements.specs.Elements.{IsElement}
use Rattle.ifc_elements.specs.Surfaces.{IsPlacedBy}
use Rattle.ifc_elements.specs.ElementTexts.{guid_of}
use Rattle.ifc_elements.proofs.OneSet.{set_unstuck}
use Rattle.model_walk.specs.Clean.{LeadsToItem, HasPlainScale, IsClean, IsCleanAt, identity}
use Rattle.model_walk.specs.Walked.{IsWalked}
use Rattle.model_build.specs.StageFaults.{IsClear}
use Rattle.model_build.specs.DuplicateGuids.{NoneRepeats}
use Rattle.model_build.specs.FaultyInstances.{IsOblique}
use Rattle.model_walk.specs.Checked.{Differ}
use Rattle.model_build.specs.Order.{Rise}
use Rattle.model_build.specs.Profile.{IsModelOf}
use Rattle.model_build.specs.Faces.{IsStuckFace, HasManyCorners}
use Rattle.model_build.specs.Unsupported.{ListsOther, ListsNested, HasNoTarget, HasGridNumber, IsAwayValue, IsAway, IsTurned, IsShifted, IsUnsupported, plain_axes}
use Rattle.model_build.specs.Stages.{FormStage, LoopStage, ObliqueStage, ItemStage, IndexStage, LengthStage, CornersStage, StuckStage, ReachStage, stages, FileFault}
use Rattle.model_build.proofs.FirstOfStages.{AllClear, all_clear, unit_clear}
use Rattle.model_build.proofs.StagesClear.{tree_clear, items_clear}
use Rattle.model_build.proofs.RepeatedGuids.{repeats_clear}
use Rattle.model_build.proofs.SetsCut.{stuck_clear}
use Rattle.model_build.proofs.TrianglesCounted.{triangles_clear}
use Rattle.model_build.proofs.ModelMade.{zip_at, zip_by, element_there, reach_clear, is_model, modelled, counts}
use Rattle.model_build.proofs.LocationsAway.{one_number, on_grid, taken, all_zero}
use Rattle.placement.proofs.OneFrame.{same_axes}
use Rattle.model_build.proofs.OneKeyword.{both, held_is_a}
use Rattle.model_build.proofs.UsedFormed.{named_at}
use Rattle.model_build.specs.Triangles.{most_triangles}
use Rattle.model_build.proofs.SetsFormed.{map_used}

-- all that is used is clean
abbrev AllClean : List Instance → Scale → Mode → Type 0
AllClean world scale mode = (id : ℕ) → Used world id → IsCleanAt world scale mode id

-- what is clean is this instance
clean_of : (world : List Instance) (scale : Scale) (mode : Mode) (id : ℕ) (i : Instance) (c : IsCleanAt world scale mode id) → look world id ≡ Some i → IsClean world scale mode c.mapped id i
clean_of world scale mode id i c found = subst (λ (j : Instance). IsClean world scale mode c.mapped id j) (one (look world id) c.instance i c.found found) c.clean

-- Forms.

formed_at : (world : List Instance) (scale : Scale) (mode : Mode) (id : ℕ) → IsCleanAt world scale mode id → UsedFlaw world id None
formed_at world scale mode id c = record { instance = c.instance; found = c.found; mapped = c.mapped; is_mapped = c.is_mapped; flawed = c.clean.formed }

forms_clear : (world : List Instance) (scale : Scale) (mode : Mode) → AllClean world scale mode → IsClear (FormStage world)
forms_clear world scale mode c fault f = used_apart world f.id f.flaw (formed_at world scale mode f.id (c f.id f.used)) f.flawed

-- Global identifiers.

same_default : (xs : List ℕ) (k d e : ℕ) → k < length xs → get_or xs k d ≡ get_or xs k e
same_default [] k d e lt = absurd (omega (arith, lt))
same_default (x ∷ xs) zero d e lt = refl
same_default (x ∷ xs) (suc k) d e lt = same_default xs k d e (omega (arith, lt))

none_repeat : (world : List Instance) (scale : Scale) (mode : Mode) (ids : List ℕ) (elements : List Element) → IsStrictlyIncreasing ids → AllZip (IsNearElement world scale mode) ids elements → Differ elements → NoneRepeats world ids
none_repeat world scale mode ids elements up z differ id c r =
    let k = c.0 in
    let j = r.of.0 in
    let m = c.1 in
    let n = r.of.1 in
    let long = AllZip-long (IsNearElement world scale mode) ids elements z in
    let e = some_element elements k (omega (arith, m, long)) in
    let last : (o : Element) × IsNearElement world scale mode id o × (o ≡ get_or elements k e) = (get_or elements k e, subst (λ (x : ℕ). IsNearElement world scale mode x (get_or elements k e)) c.2 (zip_at (IsNearElement world scale mode) ids elements k id e z m), refl) in
    let before : (o : Element) × IsNearElement world scale mode r.lower o × (o ≡ get_or elements j e) = (get_or elements j e, subst (λ (x : ℕ). IsNearElement world scale mode x (get_or elements j e)) r.of.2 (zip_at (IsNearElement world scale mode) ids elements j r.lower e z n), refl) in
    differ j k e (comes k j m n c.2 r.of.2 r.below) (omega (arith, m, long))
    (ap (λ (o : Element). o.guid.chars) (sym before.2) ∙ guid_is r.lower r.guid before.0 before.1 r.there ∙ sym (guid_is id r.guid last.0 last.1 r.here) ∙ ap (λ (o : Element). o.guid.chars) last.2)
  where
    some_element : (es : List Element) (k : ℕ) → k < length es → Element
    some_element [] k lt = absurd (omega (arith, lt))
    some_element (x ∷ es) k lt = x

    comes : (k j : ℕ) → k < length ids → j < length ids → get_or ids k id ≡ id → get_or ids j r.lower ≡ r.lower → r.lower < id → j < k
    comes k j m n a b l = elim (earlier j k) [
      | inl lt ↦ lt
      | inr ge ↦ elim ge [
        | inl same ↦ absurd (let q : get_or ids k id ≡ r.lower = any_default k m ∙ ap (λ x. get_or ids x r.lower) (sym same) ∙ b in omega (arith, l, q, a))
        | inr lt ↦ absurd (let p : get_or ids k r.lower < get_or ids j r.lower = AllPairs-from_increasing ids up k j r.lower lt n in let q = any_default k m in omega (arith, l, p, q, a, b))
      ]
    ]
      where
        earlier : (a b : ℕ) → (a < b) ⊎ ((a ≡ b) ⊎ (b < a))
        earlier a b = grind arith

        any_default : (k : ℕ) → k < length ids → get_or ids k id ≡ get_or ids k r.lower
        any_default k lt = same_default ids k id r.lower lt

    guid_is : (n : ℕ) (guid : List ℕ) (o : Element) → IsNearElement world scale mode n o → Finds world n (λ i. guid_of i ≡ Some guid) → o.guid.chars ≡ guid
    guid_is n guid o near f =
        let same = same_instance world n near.is_element.instance f.instance near.is_element.found f.found in
        let g = near.is_element.guid in
        let h = f.holds in
        cc

-- Chains of placements.

frame_ends : (world : List Instance) (scale : Scale) (mode : Mode) (id : ℕ) (f : Frame) → FrameOf world scale mode id f → Ends world id
frame_ends world scale mode _ _ (outermost id f p own) = here id p
frame_ends world scale mode _ _ (within id parent own outer f p o frame c) = above id parent p (frame_ends world scale mode parent outer frame)

no_reference : {A : Type 0} (o : Option Value21) (to : ℕ) → some_passes is_absent o ≡ true → option_and_then reference_of o ≡ Some to → A
no_reference None to a e = absurd (cc)
no_reference (Some v) to a e = refers_absent v to a e

placed_ends : (world : List Instance) (scale : Scale) (mode : Mode) (i : Instance) (to : ℕ) (frame : Option Frame) → IsPlacedBy world scale mode i frame → reference_at i 5 ≡ Some to → Ends world to
placed_ends world scale mode i to None p e = no_reference (slice_get i.values 5) to p e
placed_ends world scale mode i to (Some f) p e = subst (λ (n : ℕ). Ends world n) (one (reference_at i 5) p.0 to p.1 e) (frame_ends world scale mode p.0 f p.2)

loops_clear : (world : List Instance) (scale : Scale) (mode : Mode) (ids : List ℕ) (elements : List Element) → Lists (IsModelElement world) ids → AllZip (IsNearElement world scale mode) ids elements → IsClear (LoopStage world)
loops_clear world scale mode ids elements ls z fault l =
    let n = l.of in
    let made = element_there world scale mode ids elements n.element z (ls.all n.element n.of) in
    let s = made.1.is_element in
    let same : s.instance ≡ n.names.instance = one (look world n.element) s.instance n.names.instance s.found n.names.found in
    l.here.1 (placed_ends world scale mode s.instance l.id s.surface.frame s.surface.placed (ap (λ (i : Instance). reference_at i 5) same ∙ n.names.holds))

-- Axes.

not_oblique : (world : List Instance) (scale : Scale) (mode : Mode) (id : ℕ) → IsCleanAt world scale mode id → IsOblique world id → ⊥
not_oblique world scale mode id c (inl (f, none)) = let a = (clean_of world scale mode id f.instance c f.found).square f.holds in none a.0 a.1
not_oblique world scale mode id c (inr (f, none)) = let a = (clean_of world scale mode id f.instance c f.found).carries f.holds in none a.0 a.1

axes_clear : (world : List Instance) (scale : Scale) (mode : Mode) → AllClean world scale mode → IsClear (ObliqueStage world)
axes_clear world scale mode c fault h = not_oblique world scale mode h.id (c h.id h.of) h.here.1

-- Faces, sets and lengths.

indexes_none : (world : List Instance) (scale : Scale) (mode : Mode) → AllClean world scale mode → IsClear (IndexStage world)
indexes_none world scale mode c fault h =
    let f = h.here.1 in
    (clean_of world scale mode h.id f.instance (c h.id h.of) f.found).indexed f.holds.0 f.holds.1

lengths_none : (world : List Instance) (scale : Scale) (mode : Mode) → AllClean world scale mode → IsClear (LengthStage world mode scale)
lengths_none world scale mode c fault h =
    let f = h.here.2 in
    (clean_of world scale mode h.id f.instance (c h.id h.of) f.found).measured h.here.0 f.holds

few_corners : (world : List Instance) (scale : Scale) (mode : Mode) (m : Bool) (id : ℕ) (i : Instance) → IsClean world scale mode m id i → HasManyCorners i → ⊥
few_corners world scale mode m id i c h = let l = c.few h.0 in let n = h.1 in omega (arith, l, n)

corners_none : (world : List Instance) (scale : Scale) (mode : Mode) → AllClean world scale mode → IsClear (CornersStage world)
corners_none world scale mode c fault h =
    let f = h.3 in
    let k = c h.1 h.2 in
    few_corners world scale mode k.mapped h.1 f.instance (clean_of world scale mode h.1 f.instance k f.found) f.holds

unstuck : (world : List Instance) (scale : Scale) (mode : Mode) → AllClean world scale mode → (id : ℕ) → IsStuckFace world scale mode id → ⊥
unstuck world scale mode c id s =
    let f = s.2 in
    let set = s.1.1 in
    let same = one (look world s.0) set.instance f.instance set.found f.found in
    let k = (clean_of world scale mode s.0 f.instance (c s.0 s.1.0) f.found).cut (subst (λ (i : Instance). is_set i ≡ true) same set.holds) in
    set_unstuck world scale mode f.instance k.0 f.holds.0 id k.1.surface f.holds.1 f.holds.2

-- Items.

-- an item that values refer to is read
named_item : (world : List Instance) (m : Bool) (vs : List Value21) (id : ℕ) (target : Instance) → All (LeadsToItem world m) vs → Contains (filter_map reference_of vs) id → look world id ≡ Some target
    → (is_item target ≡ true) × (m ≡ true → is_mapped_item target ≡ false)
named_item world m [] id target all c found = absurd (let l = c.1 in omega (arith, l))
named_item world m (v ∷ vs) id target all c found =
    let h = all 0 v (omega arith) in
    let e : filter_map reference_of (v ∷ vs) ≡ h.to ∷ filter_map reference_of vs = ap (λ o. cons_option o (filter_map reference_of vs)) h.refers in
    elim (first_or (filter_map reference_of vs) h.to id (subst (λ (ids : List ℕ). Contains ids id) e c)) [
      | inl same ↦ (
          let there : h.item ≡ target = one (look world id) h.item target (subst (λ (n : ℕ). look world n ≡ Some h.item) same h.found) found in
          (subst (λ (i : Instance). is_item i ≡ true) there h.read, λ t. subst (λ (i : Instance). is_mapped_item i ≡ false) there (h.plain t)))
      | inr later ↦ named_item world m vs id target (λ k d lt. all (suc k) d (omega (arith, lt))) later found
    ]
  where
    first_or : (ids : List ℕ) (x n : ℕ) → Contains (x ∷ ids) n → (x ≡ n) ⊎ Contains ids n
    first_or ids x n (zero, lt, e) = inl e
    first_or ids x n (suc k, lt, e) = inr (k, omega (arith, lt), e)

-- the items of this representation, which is a body or is mapped
items_at : (world : List Instance) (scale : Scale) (mode : Mode) (from : ℕ) (r : Instance) (c : IsCleanAt world scale mode from) → look world from ≡ Some r → (is_body_representation r ≡ true) ⊎ IsMapped world from
    → All (LeadsToItem world c.mapped) (spelled_items r)
items_at world scale mode from r c found (inl b) =
    let k = both (is_a entity.Representation r) (is_body r) b in
    (clean_of world scale mode from r c found).items k.0 (or_right c.mapped (is_body r) k.1)
  where
    or_right : (a b : Bool) → b ≡ true → (a || b) ≡ true
    or_right true b h = refl
    or_right false b h = h
items_at world scale mode from r c found (inr m) =
    let l = m.maps.leads in
    let same = one (look world from) l.target r l.found found in
    let kind : is_a entity.Representation r ≡ true = held_is_a entity.Representation r (subst (λ (i : Instance). holds (targets.One entity.Representation) i.keyword ≡ true) same l.meant) in
    (clean_of world scale mode from r c found).items kind (or_left c.mapped (is_body r) (c.is_mapped.1 m))
  where
    or_left : (a b : Bool) → IsTrue a → (a || b) ≡ true
    or_left true b h = refl
    or_left false b h = absurd (cc)

none_other : (world : List Instance) (scale : Scale) (mode : Mode) (from id : ℕ) → IsCleanAt world scale mode from → ListsOther world from id → ⊥
none_other world scale mode from id c h =
    let r = h.1 in
    let t = h.2 in
    let read = (named_item world c.mapped (spelled_items r.instance) id t.instance (items_at world scale mode from r.instance c r.found (opened r.instance r.found h.0)) r.holds t.found).0 in
    let other = t.holds in
    cc
  where
    opened : (r : Instance) → look world from ≡ Some r → (Finds world from (λ i. is_body_representation i ≡ true) ⊎ IsMapped world from) → (is_body_representation r ≡ true) ⊎ IsMapped world from
    opened r found (inl f) = inl (subst (λ (i : Instance). is_body_representation i ≡ true) (one (look world from) f.instance r f.found found) f.holds)
    opened r found (inr m) = inr m

none_nested : (world : List Instance) (scale : Scale) (mode : Mode) (from id : ℕ) → IsCleanAt world scale mode from → ListsNested world from id → ⊥
none_nested world scale mode from id c h =
    let r = h.1 in
    let t = h.2 in
    let plain = (named_item world c.mapped (spelled_items r.instance) id t.instance (items_at world scale mode from r.instance c r.found (inr h.0)) r.holds t.found).1 (c.is_mapped.1 h.0) in
    let nested = t.holds in
    cc

has_target : (world : List Instance) (scale : Scale) (mode : Mode) (from id : ℕ) → IsCleanAt world scale mode from → HasNoTarget world from id → ⊥
has_target world scale mode from id c h =
    let f = h.0 in
    let o = (clean_of world scale mode from f.instance c f.found).operator f.holds.0 in
    let same = one (reference_at f.instance 1) o.0 id o.1 f.holds.1 in
    let t = h.1 in
    let there = one (look world id) o.2.instance t.instance (subst (λ (n : ℕ). look world n ≡ Some o.2.instance) same o.2.found) t.found in
    let plain = subst (λ (i : Instance). (is_a entity.Operator i ≡ true) × HasPlainScale i) there o.2.holds in
    elim t.holds [
      | inl other ↦ (let yes = plain.0 in cc)
      | inr s ↦ s.2.other (plain.1 s.0 s.2.bytes s.1 s.2.number)
    ]

-- the mapping origin of this item is the identity
plain_origin : (world : List Instance) (scale : Scale) (mode : Mode) → AllClean world scale mode → (id map origin : ℕ) (i : Instance) → Used world id → look world id ≡ Some i → is_mapped_item i ≡ true → reference_at i 0 ≡ Some map
    → referred_at world map 0 ≡ Some origin → AxisFrame world scale mode origin identity
plain_origin world scale mode c id map origin i u found is uses refers =
    let a = map_used world id i (λ n v. formed_at world scale mode n (c n v)) u found is in
    let n = named_at world i 0 entity.RepresentationMap a in
    let same = one (reference_at i 0) n.0 map n.1 uses in
    let m = n.2.1 in
    let there : look world map ≡ Some m.instance = subst (λ (x : ℕ). look world x ≡ Some m.instance) same m.found in
    let p = (clean_of world scale mode map m.instance (c map (subst (λ (x : ℕ). Used world x) same n.2.0)) there).origin m.holds in
    let at : reference_at m.instance 0 ≡ Some origin = sym (ap (λ o. option_and_then reference_of (option_and_then (λ (j : Instance). slice_get j.values 0) o)) there) ∙ refers in
    subst (λ (x : ℕ). AxisFrame world scale mode x identity) (one (reference_at m.instance 0) p.0 origin p.1 at) p.2

-- three lengths that are 0 aren't away
plain_point : (scale : Scale) (mode : Mode) (value : Value21) (p : Point) → IsPoint scale mode value p → p.x ≡ pos 0 → p.y ≡ pos 0 → p.z ≡ pos 0 → IsAwayValue scale mode value → ⊥
plain_point scale mode value p h x y z a =
    let o = taken scale mode value h.a h.b h.c h.three a in
    all_zero o.x o.y o.z
    (one_number scale mode h.a o.x (pos 0) o.first (subst (λ (g : ℤ). HasGridNumber scale mode h.a g) x (on_grid scale mode h.a p.x h.x)))
    (one_number scale mode h.b o.y (pos 0) o.second (subst (λ (g : ℤ). HasGridNumber scale mode h.b g) y (on_grid scale mode h.b p.y h.y)))
    (one_number scale mode h.c o.z (pos 0) o.third (subst (λ (g : ℤ). HasGridNumber scale mode h.c g) z (on_grid scale mode h.c p.z h.z)))
    o.some

never_away : (world : List Instance) (scale : Scale) (mode : Mode) (origin : ℕ) → AxisFrame world scale mode origin identity → IsAway world scale mode origin → ⊥
never_away world scale mode origin f a =
    let l = f.is_location in
    let to = one (referred_at world origin 0) a.to l.to a.refers l.refers in
    let value = one (value_at world l.to 0) a.value l.value (subst (λ (n : ℕ). value_at world n 0 ≡ Some a.value) to a.there) l.there in
    let e = f.frame in
    plain_point scale mode l.value f.location l.is_point (sym (ap (λ (g : Frame). g.offset.x) e)) (sym (ap (λ (g : Frame). g.offset.y) e)) (sym (ap (λ (g : Frame). g.offset.z) e))
    (subst (IsAwayValue scale mode) value a.away)

never_turned : (world : List Instance) (scale : Scale) (mode : Mode) (origin : ℕ) → AxisFrame world scale mode origin identity → IsTurned world origin → ⊥
never_turned world scale mode origin f turned =
    let e = f.frame in
    turned (subst (HasAxes world origin) (same_axes f.axes plain_axes (sym (ap (λ (g : Frame). g.x) e)) (sym (ap (λ (g : Frame). g.y) e)) (sym (ap (λ (g : Frame). g.z) e))) f.has_axes)

unshifted : (world : List Instance) (scale : Scale) (mode : Mode) → AllClean world scale mode → (id : ℕ) → Used world id → IsShifted world scale mode id → ⊥
unshifted world scale mode c id u h =
    let i = h.0 in
    let o = h.1 in
    let uses : reference_at i.instance 0 ≡ Some o.map = sym (ap (λ s. option_and_then reference_of (option_and_then (λ (j : Instance). slice_get j.values 0) s)) i.found) ∙ o.uses in
    let plain = plain_origin world scale mode c id o.map o.origin i.instance u i.found i.holds uses o.refers in
    elim o.other [ inl t ↦ never_turned world scale mode o.origin plain t | inr a ↦ never_away world scale mode o.origin plain a ]

supported : (world : List Instance) (scale : Scale) (mode : Mode) → AllClean world scale mode → (id : ℕ) → IsUnsupported world scale mode id → ⊥
supported world scale mode c id (from, u, inl (inl h)) = none_other world scale mode from id (c from u) h
supported world scale mode c id (from, u, inl (inr h)) = none_nested world scale mode from id (c from u) h
supported world scale mode c id (from, u, inr (inl h)) = has_target world scale mode from id (c from u) h
supported world scale mode c id (from, u, inr (inr h)) = unshifted world scale mode c from u h.1

-- All stages.

pub walk_clear : (world : List Instance) (mode : Mode) (elements : List Element) → IsWalked world mode elements → IsClear (FileFault world mode)
walk_clear world mode elements w =
    let scale = w.scale in
    let c = w.clean in
    let last : AllClear (drop 11 (stages world mode)) = (triangles_clear world w.ids w.lists w.few, (unit_clear world (ReachStage world mode) scale w.unit (reach_clear world scale mode w.ids elements w.lists w.each), tt)) in
    let faces : AllClear (drop 9 (stages world mode)) = (corners_none world scale mode c, (unit_clear world (StuckStage world mode) scale w.unit (stuck_clear world scale mode (unstuck world scale mode c)), last)) in
    let sets : AllClear (drop 7 (stages world mode)) = (indexes_none world scale mode c, (unit_clear world (LengthStage world mode) scale w.unit (lengths_none world scale mode c), faces)) in
    let items : AllClear (drop 6 (stages world mode)) = (unit_clear world (ItemStage world mode) scale w.unit (items_clear world scale mode (supported world scale mode c)), sets) in
    let axes : AllClear (drop 4 (stages world mode)) = (loops_clear world scale mode w.ids elements w.lists w.each, (axes_clear world scale mode c, items)) in
    let guids : AllClear (drop 3 (stages world mode)) = (repeats_clear world (IsModelElement world) w.ids w.lists (none_repeat world scale mode w.ids elements w.lists.rises w.each w.differ), axes) in
    all_clear (stages world mode) (forms_clear world scale mode c, ((λ fault u. u.none scale w.unit), (tree_clear world w.tree, guids)))

-- The model.

pub walk_model : (world : List Instance) (mode : Mode) (made elements : List Element) → IsWalked world mode made → IsPermutation made elements → (Differ made → Rise elements) → IsModelOf world mode elements
walk_model world mode made elements w order rise = record {
  scale = w.scale;
  unit = w.unit;
  ids = w.ids;
  lists = w.lists;
  made = made;
  each = zip_by (IsNearElement world w.scale mode) (IsElement world w.scale mode) w.ids made (λ id e near. near.is_element) w.each;
  order = order;
  rising = rise w.differ;
}

-- what is asked of the elements of a model
pub walk_sound : (world : List Instance) (mode : Mode) (made elements : List Element) → IsWalked world mode made → IsPermutation made elements → (Differ made → Rise elements) → IsModel elements
walk_sound world mode made elements w order rise =
    is_model made elements order (rise w.differ) (modelled world w.scale mode w.ids made w.some w.each)
    (subst (λ n. n ≤ most_triangles) (sym (counts world w.scale mode w.ids made w.each)) w.few)
