-- The elements that instances make.
use Rattle.std.proofs.Common.{◌≡◌, ℕ, ◌+◌, ◌==◌, ◌<◌, inl, inr, true, false, List, [], ◌∷◌, ◌++◌, length, get_or, take, map, sum_by, Option, Some, None, option_and_then, Result, Ok, Err, Contains, refl, sym, ap, ◌∙◌, subst, arith}
use Rattle.std.proofs.lemmas.Bool.{cases_Bool}
use Rattle.std.specs.Option.{MatchOption}
use Rattle.std.specs.declared.alloc.AllocError.{AllocError}
use Rattle.std.specs.Prelude.{IfOk}
use Rattle.std.specs.Result.{MatchResult}
use Rattle.std.specs.List.{slice_get, All, Any, AllZip}
use Rattle.std.specs.List.Sorted.{IsStrictlyIncreasing}
use Rattle.std.proofs.lemmas.Bool.Decides.{nat_tests}
use Rattle.std.proofs.lemmas.Option.{slice_get-get_or}
use Rattle.std.proofs.lemmas.List.{take_more, length-map, length-take-le, get_or-take}
use Rattle.std.proofs.lemmas.List.Elements.{Contains-get_or}
use Rattle.std.proofs.lemmas.Slice.Zip.{AllZip-long, all_zipped_more}
use Rattle.bim_model.specs.Boxes.{corners_of}
use Rattle.bim_model.specs.Models.{IsInReach}
use Rattle.bim_model.specs.declared.element.Element.{Element}
use Rattle.bim_model.specs.declared.geometry.Triangle.{Triangle}
use Rattle.bim_model.specs.declared.upload.Mode.{Mode}
use Rattle.p21_values.specs.declared.value.Value21.{Value21}
use Rattle.p21_values.specs.declared.value.Instance.{Instance}
use Rattle.p21_values.specs.Values.{reference_of, is_absent}
use Rattle.p21_values.specs.InstanceLookup.{look}
use Rattle.ifc_units.specs.declared.scale.Scale.{Scale}
use Rattle.placement.specs.declared.frame.Frame.{Frame}
use Rattle.placement.specs.Placed.{AreFrames}
use Rattle.faceset.specs.FaceSets.{Joined}
use Rattle.ifc_elements.specs.Items.{body_items, item_count}
use Rattle.ifc_elements.specs.Sound.{IsOut}
use Rattle.ifc_elements.specs.Surfaces.{ItemSurface, moved, placed_by, IsSurface, IsBeyond}
use Rattle.ifc_elements.specs.Framed.{AllFramed}
use Rattle.ifc_elements.specs.ElementReadiness.{IsStanding, IsReady, IsFrameOf, IsNearSurface, IsNearElement, Lacks, LacksAt, IsFirstLacking}
use Rattle.ifc_elements.specs.declared.lack.ElementLack.{ElementLack}
use Rattle.ifc_elements.specs.declared.lack.ElementLack.TheVariants.{Beyond, Unready}
use Rattle.p21_values.proofs.ValueLemmas.{one}
use Rattle.ifc_elements.proofs.OneSet.{same_triangle}
use Rattle.ifc_elements.proofs.OneSurface.{same_map}
use Rattle.ifc_instances.proofs.Rising.{earlier}
use Rattle.ifc_elements.proofs.TablesOfPoints.{zipped_at}

-- The frame of an element.

-- the frames of placements carry points
pub all_framed : (world : List Instance) (scale : Scale) (mode : Mode) (placements : List ℕ) (frames : ℕ → Option Frame) → AreFrames world scale mode placements frames → AllFramed frames
all_framed world scale mode placements frames are = λ id f e. (let p = are.sound id f e in (p.is_frame, p.near))

-- an attribute that isn't absent is a reference to one of the placements
stands : (placements : List ℕ) (i : Instance) (value : Value21) → slice_get i.values 5 ≡ Some value → is_absent value ≡ false → IsStanding placements i
    → (id : ℕ) × (reference_of value ≡ Some id) × Contains placements id
stands placements i value there present s =
    let same : s.value ≡ value = one (slice_get i.values 5) s.value value s.there there in
    elim s.names [
      | inl a ↦ absurd (let b : is_absent value ≡ true = subst (λ (v : Value21). is_absent v ≡ true) same a in cc)
      | inr n ↦ (n.0, subst (λ (v : Value21). reference_of v ≡ Some n.0) same n.1, n.2)
    ]

-- the frame of the placement that an element names
pub placed_told : (world : List Instance) (scale : Scale) (mode : Mode) (placements : List ℕ) (frames : ℕ → Option Frame) (i : Instance) (value : Value21) (id : ℕ) (r : Option Frame)
    → slice_get i.values 5 ≡ Some value → is_absent value ≡ false → reference_of value ≡ Some id → r ≡ frames id → AreFrames world scale mode placements frames
    → MatchOption r (IsStanding placements i → ⊥) (IsFrameOf world scale mode i)
placed_told world scale mode placements frames i value id None there present refers is are = λ s.
    let n = stands placements i value there present s in
    let same : n.0 ≡ id = one (reference_of value) n.0 id n.1 refers in
    let f = are.all id (subst (λ k. Contains placements k) same n.2) in
    let e = f.1 in
    absurd (cc)
placed_told world scale mode placements frames i value id (Some f) there present refers is are =
    let p = are.sound id f (sym is) in
    record {
      given = Some f;
      placed = (id, ap (option_and_then reference_of) there ∙ refers, p.frame_of);
      carries = record { same = λ q. refl; is_frame = p.is_frame; near = p.near };
    }

-- The surface of an element.

surface_there : (world : List Instance) (scale : Scale) (mode : Mode) (i : Instance) (frame : Frame) (own ts : List Triangle) → IsFrameOf world scale mode i frame → Joined (ItemSurface world scale mode) (body_items world i) own
    → ts ≡ map (moved frame) own → IsSurface world scale mode i ts
surface_there world scale mode i frame own ts f are e = record {
  own = own;
  of_items = are;
  frame = f.given;
  placed = f.placed;
  all = e ∙ same_map (moved frame) (placed_by f.given) (λ t. same_triangle (moved frame t) (placed_by f.given t) (f.carries.same t.a) (f.carries.same t.b) (f.carries.same t.c)) own;
}

pub near_surface : (world : List Instance) (scale : Scale) (mode : Mode) (i : Instance) (frame : Frame) (own ts : List Triangle) → IsFrameOf world scale mode i frame → Joined (ItemSurface world scale mode) (body_items world i) own
    → length own ≡ sum_by (item_count world) (body_items world i) → (ts ≡ map (moved frame) own) × All IsInReach (corners_of ts) → IsNearSurface world scale mode i ts
near_surface world scale mode i frame own ts f are many is = record {
  surface = surface_there world scale mode i frame own ts f are is.0;
  near = is.1;
  count = ap length is.0 ∙ length-map own (moved frame) ∙ many;
}

pub beyond_there : (world : List Instance) (scale : Scale) (mode : Mode) (i : Instance) (frame : Frame) (own : List Triangle) → IsFrameOf world scale mode i frame → Joined (ItemSurface world scale mode) (body_items world i) own
    → Any IsOut (corners_of (map (moved frame) own)) → IsBeyond world scale mode i
beyond_there world scale mode i frame own f are out = record {
  triangles = map (moved frame) own;
  surface = surface_there world scale mode i frame own (map (moved frame) own) f are refl;
  beyond = out;
}

-- The element of a number.

lack_there : (world : List Instance) (scale : Scale) (mode : Mode) (placements listed : List ℕ) (id : ℕ) (i : Instance) (lack : ElementLack) → look world id ≡ Some i → Lacks world scale mode placements listed i lack → LacksAt world scale mode placements listed id lack
lack_there world scale mode placements listed id i Beyond found h = record { instance = i; found = found; holds = h }
lack_there world scale mode placements listed id i Unready found h = λ f. h (subst (IsReady world scale mode placements listed) (one (look world id) f.instance i f.found found) f.holds)

equal : (a b : ℕ) → (a == b) ≡ true → a ≡ b
equal a b e = grind (arith, nat_tests)

-- what is found has the number
id_of : (world : List Instance) (id : ℕ) (i : Instance) → look world id ≡ Some i → i.id ≡ id
unfolding look
id_of [] id i found = absurd (cc)
id_of (j ∷ js) id i found = elim (cases_Bool (j.id == id)) [
  | inl t ↦ (let m = rw t at found in let same : j ≡ i = cc in ap (λ (k : Instance). k.id) (sym same) ∙ equal j.id id t)
  | inr f ↦ (let m = rw f at found in id_of js id i m)
]

pub made_at : (world : List Instance) (scale : Scale) (mode : Mode) (placements listed : List ℕ) (id : ℕ) (i : Instance) (r : Result (Result Element ElementLack) AllocError) → look world id ≡ Some i
    → (look world i.id ≡ Some i → IfOk r (λ made. MatchResult made (IsNearElement world scale mode i.id) (Lacks world scale mode placements listed i)))
    → IfOk r (λ made. MatchResult made (IsNearElement world scale mode id) (LacksAt world scale mode placements listed id))
made_at world scale mode placements listed id i (Err e) found h = h (let same = id_of world id i found in subst (λ k. look world k ≡ Some i) (sym same) found)
made_at world scale mode placements listed id i (Ok (Ok element)) found h =
    let same = id_of world id i found in
    subst (λ k. IsNearElement world scale mode k element) same (h (subst (λ k. look world k ≡ Some i) (sym same) found))
made_at world scale mode placements listed id i (Ok (Err lack)) found h =
    let same = id_of world id i found in
    lack_there world scale mode placements listed id i lack found (h (subst (λ k. look world k ≡ Some i) (sym same) found))

-- Elements, one after another.

pub made_more : (world : List Instance) (scale : Scale) (mode : Mode) (ids : List ℕ) (at : ℕ) (old new : List Element) (element : Element) → at < length ids → IsNearElement world scale mode (get_or ids at 0) element
    → new ≡ old ++ element ∷ [] → AllZip (IsNearElement world scale mode) (take at ids) old → AllZip (IsNearElement world scale mode) (take (at + 1) ids) new
made_more world scale mode ids at old new element lt h grown are =
    let step : take (at + 1) ids ≡ take at ids ++ get_or ids at 0 ∷ [] = take_more ids at 0 lt in
    rw (step, grown) (all_zipped_more (IsNearElement world scale mode) (take at ids) old (get_or ids at 0) element are h)

made_before : (world : List Instance) (scale : Scale) (mode : Mode) (ids : List ℕ) (at place : ℕ) (made : List Element) → place < at → at < length ids → AllZip (IsNearElement world scale mode) (take at ids) made
    → (element : Element) × IsNearElement world scale mode (get_or ids place 0) element
made_before world scale mode ids at place [] before lt are =
    absurd (let l = AllZip-long (IsNearElement world scale mode) (take at ids) [] are in let t = length-take-le at ids (omega arith) in omega arith)
made_before world scale mode ids at place (e ∷ es) before lt are =
    let ks = take at ids in
    let made = e ∷ es in
    let many : length ks ≡ at = length-take-le at ids (omega arith) in
    let long = AllZip-long (IsNearElement world scale mode) ks made are in
    let id : slice_get ks place ≡ Some (get_or ks place 0) = slice_get-get_or ks place 0 (omega arith) in
    let there : slice_get made place ≡ Some (get_or made place e) = slice_get-get_or made place e (omega arith) in
    let near = zipped_at (IsNearElement world scale mode) ks made place (get_or ks place 0) (get_or made place e) are id there in
    (get_or made place e, subst (λ n. IsNearElement world scale mode n (get_or made place e)) (get_or-take at ids place 0 before) near)

pub first_lacking : (world : List Instance) (scale : Scale) (mode : Mode) (placements listed ids : List ℕ) (at : ℕ) (made : List Element) (lack : ElementLack) → IsStrictlyIncreasing ids → at < length ids → AllZip (IsNearElement world scale mode) (take at ids) made
    → LacksAt world scale mode placements listed (get_or ids at 0) lack → IsFirstLacking world scale mode placements listed ids (record { id = get_or ids at 0; lack = lack })
first_lacking world scale mode placements listed ids at made lack up lt are h = record {
  here = Contains-get_or ids at 0 lt;
  lacks = h;
  lower = λ k below c. (
      let e = earlier ids at (get_or ids at 0) k up lt refl below c in
      let m = made_before world scale mode ids at e.0 made e.1 lt are in
      (m.0, subst (λ n. IsNearElement world scale mode n m.0) e.2 m.1));
}
