-- The model of elements in reach, and the first that isn't.
use Rattle.std.proofs.Common.{ℕ, zero, suc, ◌<◌, ◌≤◌, List, [], ◌∷◌, length, get_or, subst, arith, ◌≡◌, sum_by, Contains, IsPermutation, refl, sym}
use Rattle.std.specs.List.{All, AllZip, Any}
use Rattle.std.specs.List.Sorted.{IsStrictlyIncreasing}
use Rattle.std.proofs.lemmas.Slice.Zip.{AllZip-long}
use Rattle.std.proofs.lemmas.List.Kept.{AllPairs-from_increasing}
use Rattle.std.proofs.lemmas.List.Elements.{Contains-get_or}
use Rattle.std.proofs.lemmas.List.Sorted.{All-permutation, sum_by-IsPermutation}
use Rattle.bim_model.specs.declared.element.Element.{Element}
use Rattle.bim_model.specs.Models.{IsModel, IsModelled, triangle_count, IsInReach}
use Rattle.p21_values.specs.declared.value.Instance.{Instance}
use Rattle.model_build.specs.DuplicateGuids.{HasGuid, NoneRepeats}
use Rattle.model_walk.specs.Checked.{Differ}
use Rattle.model_build.specs.Order.{Rise}
use Rattle.std.proofs.lemmas.List.Sums.{sum_by-cons}
use Rattle.p21_values.proofs.PlaceLemmas.{same_instance}
use Rattle.bim_model.specs.declared.upload.Mode.{Mode}
use Rattle.bim_model.specs.declared.upload.UploadFault.TheVariants as faults
use Rattle.bim_model.specs.declared.geometry.Point.{Point}
use Rattle.bim_model.specs.declared.geometry.Triangle.{Triangle}
use Rattle.bim_model.specs.Boxes.{corners_of}
use Rattle.model_build.specs.declared.judged_file.File.{File}
use Rattle.ifc_schema.specs.Surveys.{IsModelElement, Lists, used_ids, element_ids}
use Rattle.ifc_units.specs.declared.scale.Scale.{Scale}
use Rattle.model_build.specs.StageFaults.{IsClear}
use Rattle.ifc_elements.specs.Finding.{Finds}
use Rattle.ifc_elements.specs.Items.{count_of}
use Rattle.model_build.specs.Triangles.{most_triangles}
use Rattle.ifc_elements.specs.Surfaces.{IsBeyond}
use Rattle.ifc_elements.specs.Elements.{IsElement}
use Rattle.model_build.specs.Profile.{IsModelOf}
use Rattle.model_build.specs.Stages.{ReachStage}
use Rattle.ifc_elements.specs.ElementReadiness.{IsNearElement, IsFirstLacking, LacksAt}
use Rattle.model_build.specs.inner.Outcomes.{IsOpened, AreReady}
use Rattle.ifc_elements.specs.declared.lack.Lacking.{Lacking}
use Rattle.ifc_elements.specs.declared.lack.ElementLack.TheVariants.{Beyond, Unready}
use Rattle.ifc_elements.proofs.OneSurface.{one_surface}
use Rattle.model_build.proofs.ElementsReady.{count_some}

pub zip_at : {A B : Type 0} (R : A → B → Type 0) (xs : List A) (ys : List B) (i : ℕ) (d : A) (e : B) → AllZip R xs ys → i < length xs → R (get_or xs i d) (get_or ys i e)
zip_at R [] ys i d e z lt = absurd (omega arith)
zip_at R (x ∷ xs) [] i d e z lt = absurd z
zip_at R (x ∷ xs) (y ∷ ys) zero d e z lt = z.0
zip_at R (x ∷ xs) (y ∷ ys) (suc i) d e z lt = zip_at R xs ys i d e z.1 (omega arith)

-- what holds of each pair of two lists makes another thing hold of it
pub zip_by : {A B : Type 0} (R Q : A → B → Type 0) (xs : List A) (ys : List B) → ((x : A) (y : B) → R x y → Q x y) → AllZip R xs ys → AllZip Q xs ys
zip_by R Q [] [] f z = z
zip_by R Q [] (y ∷ ys) f z = absurd z
zip_by R Q (x ∷ xs) [] f z = absurd z
zip_by R Q (x ∷ xs) (y ∷ ys) f z = (f x y z.0, zip_by R Q xs ys f z.1)

-- elements with the identifiers of listed instances, none of which repeats one, differ by them
pub made_differ : (world : List Instance) (ids : List ℕ) (made : List Element) → IsStrictlyIncreasing ids → NoneRepeats world ids → AllZip (λ id (e : Element). HasGuid world id e.guid.chars) ids made → Differ made
made_differ world ids made up n z i j d lt within same =
    let m : j < length ids = (let l = AllZip-long (λ id (e : Element). HasGuid world id e.guid.chars) ids made z in omega arith) in
    n (get_or ids j 0) (Contains-get_or ids j 0 m) (record {
      guid = (get_or made j d).guid.chars;
      here = zip_at (λ id (e : Element). HasGuid world id e.guid.chars) ids made j 0 d z m;
      lower = get_or ids i 0;
      below = AllPairs-from_increasing ids up i j 0 lt m;
      of = Contains-get_or ids i 0 (omega arith);
      there = subst (λ g. HasGuid world (get_or ids i 0) g) same (zip_at (λ id (e : Element). HasGuid world id e.guid.chars) ids made i 0 d z (omega arith));
    })

-- a list of elements by rising identifiers is a model where the elements that it was made of are modelled, and not too many triangles
pub is_model : (made elements : List Element) → IsPermutation made elements → Rise elements → All IsModelled made → triangle_count made ≤ 1000000 → IsModel elements
is_model made elements p up all few = record {
  rising = up;
  modelled = All-permutation IsModelled made elements p all;
  few = (let s = sum_by-IsPermutation (λ (e : Element). length e.triangles) made elements p in rw s few);
}

-- an element in reach isn't beyond it
never_beyond : (world : List Instance) (scale : Scale) (mode : Mode) (id : ℕ) (e : Element) → IsNearElement world scale mode id e → Finds world id (IsBeyond world scale mode) → ⊥
never_beyond world scale mode id e near h =
    let b = h.holds in
    let same : near.is_element.instance ≡ h.instance = same_instance world id near.is_element.instance h.instance near.is_element.found h.found in
    let surface = subst (λ i. IsBeyond world scale mode i) (sym same) b in
    let one : surface.triangles ≡ e.triangles = one_surface world scale mode near.is_element.instance surface.triangles e.triangles surface.surface near.is_element.surface in
    none_out (corners_of e.triangles) near.near (subst (λ (ts : List Triangle). Any (λ p. IsInReach p → ⊥) (corners_of ts)) one surface.beyond)
  where
    none_out : (ps : List Point) → All IsInReach ps → Any (λ p. IsInReach p → ⊥) ps → ⊥
    none_out ps all any = any.4 (subst IsInReach any.3 (all any.0 any.1 any.2))

-- each listed number has its element
pub element_there : (world : List Instance) (scale : Scale) (mode : Mode) (ids : List ℕ) (made : List Element) (id : ℕ) → AllZip (IsNearElement world scale mode) ids made → Contains ids id → (e : Element) × IsNearElement world scale mode id e
element_there world scale mode [] made id z c = absurd (let l = c.1 in omega (arith, l))
element_there world scale mode (x ∷ ids) [] id z c = absurd z
element_there world scale mode (x ∷ ids) (e ∷ made) id z (zero, lt, is) = (e, subst (λ n. IsNearElement world scale mode n e) is z.0)
element_there world scale mode (x ∷ ids) (e ∷ made) id z (suc k, lt, is) = element_there world scale mode ids made id z.1 (k, omega (arith, lt), is)

pub reach_clear : (world : List Instance) (scale : Scale) (mode : Mode) (ids : List ℕ) (made : List Element) → Lists (IsModelElement world) ids → AllZip (IsNearElement world scale mode) ids made → IsClear (ReachStage world mode scale)
reach_clear world scale mode ids made ls z fault h =
    let e = element_there world scale mode ids made h.id z (ls.all h.id h.of) in
    never_beyond world scale mode h.id e.0 e.1 h.here.1

pub reach_fault : (world : List Instance) (scale : Scale) (mode : Mode) (placements listed ids : List ℕ) (found : Lacking) → Lists (IsModelElement world) ids → IsFirstLacking world scale mode placements listed ids found → found.lack ≡ Beyond
    → ReachStage world mode scale (faults.TooFar found.id)
reach_fault world scale mode placements listed ids found ls h is = record {
  id = found.id;
  of = ls.each found.id h.here;
  here = (refl, subst (λ lack. LacksAt world scale mode placements listed found.id lack) is h.lacks);
  lower = λ k below of other f. (
      let e = h.lower k below (ls.all k of) in
      never_beyond world scale mode k e.0 e.1 f.1);
}

pub never_unready : (world : List Instance) (scale : Scale) (mode : Mode) (placements listed ids : List ℕ) (found : Lacking) → AreReady world scale mode placements listed ids → IsFirstLacking world scale mode placements listed ids found → found.lack ≡ Unready → ⊥
never_unready world scale mode placements listed ids found ready h is = ready found.id h.here (subst (λ lack. LacksAt world scale mode placements listed found.id lack) is h.lacks)

-- The model.

pub modelled : (world : List Instance) (scale : Scale) (mode : Mode) (ids : List ℕ) (made : List Element) → ((id : ℕ) → Contains ids id → 0 < count_of world id) → AllZip (IsNearElement world scale mode) ids made → All IsModelled made
modelled world scale mode ids made some z k d lt =
    let long = AllZip-long (IsNearElement world scale mode) ids made z in
    let within : k < length ids = omega (arith, lt, long) in
    let near = zip_at (IsNearElement world scale mode) ids made k 0 d z within in
    record { guid = near.guid; some = subst (λ n. 0 < n) (sym near.count) (some (get_or ids k 0) (Contains-get_or ids k 0 within)); near = near.near }

pub counts : (world : List Instance) (scale : Scale) (mode : Mode) (ids : List ℕ) (made : List Element) → AllZip (IsNearElement world scale mode) ids made → triangle_count made ≡ sum_by (count_of world) ids
counts world scale mode [] [] z = refl
counts world scale mode [] (e ∷ made) z = absurd z
counts world scale mode (id ∷ ids) [] z = absurd z
counts world scale mode (id ∷ ids) (e ∷ made) z =
    let more = counts world scale mode ids made z.1 in
    rw (sum_by-cons (count_of world) id ids, sum_by-cons (λ (e : Element). length e.triangles) e made, z.0.count, more) refl

made_rises : (file : File) (made elements : List Element) → IsOpened file → AllZip (IsNearElement file.exchange file.scale file.mode) (element_ids file.survey) made → (Differ made → Rise elements) → Rise elements
made_rises file made elements opened z rise =
    let world = file.exchange in
    let ids = element_ids file.survey in
    let guids = zip_by (IsNearElement world file.scale file.mode) (λ id (e : Element). HasGuid world id e.guid.chars) ids made (λ id e near. record { instance = near.is_element.instance; found = near.is_element.found; holds = near.is_element.guid }) z in
    rise (made_differ world ids made opened.surveyed.elements.rises opened.distinct guids)

pub model_made : (file : File) (made elements : List Element) → IsOpened file → AreReady file.exchange file.scale file.mode file.chains (used_ids file.survey) (element_ids file.survey)
    → sum_by (count_of file.exchange) (element_ids file.survey) ≤ most_triangles → AllZip (IsNearElement file.exchange file.scale file.mode) (element_ids file.survey) made → IsPermutation made elements → (Differ made → Rise elements) → IsModel elements
model_made file made elements opened ready few z order rise =
    let world = file.exchange in
    let ids = element_ids file.survey in
    is_model made elements order (made_rises file made elements opened z rise) (modelled world file.scale file.mode ids made (count_some world file.scale file.mode file.chains (used_ids file.survey) ids ready) z)
    (subst (λ n. n ≤ most_triangles) (sym (counts world file.scale file.mode ids made z)) few)

pub model_is : (file : File) (made elements : List Element) → IsOpened file → AllZip (IsNearElement file.exchange file.scale file.mode) (element_ids file.survey) made → IsPermutation made elements → (Differ made → Rise elements) → IsModelOf file.exchange file.mode elements
model_is file made elements opened z order rise = record {
  scale = file.scale;
  unit = opened.unit;
  ids = element_ids file.survey;
  lists = opened.surveyed.elements;
  made = made;
  each = zip_by (IsNearElement file.exchange file.scale file.mode) (IsElement file.exchange file.scale file.mode) (element_ids file.survey) made (λ id e near. near.is_element) z;
  order = order;
  rising = made_rises file made elements opened z rise;
}
