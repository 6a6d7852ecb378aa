-- The first of rising numbers whose lengths have a fault, as the points of a table tell it.
use Rattle.std.proofs.Common.{◌≡◌, ℕ, ◌+◌, ◌<◌, ◌≤◌, inl, inr, List, [], get_or, Option, Some, None, sym, ap, ◌∙◌, subst, length, Contains, refl, arith}
use Rattle.std.specs.Option.{MatchOption, unwrap_or, option_and_then}
use Rattle.std.specs.List.{slice_get}
use Rattle.bim_model.specs.declared.upload.Mode.{Mode}
use Rattle.bim_model.specs.declared.geometry.Point.{Point}
use Rattle.p21_values.specs.declared.value.Value21.{Value21}
use Rattle.p21_values.specs.declared.value.Instance.{Instance}
use Rattle.p21_values.specs.Values.{items_of}
use Rattle.p21_values.specs.InstanceLookup.{look}
use Rattle.p21_values.specs.InstancePlaces.{IsPlaceOf}
use Rattle.p21_values.proofs.PlaceLemmas.{found_at, same_instance}
use Rattle.ifc_units.specs.declared.scale.Scale.{Scale}
use Rattle.ifc_units.specs.declared.length_error.GridFault.{GridFault}
use Rattle.ifc_units.specs.Lengths.{ArePoints, PointsRefused, ListRefused, InstanceRefused}
use Rattle.ifc_units.proofs.PointFacts.{points_apart}
use Rattle.ifc_units.proofs.InstanceFacts.{not_both}
use Rattle.p21_values.specs.Attributes.{listed}
use Rattle.ifc_elements.specs.PointTables.{IsListOf, Tabled, IsTable, kept_at}
use Rattle.model_build.specs.LengthFaults.{Refuses}
use Rattle.ifc_elements.proofs.TablesOfPoints.{at_place}
use Rattle.std.specs.List.Sorted.{IsStrictlyIncreasing}
use Rattle.std.proofs.lemmas.List.{get_or_default}
use Rattle.std.proofs.lemmas.Option.{get_or_from_slice_get}
use Rattle.std.proofs.lemmas.List.Elements.{Contains-get_or}
use Rattle.bim_model.specs.declared.upload.UploadFault.{UploadFault}
use Rattle.ifc_instances.proofs.Rising.{earlier, below_next}
use Rattle.model_build.specs.StageFaults.{LeastFault}

-- a list of points on the grid has no fault

items_apart : (scale : Scale) (mode : Mode) (o : Option (List Value21)) (points : List Point) (f : GridFault)
    → ArePoints scale mode (unwrap_or o []) points → MatchOption o ⊥ (λ vs. PointsRefused scale mode vs f) → ⊥
items_apart scale mode None points f h k = k
items_apart scale mode (Some vs) points f h k = points_apart scale mode vs points f h k

list_apart : (scale : Scale) (mode : Mode) (o : Option Value21) (points : List Point) (f : GridFault)
    → ArePoints scale mode (unwrap_or (option_and_then items_of o) []) points → MatchOption o ⊥ (λ v. ListRefused scale mode v f) → ⊥
list_apart scale mode None points f h k = k
list_apart scale mode (Some v) points f h k = items_apart scale mode (items_of v) points f h k

pub kept_apart : (scale : Scale) (mode : Mode) (i : Instance) (points : List Point) (f : GridFault) → IsListOf scale mode i points → InstanceRefused scale mode i f → ⊥
unfolding listed
kept_apart scale mode i points f h (inl k) = not_both i k.0 h.kind
kept_apart scale mode i points f h (inr k) = list_apart scale mode (slice_get i.values 0) points f h.are k.1

-- the fault of an instance is that of its number
pub fault_told : (world : List Instance) (scale : Scale) (mode : Mode) (id : ℕ) (i : Instance) (r : Option GridFault) → look world id ≡ Some i
    → MatchOption r ((refused : GridFault) → InstanceRefused scale mode i refused → ⊥) (InstanceRefused scale mode i)
    → MatchOption r ((refused : GridFault) → Refuses world scale mode id refused → ⊥) (Refuses world scale mode id)
fault_told world scale mode id i None found h = λ f l. h f (subst (λ j. InstanceRefused scale mode j f) (same_instance world id l.instance i l.found found) l.holds)
fault_told world scale mode id i (Some f) found h = record { instance = i; found = found; holds = h }

-- the instance at the place of a number
pub found_there : (world : List Instance) (id at : ℕ) (i : Instance) → IsPlaceOf world id at → slice_get world at ≡ Some i → look world id ≡ Some i
found_there world id at i p is = found_at world id at i p ∙ ap Some (get_or_from_slice_get world at i i is)

pub tabled_there : (world : List Instance) (table : List (Option (List Point))) (scale : Scale) (mode : Mode) (id at : ℕ) (i : Instance) (kept : Option (List Point)) → IsPlaceOf world id at → IsTable world scale mode table
    → slice_get world at ≡ Some i → kept ≡ kept_at table at → Tabled scale mode i kept
tabled_there world table scale mode id at i kept p h is keeps =
    subst (λ o. Tabled scale mode i o) (sym keeps) (subst (λ j. Tabled scale mode j (kept_at table at)) (get_or_from_slice_get world at i i is) (at_place world table scale mode id at i p h))

-- the first ones have no fault
abbrev pub NoneBefore : (ℕ → UploadFault → Type 0) → List ℕ → ℕ → Type 0
NoneBefore FaultOf ids at = (k : ℕ) → k < at → (fault : UploadFault) → FaultOf (get_or ids k 0) fault → ⊥

pub least_here : (FaultOf : ℕ → UploadFault → Type 0) (ids : List ℕ) (at : ℕ) (fault : UploadFault) → IsStrictlyIncreasing ids → at < length ids → NoneBefore FaultOf ids at → FaultOf (get_or ids at 0) fault
    → LeastFault (Contains ids) FaultOf fault
least_here FaultOf ids at fault up lt none h =
    let id = get_or ids at 0 in
    record {
      id = id;
      of = Contains-get_or ids at 0 lt;
      here = h;
      lower = λ k below listed other f. (
          let e = earlier ids at id k up lt refl below listed in
          none e.0 e.1 other (subst (λ n. FaultOf n other) (sym e.2) f));
    }

pub none_more : (FaultOf : ℕ → UploadFault → Type 0) (ids : List ℕ) (at : ℕ) → NoneBefore FaultOf ids at → ((fault : UploadFault) → FaultOf (get_or ids at 0) fault → ⊥) → NoneBefore FaultOf ids (at + 1)
none_more FaultOf ids at none never = λ k l fault f. elim (below_next k at l) [
  | inl b ↦ none k b fault f
  | inr e ↦ never fault (subst (λ n. FaultOf n fault) (ap (λ n. get_or ids n 0) e) f)
]

pub none_at_all : (FaultOf : ℕ → UploadFault → Type 0) (ids : List ℕ) (at : ℕ) → length ids ≤ at → NoneBefore FaultOf ids at → (id : ℕ) → Contains ids id → (fault : UploadFault) → FaultOf id fault → ⊥
none_at_all FaultOf ids at all none id c fault f =
    let there : get_or ids c.0 0 ≡ id = get_or_default ids c.0 0 id c.1 ∙ c.2 in
    none c.0 (omega (arith, all, c.1)) fault (subst (λ n. FaultOf n fault) (sym there) f)
