-- The placements of elements have frames in a file that is measured.
use Rattle.std.proofs.Common.{◌≡◌, ℕ, inl, inr, Bool, true, false, List, Option, Some, None, option_and_then, option_map, Contains, refl, sym, ap, ◌∙◌, subst, if◌then◌else◌}
use Rattle.std.specs.Option.{MatchOption}
use Rattle.std.specs.List.{slice_get}
use Rattle.p21_values.proofs.PlaceLemmas.{same_instance}
use Rattle.bim_model.specs.declared.upload.Mode.{Mode}
use Rattle.bim_model.specs.declared.geometry.Point.{Point}
use Rattle.p21_values.specs.declared.value.Value21.{Value21}
use Rattle.p21_values.specs.declared.value.Instance.{Instance}
use Rattle.ifc_instances.specs.declared.entity.Entity.TheVariants as entity
use Rattle.model_build.specs.declared.judged_file.File.{File}
use Rattle.p21_values.specs.Values.{reference_of, is_absent}
use Rattle.ifc_schema.specs.Surveys.{IsModelElement, element_ids}
use Rattle.ifc_schema.proofs.Listing.{element_used}
use Rattle.ifc_units.specs.declared.scale.Scale.{Scale}
use Rattle.ifc_units.specs.Lengths.{PointRefused}
use Rattle.placement.specs.declared.frame.Frame.{Frame}
use Rattle.placement.specs.Frames.{lengths_of, frame_at}
use Rattle.placement.specs.Chains.{named_by, parent_in, parent_of, Reached}
use Rattle.placement.specs.Chains.Reached.{directly, further}
use Rattle.p21_values.specs.Attributes.{referred_at, reference_at}
use Rattle.placement.specs.Placed.{IsLocation, OwnFrame, LacksFrame}
use Rattle.model_build.specs.Stages.{IsUsed}
use Rattle.model_build.specs.LengthFaults.{told_of}
use Rattle.model_build.specs.NamedPlacements.{IsNamed}
use Rattle.model_build.specs.inner.Outcomes.{IsMeasured}
use Rattle.model_build.proofs.AttributesFormed.{Shaped}
use Rattle.model_build.proofs.UsedFormed.{point_numbers, location_used, parent_used, axes_used, placement_used}
use Rattle.p21_values.proofs.ValueLemmas.{refers_absent}
use Rattle.model_build.proofs.ItemsSupported.{element_is}
use Rattle.model_build.proofs.NumbersReadable.{readable_point}
use Rattle.model_build.proofs.ElementsReady.{Measured, Squared}

-- The placements of chains are used.

same_number : {m n : ℕ} → Some m ≡ Some n → m ≡ n
same_number h = cc

named_used : (world : List Instance) (Of : ℕ → Type 0) (id : ℕ) → Shaped world → ((e : ℕ) → Of e → IsModelElement world e) → IsNamed world Of id → IsUsed entity.Placement world id
named_used world Of id shaped of n =
    let e = of n.element n.of in
    let is = element_is world n.element e in
    let a = placement_used world n.element e.instance shaped (element_used world n.element e) e.found is.0 is.1 in
    let same : n.names.instance ≡ e.instance = same_instance world n.element n.names.instance e.instance n.names.found e.found in
    let there : option_and_then reference_of (Some a.value) ≡ Some id = ap (option_and_then reference_of) (sym a.there) ∙ ap (λ i. reference_at i 5) (sym same) ∙ n.names.holds in
    elim a.holds [
      | inl away ↦ refers_absent a.value id away there
      | inr m ↦ subst (IsUsed entity.Placement world) (same_number (sym m.refers ∙ there)) m.is
    ]

-- a placement's parent is what its attribute refers to
parent_used_too : (world : List Instance) (id parent : ℕ) → Shaped world → IsUsed entity.Placement world id → parent_of world id ≡ Some (Some parent) → IsUsed entity.Placement world parent
parent_used_too world id parent shaped u e =
    let i = u.1.instance in
    let a = parent_used world id i shaped u.0 u.1.found u.1.holds in
    let there : named_by a.value ≡ Some (Some parent) = sym (ap (option_and_then named_by) a.there) ∙ sym (ap (option_and_then parent_in) u.1.found) ∙ e in
    elim a.holds [
      | inl away ↦ absurd (none_named a.value parent away there)
      | inr m ↦ subst (IsUsed entity.Placement world) (same_parent a.value m.to parent m.refers there) m.is
    ]
  where
    none_named : (v : Value21) (p : ℕ) → is_absent v ≡ true → named_by v ≡ Some (Some p) → ⊥
    none_named v p h k = let l = rw h at k in cc

    named : (b : Bool) (o : Option ℕ) (to p : ℕ) → o ≡ Some to → (if b then Some None else option_map Some o) ≡ Some (Some p) → to ≡ p
    named true o to p e h = cc
    named false o to p e h = cc

    same_parent : (v : Value21) (to p : ℕ) → reference_of v ≡ Some to → named_by v ≡ Some (Some p) → to ≡ p
    same_parent v to p e h = named (is_absent v) (reference_of v) to p e h

reached_used : (world : List Instance) (named : List ℕ) (id : ℕ) → Shaped world → ((n : ℕ) → Contains named n → IsUsed entity.Placement world n) → Reached world named id → IsUsed entity.Placement world id
reached_used world named id shaped all (directly _ c) = all id c
reached_used world named parent shaped all (further id _ e r) = parent_used_too world id parent shaped (reached_used world named id shaped all r) e

-- Their own frames.

-- it can't be that a location that is used is none
location_some : (world : List Instance) (scale : Scale) (mode : Mode) (id : ℕ) → Shaped world → Measured world scale mode → IsUsed entity.AxisPlacement world id → ((p : Point) → IsLocation world scale mode id p → ⊥) → ⊥
location_some world scale mode id shaped measured u none =
    let a = location_used world id u.1.instance shaped u.0 u.1.found u.1.holds in
    let n = a.holds in
    let i = n.is.1.instance in
    let b = point_numbers world n.to i shaped n.is.0 n.is.1.found n.is.1.holds in
    readable_point scale mode b.value b.holds
    (λ p is. none p (record {
      to = n.to;
      refers = ap (λ o. option_and_then reference_of (option_and_then (λ (j : Instance). slice_get j.values 0) o)) u.1.found ∙ ap (option_and_then reference_of) a.there ∙ n.refers;
      value = b.value;
      there = ap (option_and_then (λ (j : Instance). slice_get j.values 0)) n.is.1.found ∙ b.there;
      is_point = is;
    }))
    (λ f r. measured n.to n.is.0 (told_of n.to f) (
      f,
      refl,
      record {
        instance = i;
        found = n.is.1.found;
        holds = inl (n.is.1.holds, subst (λ o. MatchOption o ⊥ (λ v. PointRefused scale mode v f)) (sym b.there) r);
      },
    ))

own_some : (world : List Instance) (scale : Scale) (mode : Mode) (id : ℕ) → Shaped world → Measured world scale mode → Squared world → IsUsed entity.Placement world id → ((f : Frame) → OwnFrame world scale mode id f → ⊥) → ⊥
own_some world scale mode id shaped measured square u none =
    let a = axes_used world id u.1.instance shaped u.0 u.1.found u.1.holds in
    let n = a.holds in
    let refers : referred_at world id 1 ≡ Some n.to = ap (λ o. option_and_then reference_of (option_and_then (λ (j : Instance). slice_get j.values 1) o)) u.1.found ∙ ap (option_and_then reference_of) a.there ∙ n.refers in
    location_some world scale mode n.to shaped measured n.is
    (λ p is. square n.to n.is.0 (inl (
      n.is.1,
      λ axes has. none (frame_at axes (lengths_of p)) (record {
        to = n.to;
        refers = refers;
        given = record { axes = axes; has_axes = has; location = p; is_location = is; frame = refl };
      }),
    )))

pub none_lacks : (file : File) → IsMeasured file → LacksFrame file.exchange file.scale file.mode file.chains → ⊥
none_lacks file h l =
    let world = file.exchange in
    let s = h.supported.opened.surveyed in
    let c = h.supported.opened.has_chains in
    let u = reached_used world c.0 l.id s.shaped (λ n k. named_used world (Contains (element_ids file.survey)) n s.shaped s.elements.each (c.1.sound n k)) (c.2.reached l.id l.listed) in
    own_some world file.scale file.mode l.id s.shaped (λ n v f. h.measured n (s.used.all n v) f) (λ n v. h.supported.square n (s.used.all n v)) u l.none
