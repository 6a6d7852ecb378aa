-- What follows for an attribute of an instance that has no flaw.
use Rattle.std.proofs.Common.{◌≡◌, ℕ, ◌⊎◌, inl, inr, Bool, true, false, if◌then◌else◌, List, length, get_or, Option, Some, None, is_some, Contains, refl, sym, subst}
use Rattle.std.specs.Bool.{MatchBool}
use Rattle.std.specs.Option.{MatchOption}
use Rattle.std.specs.List.{slice_get, All}
use Rattle.std.proofs.lemmas.List.Elements.{All-contains}
use Rattle.p21_values.specs.declared.value.Value21.{Value21}
use Rattle.p21_values.specs.declared.value.Instance.{Instance}
use Rattle.ifc_instances.specs.declared.entity.Entity.{Entity}
use Rattle.ifc_schema.specs.declared.flaw.Flaw.{Flaw}
use Rattle.ifc_schema.specs.declared.flaw.Flaw.TheVariants.{Dangling, BadShape}
use Rattle.ifc_schema.specs.declared.form.Attribute.{Attribute}
use Rattle.ifc_schema.specs.declared.form.Targets.{Targets}
use Rattle.ifc_schema.specs.declared.form.Targets.TheVariants as targets
use Rattle.ifc_schema.specs.declared.form.Leaf.{Leaf}
use Rattle.ifc_schema.specs.declared.form.Leaf.TheVariants as leaf
use Rattle.ifc_schema.specs.declared.form.Count.{Count}
use Rattle.ifc_schema.specs.declared.form.Shape.{Shape}
use Rattle.ifc_schema.specs.declared.form.Need.TheVariants.{Must, OrAbsent}
use Rattle.ifc_schema.specs.declared.form.When.{When}
use Rattle.ifc_schema.specs.AttributeWords.{IsNumber, IsWhole}
use Rattle.ifc_schema.specs.Forms.{fits, holds, followed}
use Rattle.ifc_schema.specs.AttributeTable.{row_of, attribute, row_at, row_or_none}
use Rattle.p21_values.specs.Values.{number_of, reference_of, items_of, is_absent}
use Rattle.p21_values.specs.InstanceLookup.{look}
use Rattle.ifc_instances.specs.EntityLookup.{entity_at, is_a}
use Rattle.ifc_schema.specs.BodyRepresentations.{applies}
use Rattle.ifc_schema.specs.Flaws.{LeafFlaw, NumberFlaw, WholeFlaw, ItemsFlaw, ListFlaw, ShapeFlaw, PlaceFlaw, AttributeFlaw, InstanceFlaw, bad_unless, target_flaw, wanted_flaw, any_flaw, reference_flaw}
use Rattle.ifc_schema.specs.Used.{Used, named, LeadsTo, StandsIn}
use Rattle.ifc_schema.specs.Surveys.{UsedFlaw}
use Rattle.model_build.proofs.OneKeyword.{held_is_a}

-- all that is used has the form of its row
abbrev pub Shaped : List Instance → Type 0
Shaped world = (id : ℕ) → Used world id → UsedFlaw world id None

-- an instance has the form of its row, where it is mapped or where it isn't
pub record Formed (world : List Instance) (i : Instance) : Type 0 where
  pub mapped : Bool
  pub formed : InstanceFlaw world mapped i None

pub formed_there : (world : List Instance) (id : ℕ) (i : Instance) → UsedFlaw world id None → look world id ≡ Some i → Formed world i
formed_there world id i f e =
    let same : f.instance ≡ i = (let g = f.found in cc) in
    record { mapped = f.mapped; formed = subst (λ j. InstanceFlaw world f.mapped j None) same f.flawed }

-- the attribute of that number is there, and it holds of it
pub record At (i : Instance) (at : ℕ) (P : Value21 → Type 0) : Type 0 where
  pub value : Value21
  pub there : slice_get i.values at ≡ Some value
  pub holds : P value

abbrev pub OrAway : (Value21 → Type 0) → Value21 → Type 0
OrAway P v = (is_absent v ≡ true) ⊎ P v

pub in_row : (X : Entity) (i : Instance) (a : Attribute) → entity_at i ≡ Some X → Contains (row_of X) a → Contains (row_at i) a
in_row X i a e c = subst (λ o. Contains (row_or_none o) a) (sym e) c

pub attribute_flaw : (world : List Instance) (m : Bool) (i : Instance) (a : Attribute) → InstanceFlaw world m i None → Contains (row_at i) a → AttributeFlaw world m i a None
attribute_flaw world m i a h c = All-contains (λ (b : Attribute). AttributeFlaw world m i b None) (row_at i) a h c

must_value : (world : List Instance) (at : ℕ) (w : When) (s : Shape) (l : Leaf) (o : Option Value21) → PlaceFlaw world (attribute at w Must s l) o None → (v : Value21) × (o ≡ Some v) × ShapeFlaw world l s v None
must_value world at w s l None h = cc
must_value world at w s l (Some v) h = (v, refl, h)

abbrev no_flaw : Option Flaw
no_flaw = None

or_split : (b : Bool) (A : Type 0) → MatchBool b (no_flaw ≡ None) A → (b ≡ true) ⊎ A
or_split true A h = inl refl
or_split false A h = inr h

absent_value : (world : List Instance) (at : ℕ) (w : When) (s : Shape) (l : Leaf) (o : Option Value21) → PlaceFlaw world (attribute at w OrAbsent s l) o None
    → (v : Value21) × (o ≡ Some v) × ((is_absent v ≡ true) ⊎ ShapeFlaw world l s v None)
absent_value world at w s l None h = cc
absent_value world at w s l (Some v) h = (v, refl, or_split (is_absent v) (ShapeFlaw world l s v None) h)

applied : (b : Bool) (A B : Type 0) → b ≡ true → MatchBool b A B → A
applied true A B e h = h
applied false A B e h = cc

-- an attribute that must be there is there, and has its shape
pub must_at : (world : List Instance) (m : Bool) (i : Instance) (at : ℕ) (w : When) (s : Shape) (l : Leaf) → applies world m i w ≡ true → AttributeFlaw world m i (attribute at w Must s l) None → At i at (λ v. ShapeFlaw world l s v None)
must_at world m i at w s l e h =
    let t = must_value world at w s l (slice_get i.values at) (applied (applies world m i w) (PlaceFlaw world (attribute at w Must s l) (slice_get i.values at) None) (no_flaw ≡ None) e h) in
    record { value = t.0; there = t.1; holds = t.2 }

pub absent_at : (world : List Instance) (m : Bool) (i : Instance) (at : ℕ) (w : When) (s : Shape) (l : Leaf) → applies world m i w ≡ true → AttributeFlaw world m i (attribute at w OrAbsent s l) None → At i at (OrAway (λ v. ShapeFlaw world l s v None))
absent_at world m i at w s l e h =
    let t = absent_value world at w s l (slice_get i.values at) (applied (applies world m i w) (PlaceFlaw world (attribute at w OrAbsent s l) (slice_get i.values at) None) (no_flaw ≡ None) e h) in
    record { value = t.0; there = t.1; holds = t.2 }

pub at_more : (i : Instance) (at : ℕ) (P Q : Value21 → Type 0) → ((v : Value21) → P v → Q v) → At i at P → At i at Q
at_more i at P Q f h = record { value = h.value; there = h.there; holds = f h.value h.holds }

-- Leaves.

-- a value is a number that is read
pub record SpellsNumber (v : Value21) : Type 0 where
  pub bytes : List ℕ
  pub number : number_of v ≡ Some bytes
  pub reads : IsNumber bytes

-- it is one whose value is whole
pub record SpellsWhole (v : Value21) : Type 0 where
  pub bytes : List ℕ
  pub number : number_of v ≡ Some bytes
  pub reads : IsWhole bytes

-- it refers to an instance
pub record Refers (world : List Instance) (v : Value21) : Type 0 where
  pub to : ℕ
  pub refers : reference_of v ≡ Some to
  pub target : Instance
  pub found : look world to ≡ Some target

-- it refers to an instance of that entity
pub record RefersToA (world : List Instance) (X : Entity) (v : Value21) : Type 0 where
  pub to : ℕ
  pub refers : reference_of v ≡ Some to
  pub target : Instance
  pub found : look world to ≡ Some target
  pub is : is_a X target ≡ true

pub number_spelled : (world : List Instance) (v : Value21) → LeafFlaw world leaf.Number v None → SpellsNumber v
number_spelled world v h = from v (number_of v) refl h
  where
    from : (v : Value21) (o : Option (List ℕ)) → number_of v ≡ o → MatchOption o (None ≡ Some BadShape) (λ bs. NumberFlaw bs None) → SpellsNumber v
    from v None e h = cc
    from v (Some bs) e h = record { bytes = bs; number = e; reads = h }

pub whole_spelled : (world : List Instance) (v : Value21) → LeafFlaw world leaf.Whole v None → SpellsWhole v
whole_spelled world v h = from v (number_of v) refl h
  where
    from : (v : Value21) (o : Option (List ℕ)) → number_of v ≡ o → MatchOption o (None ≡ Some BadShape) (λ bs. WholeFlaw bs None) → SpellsWhole v
    from v None e h = cc
    from v (Some bs) e h = record { bytes = bs; number = e; reads = h }

good : (b : Bool) → None ≡ bad_unless b → b ≡ true
good true h = refl
good false h = cc

pub referred : (world : List Instance) (X : Entity) (v : Value21) → LeafFlaw world (leaf.Reference (targets.One X)) v None → RefersToA world X v
referred world X v h = from world X v (reference_of v) refl h
  where
    led : (world : List Instance) (X : Entity) (v : Value21) (to : ℕ) (o : Option Instance) → reference_of v ≡ Some to → look world to ≡ o → None ≡ target_flaw (targets.One X) to o → RefersToA world X v
    led world X v to None e f h = cc
    led world X v to (Some i) e f h = record { to = to; refers = e; target = i; found = f; is = held_is_a X i (good (holds (targets.One X) i.keyword) h) }

    from : (world : List Instance) (X : Entity) (v : Value21) (o : Option ℕ) → reference_of v ≡ o → None ≡ reference_flaw (wanted_flaw (targets.One X) world) o → RefersToA world X v
    from world X v None e h = cc
    from world X v (Some to) e h = led world X v to (look world to) e refl h

pub referred_any : (world : List Instance) (t : Targets) (v : Value21) → LeafFlaw world (leaf.AnyReference t) v None → Refers world v
referred_any world t v h = from world v (reference_of v) refl h
  where
    led : (world : List Instance) (v : Value21) (to : ℕ) (o : Option Instance) → reference_of v ≡ Some to → look world to ≡ o → None ≡ (if is_some o then None else Some (Dangling to)) → Refers world v
    led world v to None e f h = cc
    led world v to (Some i) e f h = record { to = to; refers = e; target = i; found = f }

    from : (world : List Instance) (v : Value21) (o : Option ℕ) → reference_of v ≡ o → None ≡ reference_flaw (any_flaw world) o → Refers world v
    from world v None e h = cc
    from world v (Some to) e h = led world v to (look world to) e refl h

-- Lists.

-- a value is a list of so many values, and it holds of each
pub record ListOf (count : Count) (P : Value21 → Type 0) (v : Value21) : Type 0 where
  pub values : List Value21
  pub items : items_of v ≡ Some values
  pub many : fits count (length values) ≡ true
  pub each : All P values

pub list_there : (count : Count) (F : Value21 → Option Flaw → Type 0) (v : Value21) → ListFlaw count F v None → ListOf count (λ x. F x None) v
list_there count F v h = from count F v (items_of v) refl h
  where
    split : (b : Bool) (A : Type 0) → MatchBool b A (None ≡ Some BadShape) → (b ≡ true) × A
    split true A h = (refl, h)
    split false A h = cc

    from : (count : Count) (F : Value21 → Option Flaw → Type 0) (v : Value21) (o : Option (List Value21)) → items_of v ≡ o → MatchOption o (None ≡ Some BadShape) (λ vs. ItemsFlaw count F vs None) → ListOf count (λ x. F x None) v
    from count F v None e h = cc
    from count F v (Some vs) e h = let s = split (fits count (length vs)) (All (λ x. F x None) vs) h in record { values = vs; items = e; many = s.0; each = s.1 }

pub list_more : (count : Count) (P Q : Value21 → Type 0) → ((v : Value21) → P v → Q v) → (v : Value21) → ListOf count P v → ListOf count Q v
list_more count P Q f v h = record { values = h.values; items = h.items; many = h.many; each = λ k d lt. f (get_or h.values k d) (h.each k d lt) }

-- Following.

pub follows : (world : List Instance) (from to : ℕ) (i : Instance) (a : Attribute) (v : Value21) → Used world from → look world from ≡ Some i → Contains (row_at i) a → applies world false i a.when ≡ true
    → slice_get i.values a.at ≡ Some v → StandsIn to a.shape v → LeadsTo world (followed a.leaf) to → Used world to
follows world from to i a v u e c w t s l = named from to i u e (record { attribute = a; listed = c; names = record { applied = w; value = v; there = t; stands = s; leads = l } })
