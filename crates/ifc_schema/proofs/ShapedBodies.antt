-- An element that has a body refers to a product shape, as its attribute for the shape wants it.
use Rattle.std.proofs.Common.{◌≡◌, ℕ, Bool, true, false, ◌||◌, List, Option, Some, None, option_and_then, refl, sym, subst}
use Rattle.std.specs.Bool.{MatchBool}
use Rattle.std.specs.List.{slice_get}
use Rattle.std.proofs.lemmas.Bool.{and_parts}
use Rattle.p21_values.specs.declared.value.Value21.{Value21}
use Rattle.p21_values.specs.declared.value.Instance.{Instance}
use Rattle.p21_values.specs.Values.{reference_of, items_of}
use Rattle.p21_values.specs.InstanceLookup.{look}
use Rattle.ifc_instances.specs.declared.entity.Entity.{Entity}
use Rattle.ifc_instances.specs.declared.entity.Entity.TheVariants as entity
use Rattle.ifc_instances.specs.EntityLookup.{is_a, is_keyword_of, some_passes}
use Rattle.ifc_schema.specs.declared.flaw.Flaw.{Flaw}
use Rattle.ifc_schema.specs.declared.form.Targets.{Targets}
use Rattle.ifc_schema.specs.declared.form.Targets.TheVariants as targets
use Rattle.ifc_schema.specs.Forms.{holds}
use Rattle.ifc_schema.specs.BodyRepresentations.{has_body, is_body_shape, lists_body, target_passes}
use Rattle.ifc_schema.specs.Flaws.{AttributeFlaw, PlaceFlaw, absent_stands, bad_unless, reference_flaw, target_flaw, wanted_flaw}
use Rattle.ifc_schema.proofs.ElementRows.{shaped}

abbrev no_flaw : Option Flaw
no_flaw = None

abbrev product_shape : Targets
product_shape = targets.One entity.ProductShape

either : (b : Bool) (A B : Type 0) → A → B → MatchBool b A B
either true A B a b = a
either false A B a b = b

keyword_meant : (e : Entity) (k : Option (List ℕ)) → is_keyword_of e k ≡ true → holds (targets.One e) k ≡ true
keyword_meant e None h = h
keyword_meant e (Some k) h = subst (λ (b : Bool). (b || false) ≡ true) (sym h) refl

-- a product shape is what is wanted
shape_meant : (world : List Instance) (i : Instance) → is_body_shape world i ≡ true → holds product_shape i.keyword ≡ true
unfolding is_body_shape
shape_meant world i h =
    keyword_meant entity.ProductShape i.keyword (and_parts (is_a entity.ProductShape i) (some_passes (lists_body world) (option_and_then items_of (slice_get i.values 2))) h).0

target_sound : (world : List Instance) (to : ℕ) (o : Option Instance) → some_passes (is_body_shape world) o ≡ true → no_flaw ≡ target_flaw product_shape to o
target_sound world to None h = cc
target_sound world to (Some i) h = subst (λ (b : Bool). no_flaw ≡ bad_unless b) (sym (shape_meant world i h)) refl

reference_sound : (world : List Instance) (o : Option ℕ) → some_passes (is_body_shape world) (option_and_then (look world) o) ≡ true
    → no_flaw ≡ reference_flaw (wanted_flaw product_shape world) o
reference_sound world None h = cc
reference_sound world (Some to) h = target_sound world to (look world to) h

place_sound : (world : List Instance) (o : Option Value21) → some_passes (target_passes world (is_body_shape world)) o ≡ true → PlaceFlaw world shaped o None
place_sound world None h = cc
place_sound world (Some v) h =
    either (absent_stands shaped.need v) (no_flaw ≡ None) (no_flaw ≡ reference_flaw (wanted_flaw product_shape world) (reference_of v)) refl (reference_sound world (reference_of v) h)

-- the attribute for the shape of an element that has a body has no flaw
pub bodied_shaped : (world : List Instance) (m : Bool) (i : Instance) → has_body world i ≡ true → AttributeFlaw world m i shaped None
unfolding has_body
bodied_shaped world m i h = place_sound world (slice_get i.values 6) h
