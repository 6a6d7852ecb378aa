use Rattle.std.proofs.Common.{◌≡◌, ℕ, Bool, false, List, map, get_or, Some, option_and_then, sym, ap, ◌∙◌}
use Rattle.std.proofs.lemmas.List.{get_or-map}
use Rattle.p21_values.specs.declared.value.Value21.{Value21}
use Rattle.p21_values.specs.declared.value.Instance.{Instance}
use Rattle.p21_values.specs.InstancePlaces.{IsPlaceOf}
use Rattle.p21_values.specs.Values.{reference_of}
use Rattle.p21_values.specs.InstanceLookup.{look}
use Rattle.ifc_instances.specs.EntityLookup.{some_passes}
use Rattle.ifc_schema.specs.BodyRepresentations.{target_passes}
use Rattle.p21_values.proofs.PlaceLemmas.{some_instance, found_at}
use Rattle.ifc_schema.proofs.body.target_passes.Goals as goal

passes_there : (world : List Instance) (test : Instance → Bool) (answers : List Bool) (v : Value21) (id at : ℕ) → answers ≡ map test world → reference_of v ≡ Some id → IsPlaceOf world id at
    → get_or answers at false ≡ target_passes world test v
passes_there world test answers v id at e r p =
    let a : get_or answers at false ≡ test (get_or world at some_instance) = ap (λ (l : List Bool). get_or l at false) e ∙ get_or-map test world at some_instance false p.within in
    let b : option_and_then (look world) (reference_of v) ≡ Some (get_or world at some_instance) = ap (option_and_then (look world)) r ∙ found_at world id at some_instance p in
    a ∙ sym (ap (some_passes test) b)

pub returns-in-Some-place_of : goal.returns-in-Some-place_of
returns-in-Some-place_of c = λ test e. passes_there c.args.exchange.now test c.args.answers.now c.args.value.now c.in-Some.id c.in-Some-place_of.at e (sym c.reference.ensures ∙ c.in-Some.is) c.in-Some-place_of.ensures
