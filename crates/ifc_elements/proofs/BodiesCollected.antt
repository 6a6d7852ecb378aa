-- The bodies that values refer to, collected value by value.
use Rattle.std.proofs.Common.{◌≡◌, List, [], ◌∷◌, ◌++◌, map, filter, Option, Some, sym, ap, ◌∙◌}
use Rattle.std.proofs.lemmas.List.{map-append}
use Rattle.std.proofs.lemmas.List.Elements.{filter-append}
use Rattle.p21_values.specs.declared.value.Value21.{Value21}
use Rattle.p21_values.specs.declared.value.Instance.{Instance}
use Rattle.ifc_schema.specs.BodyRepresentations.{is_body_representation}
use Rattle.ifc_instances.proofs.LedTo.{led_append}
use Rattle.p21_values.specs.Attributes.{led_to}
use Rattle.ifc_elements.specs.Items.{bodies_among}

among_append : (world : List Instance) (xs ys : List Value21) → bodies_among world (xs ++ ys) ≡ bodies_among world xs ++ bodies_among world ys
among_append world xs ys = ap (filter is_body_representation) (led_append world xs ys) ∙ filter-append is_body_representation (led_to world xs) (led_to world ys)

pub bodies_more : (world : List Instance) (given : List Value21) (v : Value21) (old new : List (Option Instance)) → old ≡ map Some (bodies_among world given)
    → new ≡ old ++ map Some (bodies_among world (v ∷ [])) → new ≡ map Some (bodies_among world (given ++ v ∷ []))
bodies_more world given v old new e n =
    let joined : map Some (bodies_among world (given ++ v ∷ [])) ≡ map Some (bodies_among world given) ++ map Some (bodies_among world (v ∷ [])) =
    ap (map Some) (among_append world given (v ∷ [])) ∙ map-append Some (bodies_among world given) (bodies_among world (v ∷ [])) in
    n ∙ ap (λ xs. xs ++ map Some (bodies_among world (v ∷ []))) e ∙ sym joined
