-- The identifiers of what is read.
use Rattle.std.proofs.Common.{◌≡◌, ◌↔◌, ℕ, ℤ, ◌==◌, nat_le, codes, IfOk, inl, inr, Bool, true, false, true≢false, cond, ◌&&◌, List, ◌∷◌, length, Option, Some, None, IsSome, IfSome, option_map, option_and_then, is_some, Result, Ok, Err, refl, sym, ap}
use Rattle.std.specs.List.{All, list_all}
use Rattle.std.proofs.lemmas.Bool.{cases_Bool, and_parts, eqb-true, eq-eqb}
use Rattle.std.proofs.lemmas.List.Elements.{All-cons, All-nil}
use Rattle.std.proofs.lemmas.Result.{IfOk-at_ok}
use Rattle.serde_json.specs.Data.{Data, Items, no_items, item}
use Rattle.serde_json.specs.Find.{get, as_null, as_str, as_object}
use Rattle.bim_model.specs.Guids.{is_guid_char, IsGuid}
use Rattle.bim_model.specs.declared.guid.Guid.{Guid}
use Rattle.bcf_viewpoints.specs.declared.limits.TheConstants.{MOST_COMPONENTS, MOST_SOURCE}
use Rattle.bcf_viewpoints.specs.declared.component.Component.{Component}
use Rattle.bcf_viewpoints.specs.declared.component.Coloring.{Coloring}
use Rattle.bcf_viewpoints.specs.declared.view.ViewBody.{ViewBody}
use Rattle.bcf_viewpoints.specs.Components.{IsComponent, IsColoring}
use Rattle.bcf_viewpoints.specs.Viewpoints.{IsViewBody}
use Rattle.bcf_bodies.specs.declared.body_fault.BodyFault.{BodyFault}
use Rattle.bcf_bodies.specs.declared.body_fault.BodyFault.TheVariants.{BadMember}
use Rattle.bcf_bodies.specs.declared.body_fault.BodyError.{BodyError}
use Rattle.bcf_bodies.specs.BodyFaults.{IsReadAs}
use Rattle.bcf_bodies.specs.Members.{optional, text_in, index_in, before, all_of, is_table, items_under}
use Rattle.bcf_bodies.specs.ViewBodies.{if_guid, guid_value, guid_in, joined_component, component_in, components_under, color_in, joined_coloring, coloring_in, colorings_under, parts_of, visibility_of, is_shaped, component_count, is_shown, joined_view, view_of_parts, view_body}

-- what is read of a text is the identifier that it is, if it is one
pub read_is : (text : List ℕ) (r : Option Guid) → IsSome r ↔ IsGuid text → IfSome r (λ (g : Guid). g.chars ≡ text) → r ≡ if_guid text
read_is text None iff same = elim (cases_Bool ((length text == 22) && list_all is_guid_char text)) [
  | inl t ↦ (let p = and_parts (length text == 22) (list_all is_guid_char text) t in absurd (true≢false (sym (iff.1 (eqb-true (length text) 22 p.0, p.1)))))
  | inr f ↦ rw f refl
]
read_is text (Some g) iff same =
    let is : IsGuid text = iff.0 refl in
    let made : List ℕ → Option Guid = λ cs. Some (record { chars = cs }) in
    rw (eq-eqb (length text) 22 is.0, is.1) (ap made same)

abbrev IsGuidOf : Guid → Type 0
IsGuidOf g = IsGuid g.chars

by_test : (b : Bool) (text : List ℕ) → (b ≡ true → IsGuid text) → IfSome (cond b (Some (let g : Guid = record { chars = text } in g)) None) IsGuidOf
by_test true text h = h refl
by_test false text h = tt

if_guid_good : (text : List ℕ) → IfSome (if_guid text) IsGuidOf
if_guid_good text =
    by_test ((length text == 22) && list_all is_guid_char text) text
    (λ t. let p = and_parts (length text == 22) (list_all is_guid_char text) t in (eqb-true (length text) 22 p.0, p.1))

value_good : (text : Option (List ℕ)) → IfSome (option_and_then if_guid text) IsGuidOf
value_good None = tt
value_good (Some text) = if_guid_good text

abbrev IsGuidIf : Option Guid → Type 0
IsGuidIf o = IfSome o IsGuidOf

map_good : (o : Option Guid) → IfSome o IsGuidOf → IfSome (option_map (λ g. Some g) o) IsGuidIf
map_good None h = tt
map_good (Some g) h = h

null_good : (b : Bool) (o : Option Guid) → IfSome o IsGuidOf → IfSome (cond b (Some None) (option_map (λ g. Some g) o)) IsGuidIf
null_good true o h = tt
null_good false o h = map_good o h

optional_good : (value : Option Data) → IfSome (optional guid_value value) IsGuidIf
optional_good None = tt
optional_good (Some value) = null_good (is_some (as_null value)) (guid_value value) (value_good (as_str value))

joined_good : (object : Bool) (guid : Option (Option Guid)) (system tool : Option (Option (List ℕ))) → IfSome guid IsGuidIf
    → IfSome (joined_component object guid system tool) IsComponent
unfolding joined_component
joined_good false guid system tool h = tt
joined_good true None system tool h = tt
joined_good true (Some guid) None tool h = tt
joined_good true (Some guid) (Some system) None h = tt
joined_good true (Some guid) (Some system) (Some tool) h = h

component_good : (d : Data) → IfSome (component_in d) IsComponent
unfolding component_in guid_in
component_good d =
    joined_good
    (is_some (as_object d))
    (optional guid_value (get (codes "ifc_guid") d))
    (text_in MOST_SOURCE (codes "originating_system") d)
    (text_in MOST_SOURCE (codes "authoring_tool_id") d)
    (optional_good (get (codes "ifc_guid") d))

cons_good : {A : Type 0} (P : A → Type 0) (a : A) (rest : Option (List A)) → P a → IfSome rest (All P) → IfSome (option_map (λ xs. a ∷ xs) rest) (All P)
cons_good P a None h k = tt
cons_good P a (Some xs) h k = All-cons P a xs h k

before_good : {A : Type 0} (P : A → Type 0) (first : Option A) (rest : Option (List A)) → IfSome first P → IfSome rest (All P) → IfSome (before first rest) (All P)
before_good P None rest h k = tt
before_good P (Some a) rest h k = cons_good P a rest h k

all_good : {A : Type 0} (read : Data → Option A) (P : A → Type 0) → ((d : Data) → IfSome (read d) P) → (items : Items) → IfSome (all_of read items) (All P)
all_good read P h no_items = All-nil P
all_good read P h (item d ds) = before_good P (read d) (all_of read ds) (h d) (all_good read P h ds)

components_good : (name : List ℕ) (d : Data) → IfSome (components_under name d) (All IsComponent)
unfolding components_under
components_good name d = all_good component_in IsComponent component_good (items_under name d)

coloring_joined : (color : Option (List ℕ)) (components : Option (List Component)) → IfSome components (All IsComponent)
    → IfSome (joined_coloring color components) IsColoring
coloring_joined None components h = tt
coloring_joined (Some color) None h = tt
coloring_joined (Some color) (Some components) h = h

coloring_good : (d : Data) → IfSome (coloring_in d) IsColoring
unfolding coloring_in
coloring_good d =
    coloring_joined (color_in d) (components_under (codes "components") d) (components_good (codes "components") d)

colorings_good : (name : List ℕ) (d : Data) → IfSome (colorings_under name d) (All IsColoring)
unfolding colorings_under
colorings_good name d = all_good coloring_in IsColoring coloring_good (items_under name d)

view_joined : (shaped : Bool) (index : Option (Option ℤ)) (fits : Bool) (selection : Option (List Component)) (coloring : Option (List Coloring))
    (exceptions : Option (List Component)) (shown : Bool)
    → IfSome selection (All IsComponent) → IfSome coloring (All IsColoring) → IfSome exceptions (All IsComponent)
    → IfOk (joined_view shaped index fits selection coloring exceptions shown) IsViewBody
unfolding joined_view
view_joined false index fits selection coloring exceptions shown h k m = tt
view_joined true None fits selection coloring exceptions shown h k m = tt
view_joined true (Some index) false selection coloring exceptions shown h k m = tt
view_joined true (Some index) true None coloring exceptions shown h k m = tt
view_joined true (Some index) true (Some selection) None exceptions shown h k m = tt
view_joined true (Some index) true (Some selection) (Some coloring) None shown h k m = tt
view_joined true (Some index) true (Some selection) (Some coloring) (Some exceptions) shown h k m =
    record { selection = h; coloring = k; exceptions = m }

parts_good : (index : Option (Option ℤ)) (parts : Data) → IfOk (view_of_parts index parts) IsViewBody
unfolding view_of_parts
parts_good index parts =
    view_joined
    (is_shaped parts)
    index
    (nat_le (component_count parts) MOST_COMPONENTS)
    (components_under (codes "selection") parts)
    (colorings_under (codes "coloring") parts)
    (components_under (codes "exceptions") (visibility_of parts))
    (is_shown parts)
    (components_good (codes "selection") parts)
    (colorings_good (codes "coloring") parts)
    (components_good (codes "exceptions") (visibility_of parts))

either_good : (b : Bool) (r : Result ViewBody BodyFault) (fault : BodyFault) → IfOk r IsViewBody → IfOk (cond b r (Err fault)) IsViewBody
either_good true r fault h = h
either_good false r fault h = tt

body_good : (tree : Data) → IfOk (view_body tree) IsViewBody
unfolding view_body
body_good tree =
    either_good
    (is_table (codes "components") tree)
    (view_of_parts (index_in tree) (parts_of tree))
    (BadMember (codes "components"))
    (parts_good (index_in tree) (parts_of tree))

-- what is read of a body has identifiers
pub read_good : (tree : Data) (result : Result ViewBody BodyError) → IsReadAs result (view_body tree) → IfOk result IsViewBody
read_good tree (Ok body) e = IfOk-at_ok IsViewBody e (body_good tree)
read_good tree (Err error) e = tt
