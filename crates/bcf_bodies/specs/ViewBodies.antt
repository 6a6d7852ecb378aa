-- The body of a viewpoint, as far as it is kept (BCF API 3.0, Viewpoint Services).
use Rattle.std.specs.Prelude.{ℕ, ◌+◌, ℤ, ◌==◌, nat_le, List, [], ◌∷◌, length, codes}
use Rattle.std.specs.Prelude.{Bool, true, false, ◌&&◌, ◌||◌, cond, Result, Ok, Err}
use Rattle.std.specs.Prelude.{Option, Some, None, option_and_then, is_some}
use Rattle.std.specs.Option.{unwrap_or}
use Rattle.std.specs.List.{list_all}
use Rattle.std.specs.Char.{is_ascii_hexdigit}
use Rattle.serde_json.specs.Data.{Data, null, Items, no_items, item}
use Rattle.serde_json.specs.Find.{get, as_bool, as_str, as_object}
use Rattle.serde_json.specs.Events.{items_len}
use Rattle.bim_model.specs.Guids.{is_guid_char}
use Rattle.bim_model.specs.declared.guid.Guid.{Guid}
use Rattle.bcf_viewpoints.specs.declared.limits.TheConstants.{MOST_COMPONENTS, MOST_SOURCE}
use Rattle.bcf_viewpoints.specs.declared.component.Component.{Component}
use Rattle.bcf_viewpoints.specs.declared.component.Coloring.{Coloring}
use Rattle.bcf_viewpoints.specs.declared.view.ViewBody.{ViewBody}
use Rattle.bcf_bodies.specs.declared.body_fault.BodyFault.{BodyFault}
use Rattle.bcf_bodies.specs.declared.body_fault.BodyFault.TheVariants.{BadMember, BadComponent}
use Rattle.bcf_bodies.specs.Members.{optional, text_in, index_in, all_of, all_are}
use Rattle.bcf_bodies.specs.Members.{is_list, is_table, is_flag, items_under}

-- 22 characters of an identifier
abbrev pub if_guid : List ℕ → Option Guid
if_guid text = cond ((length text == 22) && list_all is_guid_char text) (Some (record { chars = text })) None

-- the same, of data that are a text
abbrev pub guid_value : Data → Option Guid
guid_value value = option_and_then if_guid (as_str value)

-- the member `ifc_guid`
unfoldable pub guid_in : Data → Option (Option Guid)
guid_in component = optional guid_value (get (codes "ifc_guid") component)

-- a component of its members, each none where it is bad
unfoldable pub joined_component :
    Bool → Option (Option Guid) → Option (Option (List ℕ)) → Option (Option (List ℕ)) → Option Component
joined_component false _ _ _ = None
joined_component true None _ _ = None
joined_component true (Some guid) None _ = None
joined_component true (Some guid) (Some system) None = None
joined_component true (Some guid) (Some system) (Some tool) =
    Some (record { ifc_guid = guid; originating_system = system; authoring_tool_id = tool })

-- a component, none where it is no object or a member of it is bad
unfoldable pub component_in : Data → Option Component
component_in component =
    joined_component
    (is_some (as_object component))
    (guid_in component)
    (text_in MOST_SOURCE (codes "originating_system") component)
    (text_in MOST_SOURCE (codes "authoring_tool_id") component)

-- the components under that name
unfoldable pub components_under : List ℕ → Data → Option (List Component)
components_under name tree = all_of component_in (items_under name tree)

-- without a number sign (35) at its front
abbrev pub after_sign : List ℕ → List ℕ
after_sign [] = []
after_sign (c ∷ rest) = cond (c == 35) rest (c ∷ rest)

-- 6 or 8 hexadecimal digits, after a number sign or without one
unfoldable pub is_color : List ℕ → Bool
is_color text =
    let digits = after_sign text in
    ((length digits == 6) || (length digits == 8)) && list_all is_ascii_hexdigit digits

-- such a text, as it is
abbrev pub if_color : List ℕ → Option (List ℕ)
if_color text = cond (is_color text) (Some text) None

-- the member `color`, which must be there
unfoldable pub color_in : Data → Option (List ℕ)
color_in coloring = option_and_then if_color (option_and_then as_str (get (codes "color") coloring))

-- a coloring is good but for its components: it has a color, which an object alone can
unfoldable pub is_coloring : Data → Bool
is_coloring coloring = is_some (color_in coloring) && is_list (codes "components") coloring

-- a coloring of its color and its components
abbrev pub joined_coloring : Option (List ℕ) → Option (List Component) → Option Coloring
joined_coloring None _ = None
joined_coloring (Some color) None = None
joined_coloring (Some color) (Some components) = Some (record { color = color; components = components })

-- a coloring, none where its color or one of its components is bad
unfoldable pub coloring_in : Data → Option Coloring
coloring_in coloring = joined_coloring (color_in coloring) (components_under (codes "components") coloring)

-- the colorings under that name
unfoldable pub colorings_under : List ℕ → Data → Option (List Coloring)
colorings_under name tree = all_of coloring_in (items_under name tree)

-- what a body says of components, null where it says nothing
abbrev pub parts_of : Data → Data
parts_of tree = unwrap_or (get (codes "components") tree) null

-- what it says of visibility
abbrev pub visibility_of : Data → Data
visibility_of parts = unwrap_or (get (codes "visibility") parts) null

-- what stands under a body's `components` is good but for the components themselves
unfoldable pub is_shaped : Data → Bool
is_shaped parts =
    is_list (codes "selection") parts
    && is_list (codes "coloring") parts
    && all_are is_coloring (items_under (codes "coloring") parts)
    && is_table (codes "visibility") parts
    && (is_flag (codes "default_visibility") (visibility_of parts)
    && is_list (codes "exceptions") (visibility_of parts))

-- how many components the colorings have together
abbrev pub colored_count : Items → ℕ
colored_count no_items = 0
colored_count (item d ds) = items_len (items_under (codes "components") d) + colored_count ds

-- how many components there are
unfoldable pub component_count : Data → ℕ
component_count parts =
    items_len (items_under (codes "selection") parts)
    + items_len (items_under (codes "exceptions") (visibility_of parts))
    + colored_count (items_under (codes "coloring") parts)

-- whether components are shown: not, unless it is told
unfoldable pub is_shown : Data → Bool
is_shown parts =
    unwrap_or (option_and_then as_bool (get (codes "default_visibility") (visibility_of parts))) false

-- the viewpoint of its parts: first the shape decides, then the index, then the components
unfoldable pub joined_view :
    Bool → Option (Option ℤ) → Bool → Option (List Component) → Option (List Coloring)
    → Option (List Component) → Bool → Result ViewBody BodyFault
joined_view false _ _ _ _ _ _ = Err (BadMember (codes "components"))
joined_view true None _ _ _ _ _ = Err (BadMember (codes "index"))
joined_view true (Some index) false _ _ _ _ = Err BadComponent
joined_view true (Some index) true None _ _ _ = Err BadComponent
joined_view true (Some index) true (Some selection) None _ _ = Err BadComponent
joined_view true (Some index) true (Some selection) (Some coloring) None _ = Err BadComponent
joined_view true (Some index) true (Some selection) (Some coloring) (Some exceptions) shown = Ok (record {
  index = index;
  selection = selection;
  coloring = coloring;
  default_visibility = shown;
  exceptions = exceptions;
})

-- what the parts of a body make with its index
unfoldable pub view_of_parts : Option (Option ℤ) → Data → Result ViewBody BodyFault
view_of_parts index parts =
    joined_view
    (is_shaped parts)
    index
    (nat_le (component_count parts) MOST_COMPONENTS)
    (components_under (codes "selection") parts)
    (colorings_under (codes "coloring") parts)
    (components_under (codes "exceptions") (visibility_of parts))
    (is_shown parts)

-- the viewpoint that a body asks for, or its first fault; its `components` are an object, if they are there
unfoldable pub view_body : Data → Result ViewBody BodyFault
view_body tree =
    cond (is_table (codes "components") tree)
    (view_of_parts (index_in tree) (parts_of tree))
    (Err (BadMember (codes "components")))
