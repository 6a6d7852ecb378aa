-- Viewpoints that go out (BCF API 3.0, Viewpoint Services), as JSON data.
use Rattle.std.specs.Prelude.{ℕ, List, Option, option_map, codes}
use Rattle.serde_json.specs.Data.{Data, boolean, array, object, no_members, put}
use Rattle.bim_model.specs.declared.guid.Guid.{Guid}
use Rattle.bcf_json.specs.JsonTexts.{identifier_text}
use Rattle.bcf_viewpoints.specs.declared.component.Component.{Component}
use Rattle.bcf_viewpoints.specs.declared.component.Coloring.{Coloring}
use Rattle.bcf_viewpoints.specs.declared.view.ViewBody.{ViewBody}
use Rattle.bcf_viewpoints.specs.declared.view.ViewIs.{ViewIs}
use Rattle.bcf_viewpoints.specs.declared.part.ViewPart.{ViewPart}
use Rattle.bcf_viewpoints.specs.declared.part.ViewPart.TheVariants as part
use Rattle.bcf_bodies.specs.TextMembers.{put_text, put_text_if, listed}
use Rattle.bcf_bodies.specs.TopicTrees.{put_index}

-- the characters of an identifier
abbrev pub guid_text : Option Guid → Option (List ℕ)
guid_text guid = option_map (λ (g : Guid). g.chars) guid

-- a component, with the members that it has
unfoldable pub component_tree : Component → Data
component_tree c =
    object (put_text_if (codes "authoring_tool_id") c.authoring_tool_id
    (put_text_if (codes "ifc_guid") (guid_text c.ifc_guid)
    (put_text_if (codes "originating_system") c.originating_system no_members)))

-- components as an array
abbrev pub components_tree : List Component → Data
components_tree components = array (listed component_tree components)

-- a coloring
unfoldable pub coloring_tree : Coloring → Data
coloring_tree c =
    object (put_text (codes "color") c.color
    (put (codes "components") (components_tree c.components) no_members))

-- whether components are shown, and which are not so
unfoldable pub visibility_tree : ViewBody → Data
visibility_tree body =
    object (put (codes "default_visibility") (boolean body.default_visibility)
    (put (codes "exceptions") (components_tree body.exceptions) no_members))

-- a part of a viewpoint as an object's one member
unfoldable pub one_member : List ℕ → Data → Data
one_member name value = object (put name value no_members)

-- the viewpoint itself
unfoldable pub whole_tree : ℕ → ViewIs → Data
whole_tree project v =
    object (put_index v.body.index (put_text (codes "guid") (identifier_text project v.serial) no_members))

-- a part of a viewpoint of a project
unfoldable pub view_tree : ℕ → ViewIs → ViewPart → Data
view_tree project v part.Whole = whole_tree project v
view_tree project v part.Selection = one_member (codes "selection") (components_tree v.body.selection)
view_tree project v part.Coloring =
    one_member (codes "coloring") (array (listed coloring_tree v.body.coloring))
view_tree project v part.Visibility = one_member (codes "visibility") (visibility_tree v.body)
