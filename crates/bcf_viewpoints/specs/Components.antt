-- What viewpoints say of components (BCF API 3.0, Viewpoint Services).
use Rattle.std.specs.Prelude.{IfSome, All}
use Rattle.bim_model.specs.Guids.{IsGuid}
use Rattle.bim_model.specs.declared.guid.Guid.{Guid}
use Rattle.bcf_viewpoints.specs.declared.component.Component.{Component}
use Rattle.bcf_viewpoints.specs.declared.component.Coloring.{Coloring}

-- its identifier, if it has one, is an identifier
abbrev pub IsComponent : Component → Type 0
IsComponent c = IfSome c.ifc_guid (λ (g : Guid). IsGuid g.chars)

-- each component of a coloring has an identifier
abbrev pub IsColoring : Coloring → Type 0
IsColoring c = All IsComponent c.components
