-- What the element of a number is (IFC4 ADD2 TC1, IfcProduct).
use Rattle.std.specs.Prelude.{◌≡◌, ℕ, List, Some}
use Rattle.bim_model.specs.declared.upload.Mode.{Mode}
use Rattle.bim_model.specs.declared.element.Element.{Element}
use Rattle.p21_values.specs.declared.value.Instance.{Instance}
use Rattle.p21_values.specs.InstanceLookup.{look}
use Rattle.ifc_units.specs.declared.scale.Scale.{Scale}
use Rattle.ifc_elements.specs.ElementTexts.{guid_of, name_of}
use Rattle.ifc_elements.specs.Storeys.{IsStoreyName}
use Rattle.ifc_elements.specs.Surfaces.{IsSurface}

-- the element of that number
pub record IsElement (world : List Instance) (scale : Scale) (mode : Mode) (id : ℕ)
    (element : Element) : Type 0 where
  pub instance : Instance
  pub found : look world id ≡ Some instance
  pub guid : guid_of instance ≡ Some element.guid.chars
  pub class : instance.keyword ≡ Some element.class
  pub name : element.name ≡ name_of instance
  pub storey : IsStoreyName world id element.storey
  pub surface : IsSurface world scale mode instance element.triangles
