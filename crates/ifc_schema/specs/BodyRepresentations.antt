-- Which elements have a body: one of the shape representations of their shape has the identifier `Body`. Only values are looked at, also of
-- instances that lack their own form (IFC4 ADD2 TC1, IfcProduct, IfcProductDefinitionShape, IfcShapeRepresentation).
use Rattle.std.specs.Prelude.{◌&&◌, ◌||◌, Bool, true, List, map, option_and_then, codes}
use Rattle.std.specs.List.{list_any, slice_get}
use Rattle.p21_values.specs.declared.value.Value21.{Value21}
use Rattle.p21_values.specs.declared.value.Instance.{Instance}
use Rattle.ifc_instances.specs.declared.entity.Entity.TheVariants.{ProductShape, Representation}
use Rattle.ifc_schema.specs.declared.form.When.{When}
use Rattle.ifc_schema.specs.declared.form.When.TheVariants.{Always, WithBody, WithItems, OfLength}
use Rattle.ifc_schema.specs.AttributeWords.{says_body}
use Rattle.p21_values.specs.Values.{words_of, reference_of, items_of}
use Rattle.p21_values.specs.InstanceLookup.{look}
use Rattle.ifc_instances.specs.EntityLookup.{is_a, some_passes, says}

-- the identifier of a representation is `Body`
unfoldable pub is_body : Instance → Bool
is_body i = some_passes says_body (option_and_then words_of (slice_get i.values 1))

-- a shape representation that is a body
abbrev pub is_body_representation : Instance → Bool
is_body_representation i = is_a Representation i && is_body i

-- the instance that a value refers to passes the test
abbrev pub target_passes : List Instance → (Instance → Bool) → Value21 → Bool
target_passes world test v = some_passes test (option_and_then (look world) (reference_of v))

-- one of these values refers to a body
abbrev pub lists_body : List Instance → List Value21 → Bool
lists_body world = list_any (target_passes world is_body_representation)

-- a shape has a representation that is a body
unfoldable pub is_body_shape : List Instance → Instance → Bool
is_body_shape world i = is_a ProductShape i
    && some_passes (lists_body world) (option_and_then items_of (slice_get i.values 2))

-- place by place, whether a shape stands there that has one
abbrev pub body_shapes : List Instance → List Bool
body_shapes world = map (is_body_shape world) world

-- an element has a body
unfoldable pub has_body : List Instance → Instance → Bool
has_body world i = some_passes (target_passes world (is_body_shape world)) (slice_get i.values 6)

-- place by place, whether an instance has one
abbrev pub bodied_of : List Instance → List Bool
bodied_of world = map (has_body world) world

-- a unit of length, by what it says of its kind (IFC4 ADD2 TC1, IfcNamedUnit)
unfoldable pub is_of_length : Instance → Bool
is_of_length i = says (codes "LENGTHUNIT") i 1

-- An attribute is followed in this instance. Whether the instance is mapped is given.
abbrev pub applies : List Instance → Bool → Instance → When → Bool
applies world mapped i Always = true
applies world mapped i WithBody = has_body world i
applies world mapped i WithItems = mapped || is_body i
applies world mapped i OfLength = is_of_length i
